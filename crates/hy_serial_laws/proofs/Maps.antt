-- The live pairs of rows, as a map to which the rows were written one after another.
use Rattle.std.proofs.Common.{◌≡◌, ◌∙◌, ℕ, ◌<◌, List, [], ◌∷◌, map, refl, sym, ap}
use Rattle.std.specs.Prelude.{Option, Some, None}
use Rattle.hy_base.specs.declared.record.Row.{Row}
use Rattle.hy_base.specs.declared.record.Write.{Write}
use Rattle.hy_base.specs.Lists.{put}
use Rattle.hy_base.specs.Rows.{Each, IsOrdered, applied, row_before, rows_at}
use Rattle.hy_base.proofs.RowLemmas.{ordered_put}
use Rattle.hy_rules.specs.History.{pairs_of}
use Rattle.hy_rules.specs.Exec.{after_writes}
use Rattle.hy_rules.proofs.PairLemmas.{one_row}
use Rattle.hy_serial_laws.proofs.Pairs.{AllPairs, PairsRise}

-- a row as a write
abbrev pub write_of : Row → Write
write_of r = record { key = r.key; value = r.value }

pub writes_of_rows : (pos : ℕ) (ws : List Write) → map write_of (rows_at pos ws) ≡ ws
writes_of_rows pos [] = refl
writes_of_rows pos (w ∷ ws) = ap (λ vs. w ∷ vs) (writes_of_rows pos ws)

-- ---- the pairs of rows in order rise

all_above : (key : ℕ) (rows : List Row) → Each (λ s. key < s.key) rows → AllPairs (λ p. key < p.key) (pairs_of rows)
all_above key [] h = tt
all_above key (r ∷ rs) h = go r.value refl (all_above key rs h.1)
  where
    go : (o : Option (List ℕ)) → r.value ≡ o → AllPairs (λ p. key < p.key) (pairs_of rs) → AllPairs (λ p. key < p.key) (pairs_of (r ∷ rs))
    go None e more = rw e more
    go (Some v) e more = rw e (h.0, more)

pub pairs_rise : (rows : List Row) → IsOrdered rows → PairsRise (pairs_of rows)
pairs_rise [] o = tt
pairs_rise (r ∷ rs) o = go r.value refl (pairs_rise rs o.1)
  where
    go : (v : Option (List ℕ)) → r.value ≡ v → PairsRise (pairs_of rs) → PairsRise (pairs_of (r ∷ rs))
    go None e more = rw e more
    go (Some v) e more = rw e (all_above r.key rs o.0, more)

-- ---- several

-- the pairs of rows with others put in place: the map with those written to it
pub pairs_applied : (rows ws : List Row) → IsOrdered rows → pairs_of (applied rows ws) ≡ after_writes (pairs_of rows) (map write_of ws)
pairs_applied rows [] h = refl
pairs_applied rows (w ∷ ws) h =
    pairs_applied (put row_before w rows) ws (ordered_put w rows h) ∙ ap (λ ps. after_writes ps (map write_of ws)) (sym (one_row w.key w.writer w.value rows h))
