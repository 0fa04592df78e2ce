-- Streams taken in pieces.
use Rattle.std.proofs.Common.{◌≡◌, ℕ, suc, ◌+◌, ◌<◌, ◌≤◌, true, List, [], ◌∷◌, ◌++◌, length, refl, sym, ap, ◌∙◌, arith, append_assoc, append-nil, length-append, inl, inr}
use Rattle.std.specs.Prelude.{Option, Some, None, nat_lt, ◌==◌}
use Rattle.std.specs.Option.{is_some}
use Rattle.std.specs.Int.{w32, from_le_bytes}
use Rattle.std.proofs.lemmas.Bool.{cond-true, cond-false, lt-ltb, le-ltb, ne_eqb, cases_lt}
use Rattle.std.proofs.lemmas.List.{take-append-le}
use Rattle.hy_base.specs.declared.layout.Shape.{Shape}
use Rattle.hy_base.specs.declared.record.EntryKind.{EntryKind}
use Rattle.hy_formats.specs.StreamFormat.{Streamed, told_length, judged, taking, taken, came, nothing_came}
use Rattle.hy_follow.specs.Steps.{due}

-- in two pieces
pub taken-append : (c : Streamed) (a b : List ℕ) → taken c (a ++ b) ≡ taken (taken c a) b
taken-append c [] b = refl
taken-append c (x ∷ a) b = taken-append (taking c x) a b

pub came-append : (a b : List ℕ) → came (a ++ b) ≡ taken (came a) b
came-append a b = taken-append nothing_came a b

-- nothing is taken behind what was refused
pub bad_taken : (c : Streamed) (bytes : List ℕ) → is_some c.bad ≡ true → taken c bytes ≡ c
bad_taken c [] bad = refl
bad_taken c (b ∷ bytes) bad = ap (λ (d : Streamed). taken d bytes) (cond-true (is_some c.bad) c _ bad) ∙ bad_taken c bytes bad

-- ---- up to what is due

pub due_low : (s : Shape) (w : List ℕ) → length w < 4 → due (Some s) w ≡ 4
due_low s w few = cond-true (nat_lt (length w) 4) 4 _ (lt-ltb (length w) 4 few)

pub due_high : (s : Shape) (w : List ℕ) → 4 ≤ length w → due (Some s) w ≡ 4 + told_length w
due_high s w many = cond-false (nat_lt (length w) 4) 4 _ (le-ltb (length w) 4 many)

-- what is due doesn't change before it is there
pub due_kept : (s : Option Shape) (w more : List ℕ) → length w + length more < due s w → due s (w ++ more) ≡ due s w
due_kept None w more below = refl
due_kept (Some s) w more below = elim (cases_lt (length w) 4) [
  | inl few ↦
      let low : due (Some s) w ≡ 4 = due_low s w few in
      due_low s (w ++ more) (omega (arith, length-append w more, low, below)) ∙ sym low
  | inr many ↦
      due_high s (w ++ more) (omega (arith, length-append w more, many)) ∙ (ap (λ (l : List ℕ). 4 + from_le_bytes w32 l) (take-append-le 4 w more many) ∙ sym (due_high s w many))
]

abbrev pub waiting_at : Option Shape → List EntryKind → ℕ → List ℕ → Streamed
waiting_at s es place waiting = record { shape = s; entries = es; place = place; waiting = waiting; bad = None }

module _ (s : Option Shape) (es : List EntryKind) (place : ℕ) where
  -- before that nothing is judged
  pub not_due : (w more : List ℕ) → 0 < length more → length w + length more < due s w → judged s (waiting_at s es place (w ++ more)) ≡ waiting_at s es place (w ++ more)
  not_due w more some below = by_shape s below
    where
      all : List ℕ
      all = w ++ more

      size : length all ≡ length w + length more
      size = length-append w more

      c : Streamed
      c = waiting_at s es place all

      by_shape : (t : Option Shape) → length w + length more < due t w → judged t c ≡ c
      by_shape None below = cond-false (length all == 19) _ c (ne_eqb (length all) 19 (λ e. omega (arith, e, size, below)))
      by_shape (Some t) below = elim (cases_lt (length w) 4) [
        | inl few ↦
            let low : due (Some t) w ≡ 4 = due_low t w few in
            cond-false (length all == 4) _ _ (ne_eqb (length all) 4 (λ e. omega (arith, e, size, low, below)))
            ∙ cond-false (length all == 4 + told_length all) _ c (ne_eqb (length all) (4 + told_length all) (λ e. omega (arith, e, size, low, below)))
        | inr many ↦
            let high : due (Some t) all ≡ 4 + told_length all = due_high t all (omega (arith, size, many)) in
            let kept : due (Some t) all ≡ due (Some t) w = due_kept (Some t) w more below in
            cond-false (length all == 4) _ _ (ne_eqb (length all) 4 (λ e. omega (arith, e, size, many, some)))
            ∙ cond-false (length all == 4 + told_length all) _ c (ne_eqb (length all) (4 + told_length all) (λ e. omega (arith, e, size, high, kept, below)))
      ]

  -- Bytes up to what is due are judged at once.
  pub first_taken : (w : List ℕ) (b : ℕ) (front : List ℕ) → length w + suc (length front) ≤ due s w
      → taken (waiting_at s es place w) (b ∷ front) ≡ judged s (waiting_at s es place (w ++ b ∷ front))
  first_taken w b [] within = refl
  first_taken w b (x ∷ front) within =
      let one : 0 < length (b ∷ []) = omega arith in
      let size : length (w ++ b ∷ []) ≡ length w + 1 = length-append w (b ∷ []) in
      let below : length w + length (b ∷ []) < due s w = omega (arith, within) in
      let kept : due s (w ++ b ∷ []) ≡ due s w = due_kept s w (b ∷ []) below in
      ap (λ (d : Streamed). taken d (x ∷ front)) (not_due w (b ∷ []) one below)
      ∙ (first_taken (w ++ b ∷ []) x front (omega (arith, kept, size, within)) ∙ ap (λ (l : List ℕ). judged s (waiting_at s es place l)) (append_assoc w (b ∷ []) (x ∷ front)))

  pub some_taken : (w front : List ℕ) → 0 < length front → length w + length front ≤ due s w → taken (waiting_at s es place w) front ≡ judged s (waiting_at s es place (w ++ front))
  some_taken w [] some within = absurd (omega (arith, some))
  some_taken w (b ∷ front) some within = first_taken w b front (omega (arith, within))

  -- fewer than these are kept
  pub few_taken : (w front : List ℕ) → length w + length front < due s w → taken (waiting_at s es place w) front ≡ waiting_at s es place (w ++ front)
  few_taken w [] below = ap (waiting_at s es place) (sym (append-nil w))
  few_taken w (b ∷ front) below = first_taken w b front (omega (arith, below)) ∙ not_due w (b ∷ front) (omega arith) below
