-- What the looks before a run tell.
use Rattle.std.proofs.Common.{◌≡◌, ◌∙◌, ℕ, zero, suc, ◌+◌, ◌*◌, ◌-◌, ◌/◌, ◌%◌, ◌<◌, ◌≤◌, List, [], ◌∷◌, ◌++◌, length, take, drop, refl, sym, ap, subst, arith, append_assoc, length-append, length-take, length-drop}
use Rattle.std.proofs.lemmas.List.{append-nil, length-replicate, take-append-drop}
use Rattle.std.proofs.Math.Nat.{div-add-mod, mod-eq_of_lt, mod-lt, mod_self, mul-div_cancel_left}
use Rattle.std.specs.Prelude.{Option, None, Some, replicate, ⊤}
use Rattle.std.specs.Option.{option_or}
use Rattle.hy_base.specs.declared.layout.Shape.{Shape}
use Rattle.hy_base.specs.declared.record.EntryKind.{EntryKind}
use Rattle.hy_base.specs.declared.record.EntryKind.TheVariants.{Filler}
use Rattle.hy_base.specs.declared.report.Pair.{Pair}
use Rattle.hy_base.specs.Log.{IsLawful, HaveLawfulSnaps}
use Rattle.hy_base.specs.Script.{Workload, IsScript}
use Rattle.hy_base.specs.Shape.{IsGoodShape, whole_groups}
use Rattle.hy_rules.specs.History.{pairs_of}
use Rattle.hy_rules.specs.Moves.{missing}
use Rattle.hy_rules.specs.Runs.{setting_of}
use Rattle.hy_rules.specs.SoundTables.{table_fault}
use Rattle.hy_rules.specs.TableRuns.{completed, opening_fault}
use Rattle.hy_rules.specs.Validation.{live, rows_after}
use Rattle.hy_rules.proofs.Growth.{lawful_rest, live_grows}
use Rattle.hy_roll_laws.specs.Rolling.{Roll, Stands, roll_on, rolled_upto}
use Rattle.hy_roller.proofs.Standing.{roll_stands}
use Rattle.hy_table_look.specs.Looks.{OpeningLooksTell, filled, looked, soon}

fillers_lawful : (s : Shape) (pos n : ℕ) → HaveLawfulSnaps s pos (replicate n (Filler 1))
fillers_lawful s pos zero = tt
fillers_lawful s pos (suc n) = (tt, fillers_lawful s (pos + 1) n)

both_lawful : (s : Shape) (pos : ℕ) (es fs : List EntryKind) → HaveLawfulSnaps s pos es → ((at : ℕ) → HaveLawfulSnaps s at fs) → HaveLawfulSnaps s pos (es ++ fs)
both_lawful s pos [] fs h k = k pos
both_lawful s pos (e ∷ es) fs h k = (h.0, both_lawful s (pos + 1) es fs h.1 k)

-- a roller's rows are those that are live at the end of the entries for which it stands
rows_live : (s : Shape) (front : List EntryKind) (r : Roll) → 1 ≤ s.group → r.shape ≡ s → Stands front r → pairs_of r.rolled.tree ≡ live s front (length front)
rows_live s front r some shape stands =
    let k : ℕ = r.rolled.groups in
    let same : r.shape.group ≡ s.group = ap (λ (x : Shape). x.group) shape in
    let count : length front ≡ s.group * r.rolled.groups = stands.whole ∙ ap (λ g. g * r.rolled.groups) same in
    let groups : length front / s.group ≡ r.rolled.groups = ap (λ n. n / s.group) count ∙ mul-div_cancel_left r.rolled.groups {n = s.group} some in
    ap pairs_of stands.tree_is ∙ (λ i. pairs_of (rows_after (shape i) front (sym groups i)))

module _ (script : Workload) (found : List EntryKind) (r : Roll) (is : IsScript script) (lawful : IsLawful script.shape found) (shape : r.shape ≡ script.shape) (onward : r.from ≤ rolled_upto r) where
  abbrev s : Shape
  s = script.shape

  abbrev g : ℕ
  g = script.shape.group

  abbrev upto : ℕ
  upto = whole_groups script.shape (length found)

  abbrev front : List EntryKind
  front = take (whole_groups script.shape (length found)) found

  some : 1 ≤ g
  some = is.shape.group.at_least

  cut : front ++ drop upto found ≡ found
  cut = take-append-drop upto found

  front_count : length front ≡ upto
  front_count = omega (arith, length-take upto found)

  first_look : Stands front r → pairs_of r.rolled.tree ≡ live s found upto
  first_look stands =
      rows_live s front r some shape stands
      ∙ (ap (live s front) front_count ∙ (sym (live_grows s front (drop upto found) upto (omega (arith, front_count))) ∙ ap (λ log. live s log upto) cut))

  waiting_count : length (drop upto found) ≡ length found % g
  waiting_count = let l : length found % g < g = mod-lt (length found) {m = g} some in omega (arith, length-drop upto found)

  short : length found % g < g
  short = mod-lt (length found) {m = g} some

  lacks : (n : ℕ) → 0 < n → n ≡ length found % g → missing (setting_of script) (length found) ≡ g - n
  lacks n more same = mod-eq_of_lt {n = g - length found % g} {m = g} (let l = short in omega (arith, l, more, same)) ∙ omega (arith, same)

  full_log : 0 < length (drop upto found) → front ++ filled s (drop upto found) ≡ completed script found
  full_log more =
      sym (append_assoc front (drop upto found) (replicate (g - length (drop upto found)) (Filler 1)))
      ∙ (λ i. cut i ++ replicate (sym (lacks (length (drop upto found)) more waiting_count) i) (Filler 1))

  -- the last group, completed, is whole
  whole_fill : 0 < length (drop upto found) → length (filled s (drop upto found)) ≡ g
  whole_fill more =
      let l = short in
      omega (arith, l, waiting_count, length-append (drop upto found) (replicate (g - length (drop upto found)) (Filler 1)), length-replicate (g - length (drop upto found)) (Filler 1))

  second_look : 0 < length (drop upto found) → Stands front r → pairs_of (soon r (drop upto found)).rolled.tree ≡ live s (completed script found) (length (completed script found))
  second_look more stands =
      let same : r.shape.group ≡ g = ap (λ (x : Shape). x.group) shape in
      let fill : List EntryKind = filled r.shape (drop upto found) in
      let fill_is : filled r.shape (drop upto found) ≡ filled s (drop upto found) = ap (λ x. filled x (drop upto found)) shape in
      let rest : HaveLawfulSnaps s (length front) (drop upto found) = lawful_rest s front (drop upto found) (subst (HaveLawfulSnaps s 0) (sym cut) lawful.snaps) in
      let snaps : HaveLawfulSnaps r.shape (length front) (filled r.shape (drop upto found)) =
      subst (λ x. HaveLawfulSnaps x (length front) (filled x (drop upto found))) (sym shape)
      (both_lawful s (length front) (drop upto found) (replicate (g - length (drop upto found)) (Filler 1)) rest (λ at. fillers_lawful s at (g - length (drop upto found)))) in
      let whole : length (filled r.shape (drop upto found)) % r.shape.group ≡ 0 = (λ i. length (fill_is i) % same i) ∙ (ap (λ n. n % g) (whole_fill more) ∙ mod_self g) in
      let good = subst IsGoodShape (sym shape) is.shape in
      let later : Stands (front ++ filled r.shape (drop upto found)) (soon r (drop upto found)) = roll_stands front (filled r.shape (drop upto found)) r good onward snaps whole stands in
      let all : front ++ filled r.shape (drop upto found) ≡ completed script found = ap (λ x. front ++ x) fill_is ∙ full_log more in
      rows_live s (front ++ filled r.shape (drop upto found)) (soon r (drop upto found)) some shape later ∙ ap (λ log. live s log (length log)) all

  nothing_more : drop upto found ≡ [] → completed script found ≡ found
  nothing_more none =
      let whole : length found % g ≡ 0 = sym waiting_count ∙ ap length none in
      let lacking : missing (setting_of script) (length found) ≡ 0 = ap (λ n. (g - n) % g) whole ∙ (ap (λ n. n % g) (let e : g - 0 ≡ g = omega arith in e) ∙ mod_self g) in
      ap (λ n. found ++ replicate n (Filler 1)) lacking ∙ append-nil found

  either : (a : Option ℕ) → option_or a a ≡ a
  either None = refl
  either (Some x) = refl

  looks_case : (w : List EntryKind) → drop upto found ≡ w → Stands front r → looked r w script.tables ≡ opening_fault script found
  looks_case [] e stands =
      let full : completed script found ≡ found = nothing_more e in
      let ends : upto ≡ length found = let n : length (drop upto found) ≡ 0 = ap length e in omega (arith, n, length-drop upto found) in
      let one : table_fault script.tables (pairs_of r.rolled.tree) ≡ table_fault script.tables (live s found upto) = ap (table_fault script.tables) (first_look stands) in
      let two : live s (completed script found) (length (completed script found)) ≡ live s found upto = ap (λ log. live s log (length log)) full ∙ ap (live s found) (sym ends) in
      one ∙ (sym (either (table_fault script.tables (live s found upto))) ∙ ap (λ m. option_or (table_fault script.tables (live s found upto)) (table_fault script.tables m)) (sym two))
  looks_case (x ∷ xs) e stands =
      let more : 0 < length (drop upto found) = let n : length (drop upto found) ≡ length (x ∷ xs) = ap length e in omega (arith, n) in
      (λ i. option_or (table_fault script.tables (first_look stands i)) (table_fault script.tables (pairs_of (soon r (sym e i)).rolled.tree)))
      ∙ ap (λ m. option_or (table_fault script.tables (live s found upto)) (table_fault script.tables m)) (second_look more stands)

pub opening_looks_tell : OpeningLooksTell
opening_looks_tell script found r is lawful shape onward stands = looks_case script found r is lawful shape onward (drop (whole_groups script.shape (length found)) found) refl stands
