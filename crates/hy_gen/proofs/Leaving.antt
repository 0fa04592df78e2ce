-- What a program of a load leaves: one that adds or puts leaves a write, and one that only gets leaves none.
use Rattle.std.proofs.Common.{◌≡◌, ℕ, zero, suc, ◌+◌, ◌%◌, ◌^◌, ◌<◌, ◌≤◌, Bool, true, false, List, [], ◌∷◌, length, refl, sym, subst, arith, inl, inr, Option, Some, None, lt-ltb}
use Rattle.std.proofs.lemmas.Bool.{cases_eq, cases_order, eq-eqb, ne_eqb, le-ltb}
use Rattle.std.specs.Prelude.{decimal, find, nat_lt, ◌==◌, if◌then◌else◌}
use Rattle.std.specs.List.{AllByRecursion}
use Rattle.hy_base.specs.declared.record.Isolation.TheVariants.{Serializable}
use Rattle.hy_base.specs.declared.record.Write.{Write}
use Rattle.hy_base.specs.declared.report.Answer.{Answer}
use Rattle.hy_base.specs.declared.report.Answer.TheVariants.{Sum}
use Rattle.hy_base.specs.declared.report.Pair.{Pair}
use Rattle.hy_base.specs.declared.workload.Command.TheVariants.{Add}
use Rattle.hy_base.specs.Entry.{write_before}
use Rattle.hy_base.specs.Lists.{put}
use Rattle.hy_base.proofs.NumberLemmas.{number_of_decimal}
use Rattle.hy_rules.specs.Exec.{Effects, no_effects, own_write, perform, perform_all, exec, is_unrecorded, seen, sum_at, sum_of, value_in, with_point, with_sum}
use Rattle.hy_gen.specs.declared.drawing.Draw.{Draw}
use Rattle.hy_gen.specs.Draws.{draw_of, reads_only}
use Rattle.hy_gen.specs.Load.{commands_by, program_numbered, value_numbered}
use Rattle.hy_gen.specs.LoadLaws.{CountsUpTo}
use Rattle.hy_gen.proofs.Counting.{IsCountUpTo}

-- a list of writes of which each counts
abbrev pub WritesCount : ℕ → List Write → Type 0
WritesCount bound ws = AllByRecursion (CountsUpTo bound) ws

-- pairs in which the counted keys hold numbers
abbrev pub PairsCount : ℕ → List Pair → Type 0
PairsCount bound pairs = (key : ℕ) → key < 500 → IsCountUpTo bound (value_in pairs key)

more : (bound : ℕ) (ws : List Write) → WritesCount bound ws → WritesCount (bound + 1) ws
more bound [] a = tt
more bound (w ∷ ws) a = ((λ low. let h = a.0 low in (h.0, omega (arith, h.1), h.2)), more bound ws a.1)

-- a write is put in its place, and there is one
record IsPut (bound : ℕ) (ws : List Write) : Type 0 where
  some : 0 < length ws
  counts : WritesCount bound ws

put_counts : (bound : ℕ) (w : Write) (ws : List Write) → CountsUpTo bound w → WritesCount bound ws → IsPut bound (put write_before w ws)
put_counts bound w [] p a = record { some = omega arith; counts = (p, tt) }
put_counts bound w (x ∷ xs) p a =
    let rest = put_counts bound w xs p a.1 in
    elim (cases_order w.key x.key) [
      | inl e ↦ rw (le-ltb w.key x.key (omega arith), le-ltb x.key w.key (omega arith)) (record { some = omega arith; counts = (p, a.1) })
      | inr k ↦ elim k [
        | inl lt ↦ rw (lt-ltb w.key x.key lt) (record { some = omega arith; counts = (p, a) })
        | inr gt ↦ rw (le-ltb w.key x.key (omega arith), lt-ltb x.key w.key gt) (record { some = omega arith; counts = (a.0, rest.counts) })
      ]
    ]

own_counts : (bound key : ℕ) (ws : List Write) → key < 500 → WritesCount bound ws → (o : Option Write) → find (λ w. w.key == key) ws ≡ o → (w : Write) → o ≡ Some w → IsCountUpTo bound w.value
own_counts bound key [] low a o is w e = cc
own_counts bound key (x ∷ xs) low a o is w e =
    elim (cases_eq x.key key) [
      | inl same ↦
          let first : x ≡ w = let f = rw (eq-eqb x.key key same) at is in cc in
          let h = a.0 (omega (arith, same, low)) in
          subst (λ (y : Write). IsCountUpTo bound y.value) first (subst (IsCountUpTo bound) (sym h.2) (h.0, h.1, refl))
      | inr other ↦ own_counts bound key xs low a.1 o (rw (ne_eqb x.key key other) at is) w e
    ]

-- what is seen at a counted key is a number, or nothing
seen_counts : (bound key : ℕ) (pairs : List Pair) (e : Effects) → key < 500 → PairsCount bound pairs → WritesCount bound e.writes → IsCountUpTo bound (seen pairs e key)
seen_counts bound key pairs e low p a = go (own_write e key) refl
  where
    go : (o : Option Write) → own_write e key ≡ o → IsCountUpTo bound (seen pairs e key)
    go None is = rw is (p key low)
    go (Some w) is = rw is (own_counts bound key e.writes low a (Some w) is w refl)

-- one more than what is seen is a sum
record IsSum (bound : ℕ) (a : Answer) : Type 0 where
  sum : ℕ
  least : sum ≤ bound
  is : a ≡ Sum sum

small_sum : (bound m : ℕ) → m ≤ bound → bound + 1 < 2 ^ 64 → IsSum (bound + 1) (sum_of (Some m) 1)
small_sum bound m most small = record { sum = m + 1; least = omega arith; is = rw (lt-ltb (m + 1) (2 ^ 64) (omega (arith, most, small))) refl }

one_more : (bound : ℕ) (v : Option (List ℕ)) → bound + 1 < 2 ^ 64 → IsCountUpTo bound v → IsSum (bound + 1) (sum_at v 1)
one_more bound None small h = small_sum bound 0 (omega arith) small
one_more bound (Some v) small h = rw (number_of_decimal v h.0 (omega (arith, h.1, small)) h.2) (small_sum bound h.0 h.1 small)

point_keeps : (b : Bool) (key : ℕ) (e : Effects) → (if b then e else record e { points = put nat_lt key e.points }).writes ≡ e.writes
point_keeps true key e = refl
point_keeps false key e = refl

sum_put : (bound key : ℕ) (e : Effects) (a : Answer) → key < 500 → WritesCount bound e.writes → IsSum bound a → IsPut bound (with_sum key a (with_point key e)).writes
sum_put bound key e a low ws s =
    let sum : ℕ = s.sum in
    let w : Write = record { key = key; value = Some (decimal sum) } in
    let same : (with_point key e).writes ≡ e.writes = point_keeps (is_unrecorded key e) key e in
    rw s.is (subst (λ (xs : List Write). IsPut bound (put write_before w xs)) (sym same) (put_counts bound w e.writes (λ h. (sum, s.least, refl)) ws))

-- an add of one to a counted key
add_put : (bound key : ℕ) (pairs : List Pair) (e : Effects) → key < 500 → bound + 1 < 2 ^ 64 → PairsCount bound pairs → WritesCount bound e.writes → IsPut (bound + 1) (perform pairs e (Add key 1)).1.writes
add_put bound key pairs e low small p a =
    sum_put (bound + 1) key e (sum_at (seen pairs e key) 1) low (more bound e.writes a) (one_more bound (seen pairs e key) small (seen_counts bound key pairs e low p a))

more_pairs : (bound : ℕ) (pairs : List Pair) → PairsCount bound pairs → PairsCount (bound + 1) pairs
more_pairs bound pairs p key low = go (value_in pairs key) (p key low)
  where
    go : (o : Option (List ℕ)) → IsCountUpTo bound o → IsCountUpTo (bound + 1) o
    go None h = tt
    go (Some v) h = (h.0, omega (arith, h.1), h.2)

-- what a program leaves that only reads, or doesn't
pub record ProgramLeaves (reads : Bool) (bound : ℕ) (ws : List Write) : Type 0 where
  pub none : reads ≡ true → ws ≡ []
  pub some : reads ≡ false → 0 < length ws
  pub counts : WritesCount bound ws

put_leaves : (bound : ℕ) (ws : List Write) → IsPut bound ws → ProgramLeaves false bound ws
put_leaves bound ws p = record { none = λ e. cc e; some = λ e. p.some; counts = p.counts }

value_leaves : (bound key : ℕ) (v : List ℕ) → ProgramLeaves false bound (record { key = 500 + key; value = Some v } ∷ [])
value_leaves bound key v = record { none = λ e. cc e; some = λ e. omega arith; counts = (λ low. absurd (omega (arith, low)), tt) }

by_kind : (number kind key other bound : ℕ) (pairs : List Pair) → kind < 4 → key < 500 → other < 500 → bound + 2 < 2 ^ 64 → PairsCount bound pairs
    → ProgramLeaves (kind == 3) (bound + 2) (perform_all pairs (no_effects Serializable) (commands_by number kind key other)).1.writes
by_kind number zero key other bound pairs few low lower small p =
    let first = perform pairs (no_effects Serializable) (Add key 1) in
    let one : IsPut (bound + 1) first.1.writes = add_put bound key pairs (no_effects Serializable) low (omega (arith, small)) p tt in
    let two : IsPut (bound + 1 + 1) (perform pairs first.1 (Add other 1)).1.writes = add_put (bound + 1) other pairs first.1 lower (omega (arith, small)) (more_pairs bound pairs p) one.counts in
    let both : bound + 1 + 1 ≡ bound + 2 = omega arith in
    put_leaves (bound + 2) _ (subst (λ (b : ℕ). IsPut b (perform pairs first.1 (Add other 1)).1.writes) both two)
by_kind number (suc zero) key other bound pairs few low lower small p = value_leaves (bound + 2) other (value_numbered number)
by_kind number (suc (suc zero)) key other bound pairs few low lower small p = value_leaves (bound + 2) other (value_numbered number)
by_kind number (suc (suc (suc zero))) key other bound pairs few low lower small p = record { none = λ e. refl; some = λ e. cc e; counts = tt }
by_kind number (suc (suc (suc (suc n)))) key other bound pairs few low lower small p = absurd (omega (arith, few))

pub program_leaves : (seed number bound : ℕ) (pairs : List Pair) → bound + 2 < 2 ^ 64 → PairsCount bound pairs → ProgramLeaves (reads_only seed number) (bound + 2) (exec (program_numbered seed number) pairs).1.writes
program_leaves seed number bound pairs small p =
    let d : Draw = draw_of seed number in by_kind number (d.kind % 4) (d.first % 500) (d.second % 500) bound pairs (omega arith) (omega arith) (omega arith) small p
