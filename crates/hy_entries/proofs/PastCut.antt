-- The entries past the position where a log was cut are those of all its bodies.
use Rattle.std.proofs.Common.{◌≡◌, ℕ, ◌-◌, IsTrue, refl, subst, arith, List, drop, sym, ap, ◌∙◌}
use Rattle.std.specs.Prelude.{Bool, Result}
use Rattle.hy_base.specs.declared.layout.Shape.{Shape}
use Rattle.hy_base.specs.declared.record.EntryKind.{EntryKind}
use Rattle.hy_formats.specs.declared.damage.BadEntry.{BadEntry}
use Rattle.hy_formats.specs.EntryFormat.{entries_past}
use Rattle.hy_entries.specs.LogEntries.{AreFoundIn, RefusesEntry}
use Rattle.hy_entries.specs.declared.reading.EntriesError.{EntriesError}

pub past_cut : (s : Shape) (from at : ℕ) (bodies : List (List ℕ)) (read : Result (List EntryKind) (ℕ × BadEntry)) → at ≡ from → entries_past s at (drop (at - from) bodies) ≡ read → entries_past s from bodies ≡ read
past_cut s from at bodies read same is =
    let none : at - from ≡ 0 = omega (arith, same) in
    ap (λ n. entries_past s n bodies) (sym same) ∙ ap (λ n. entries_past s at (drop n bodies)) (sym none) ∙ is

-- so is the refusal
pub refused_past : (tells : Bool) (s : Shape) (from at : ℕ) (bodies : List (List ℕ)) (e : EntriesError) → at ≡ from → (IsTrue tells → RefusesEntry e (entries_past s at (drop (at - from) bodies))) → IsTrue tells → RefusesEntry e (entries_past s from bodies)
refused_past tells s from at bodies e same refused told = subst (RefusesEntry e) (sym (past_cut s from at bodies (entries_past s at (drop (at - from) bodies)) same refl)) (refused told)

-- so of a log that wasn't cut they are those of all bodies
pub from_start : (tells : Bool) (s : Shape) (from : ℕ) (bodies : List (List ℕ)) (entries : List EntryKind) → from ≡ 0 → AreFoundIn tells (record { shape = s; from = 0 }) (drop (0 - from) bodies) entries → AreFoundIn tells (record { shape = s; from = from }) bodies entries
from_start tells s from bodies entries whole found =
    let none : 0 - from ≡ 0 = omega arith in
    subst (λ (n : ℕ). AreFoundIn tells (record { shape = s; from = n }) bodies entries) (sym whole) (subst (λ (n : ℕ). AreFoundIn tells (record { shape = s; from = 0 }) (drop n bodies) entries) none found)
