-- The snapshots of a group of a lawful log.
use Rattle.std.proofs.Common.{◌≡◌, ℕ, zero, suc, ◌+◌, ◌-◌, ◌*◌, ◌%◌, ◌<◌, ◌≤◌, List, [], ◌∷◌, take, ap, ◌∙◌, subst, arith}
use Rattle.std.proofs.Math.Nat.{mul_comm}
use Rattle.std.proofs.lemmas.Nat.{mod-mul-add}
use Rattle.hy_base.specs.declared.layout.Shape.{Shape}
use Rattle.hy_base.specs.declared.record.EntryKind.{EntryKind}
use Rattle.hy_base.specs.declared.record.EntryKind.TheVariants.{Filler, Txn}
use Rattle.hy_base.specs.Log.{HaveLawfulSnaps}
use Rattle.hy_roll_laws.specs.RollingLaws.{SnapsUpTo}

-- the entries before a position's group
before_at : (s : Shape) (n j : ℕ) → j < s.group → (s.group * n + j + 1 - 1) - (s.group * n + j + 1 - 1) % s.group ≡ s.group * n
before_at s n j lt =
    let turned : s.group * n ≡ n * s.group = mul_comm s.group n in
    let same : s.group * n + j + 1 - 1 ≡ n * s.group + j = omega (arith, turned) in
    let part : (s.group * n + j + 1 - 1) % s.group ≡ j = ap (λ k. k % s.group) same ∙ mod-mul-add n s.group j lt in
    omega (arith, part, same, turned)

snaps_from : (s : Shape) (n j k : ℕ) (es : List EntryKind) → j + k ≤ s.group → HaveLawfulSnaps s (s.group * n + j) es → SnapsUpTo (s.group * n) (take k es)
snaps_from s n j zero es fits h = tt
snaps_from s n j (suc k) [] fits h = tt
snaps_from s n j (suc k) (Filler server ∷ es) fits h =
    let e : s.group * n + j + 1 ≡ s.group * n + (j + 1) = omega arith in snaps_from s n (j + 1) k es (omega (arith, fits)) (subst (λ p. HaveLawfulSnaps s p es) e h.1)
snaps_from s n j (suc k) (Txn i ∷ es) fits h =
    let e : s.group * n + j + 1 ≡ s.group * n + (j + 1) = omega arith in
    (omega (arith, h.0.1, before_at s n j (omega (arith, fits))), snaps_from s n (j + 1) k es (omega (arith, fits)) (subst (λ p. HaveLawfulSnaps s p es) e h.1))

-- the snapshots of the group that follows so many groups are up to these
pub group_snaps : (s : Shape) (n : ℕ) (es : List EntryKind) → HaveLawfulSnaps s (s.group * n) es → SnapsUpTo (s.group * n) (take s.group es)
group_snaps s n es h = let e : s.group * n ≡ s.group * n + 0 = omega arith in snaps_from s n 0 s.group es (omega arith) (subst (λ p. HaveLawfulSnaps s p es) e h)
