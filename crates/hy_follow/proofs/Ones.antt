-- What is held of a stream is decided by its bytes.
use Rattle.std.proofs.Common.{◌≡◌, ℕ, ◌*◌, ◌/◌, ◌<◌, List, length, take, drop, refl, sym, ap, ◌∙◌}
use Rattle.std.specs.Prelude.{Option, Some, None, IfSome}
use Rattle.std.proofs.Math.Nat.{mul-div_cancel_left}
use Rattle.hy_base.specs.declared.layout.Shape.{Shape}
use Rattle.hy_base.specs.declared.record.EntryKind.{EntryKind}
use Rattle.hy_base.specs.Shape.{base_groups, kept_groups, whole_groups}
use Rattle.hy_formats.specs.StreamFormat.{came}
use Rattle.hy_rules.specs.History.{commits_past}
use Rattle.hy_rules.specs.Validation.{verdicts_after, rows_after}
use Rattle.hy_roll_laws.specs.Rolling.{Roll, rolled_upto}
use Rattle.hy_follow.specs.Following.{IsRollOf, IsRollingOf, shape_of, upto}
use Rattle.hy_follow.specs.FollowLaws.{OneFollower}

-- the roll of so many groups of entries, from the start on
abbrev roll_of : Shape → List EntryKind → ℕ → Roll
roll_of s es n =
    let front : List EntryKind = take (s.group * n) es in
    record {
      shape = s;
      from = 0;
      rolled = record { groups = n; tree = rows_after s front n; base_tree = rows_after s front (base_groups s n); kept = rows_after s front (kept_groups s n); verdicts = drop 0 (verdicts_after s front n) };
      commits = commits_past (s.group * base_groups s n) (verdicts_after s front n);
    }

is_roll_of : (es : List EntryKind) (r : Roll) → IsRollOf es r → r ≡ roll_of r.shape es r.rolled.groups
is_roll_of es r is =
    let verdicts = is.stands.verdicts_are ∙ ap (λ (n : ℕ). drop n (verdicts_after r.shape (take (rolled_upto r) es) r.rolled.groups)) is.from_start in
    λ i. record {
      shape = r.shape;
      from = is.from_start i;
      rolled = record { groups = r.rolled.groups; tree = is.stands.tree_is i; base_tree = is.stands.base_is i; kept = is.stands.kept_is i; verdicts = verdicts i };
      commits = is.stands.commits_are i;
    }

same_groups : (g m n : ℕ) → 0 < g → g * m ≡ g * n → m ≡ n
same_groups g m n some e = sym (mul-div_cancel_left m some) ∙ (ap (λ (p : ℕ). p / g) e ∙ mul-div_cancel_left n some)

one_roll : (es : List EntryKind) (q r : Option Roll) → IsRollingOf es q → IsRollingOf es r → shape_of q ≡ shape_of r → IfSome q (λ r. rolled_upto r ≡ whole_groups r.shape (length es)) → IfSome r (λ r. rolled_upto r ≡ whole_groups r.shape (length es)) → q ≡ r
one_roll es None None of_q of_r shape whole_q whole_r = refl
one_roll es None (Some r) of_q of_r shape whole_q whole_r = absurd cc
one_roll es (Some q) None of_q of_r shape whole_q whole_r = absurd cc
one_roll es (Some q) (Some r) of_q of_r shape whole_q whole_r =
    let same : q.shape ≡ r.shape = cc in
    let size : q.shape.group * r.rolled.groups ≡ r.shape.group * r.rolled.groups = ap (λ (s : Shape). s.group * r.rolled.groups) same in
    let groups : q.rolled.groups ≡ r.rolled.groups = same_groups q.shape.group q.rolled.groups r.rolled.groups of_q.good.group.at_least (whole_q ∙ (ap (λ (s : Shape). whole_groups s (length es)) same ∙ (sym whole_r ∙ sym size))) in
    ap Some (is_roll_of es q of_q ∙ ((λ i. roll_of (same i) es (groups i)) ∙ sym (is_roll_of es r of_r)))

pub one_follower : OneFollower
one_follower bytes f g of_f of_g =
    let a = of_f.holds in
    let b = of_g.holds in
    let es : List EntryKind = (came bytes).entries in
    let roll : f.roll ≡ g.roll = one_roll es f.roll g.roll a.rolling b.rolling (a.shape ∙ sym b.shape) of_f.whole of_g.whole in
    let rest : f.rest ≡ g.rest = a.rest ∙ (ap (λ (o : Option Roll). drop (upto o) es) roll ∙ sym b.rest) in
    λ i. record { roll = roll i; rest = rest i; place = (a.place ∙ sym b.place) i; waiting = (a.waiting ∙ sym b.waiting) i; bad = (a.bad ∙ sym b.bad) i }
