use Rattle.std.proofs.Common.{◌≡◌, ◌*◌, ◌%◌, ℕ, List, sym, ap, subst, ◌∙◌}
use Rattle.std.proofs.Math.Nat.{mul-mod_right, mul-div_cancel_left}
use Rattle.hy_base.specs.declared.layout.Shape.{Shape}
use Rattle.hy_base.specs.declared.record.Row.{Row}
use Rattle.hy_base.specs.Shape.{IsWithin, base_groups, before_horizon}
use Rattle.hy_base.specs.Rows.{Agrees, Each}
use Rattle.hy_roll_laws.specs.Rolling.{Roll, rolled_upto, next_base}
use Rattle.hy_formats.specs.Checkpoint.{base_behind}
use Rattle.hy_roll_laws.proofs.RollLemmas.{writers_within}
use Rattle.hy_roller.specs.RollerLaws.{IsRoller}
use Rattle.run_tests.proofs.roller.start_of.Goals as goal

base_there : (r : Roll) → IsRoller r → next_base r ≡ base_behind r.shape (rolled_upto r)
base_there r is = ap (λ (k : ℕ). r.shape.group * base_groups r.shape k) (sym (mul-div_cancel_left r.rolled.groups is.good.group.at_least))

base_rows : (r : Roll) → IsRoller r → Each (λ row. IsWithin 1 (base_behind r.shape (rolled_upto r)) row.writer) r.rolled.base_tree
base_rows r is = subst (λ (high : ℕ). Each (λ row. IsWithin 1 high row.writer) r.rolled.base_tree) (base_there r is) (writers_within (next_base r) r.rolled.base_tree is.is_rolled.base_written is.is_rolled.base_later.old)

base_left : (r : Roll) → IsRoller r → Agrees (before_horizon r.shape.horizon (base_behind r.shape (rolled_upto r))) r.rolled.base_tree r.rolled.base_tree
base_left r is = subst (λ (b : ℕ). Agrees (before_horizon r.shape.horizon b) r.rolled.base_tree r.rolled.base_tree) (base_there r is) is.is_rolled.base_left

abbrev IsStart : Shape → List Row → ℕ → Type 0
IsStart s rows at = (at % s.group ≡ 0) × Each (λ row. IsWithin 1 (base_behind s at) row.writer) rows × Agrees (before_horizon s.horizon (base_behind s at)) rows rows

start : (s : Shape) (r : Roll) (rows : List Row) (at : ℕ) → IsRoller r → r.shape ≡ s → rows ≡ r.rolled.base_tree → at ≡ rolled_upto r → IsStart s rows at
start s r rows at is same rows_are at_is =
    rw (rows_are, at_is) (subst (λ (t : Shape). IsStart t r.rolled.base_tree (rolled_upto r)) same (mul-mod_right r.shape.group r.rolled.groups, base_rows r is, base_left r is))

pub returns-clause-whole : goal.returns-clause-whole
returns-clause-whole c = (start c.args.shape c.args.roller.now c.in_ok-rows.rows c.at-at.result c.base_tree.ensures.valid c.requires.same (c.in_ok-rows.ensures.same ∙ c.base_tree.ensures.rows) c.at-at.ensures).0

pub returns-clause-rows : goal.returns-clause-rows
returns-clause-rows c = (start c.args.shape c.args.roller.now c.in_ok-rows.rows c.at-at.result c.base_tree.ensures.valid c.requires.same (c.in_ok-rows.ensures.same ∙ c.base_tree.ensures.rows) c.at-at.ensures).1

pub returns-clause-left : goal.returns-clause-left
returns-clause-left c = (start c.args.shape c.args.roller.now c.in_ok-rows.rows c.at-at.result c.base_tree.ensures.valid c.requires.same (c.in_ok-rows.ensures.same ∙ c.base_tree.ensures.rows) c.at-at.ensures).2
