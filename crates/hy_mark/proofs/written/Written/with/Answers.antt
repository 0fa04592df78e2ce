use Rattle.std.proofs.Common.{◌≡◌, [], sym, ◌∙◌}
use Rattle.std.proofs.lemmas.List.{nil_from_length}
use Rattle.hy_mark.proofs.Writing.{newest_same}
use Rattle.hy_mark.proofs.written.Written.with.Goals as goal

pub returns-then-len-eq0 : goal.returns-then-len-eq0
returns-then-len-eq0 c =
    let none : c.args.self.now ≡ [] = sym c.self.view_is ∙ nil_from_length c.self.inside.rows (sym c.len.ensures ∙ c.if-len-eq0.true) in
    rw none (sym (newest_same c.args.other c.as_slice-ordered.ensures.ordered))
