use Rattle.std.specs.Prelude.{codes}
use Rattle.hy_formats.specs.Texts.{isolation_words}
use Rattle.hy_text.proofs.Lines.{in_two, line_put}
use Rattle.hy_text.proofs.log_texts.put_transaction.Goals as goal

pub returns : goal.returns
returns c =
    let first = rw (c.len.ensures, c.len-2.ensures, c.len-3.ensures) at c.in_ok-put_words.ensures in
    let words = in_two _ _ _ _ (isolation_words c.args.version c.args.intention.now.isolation) first c.in_ok-put_isolation.ensures in
    line_put c.args.out.now.items (codes "entry") _ _ _ _ c.in_ok-extend_from_slice.ensures.items words c.in_ok-push.ensures.items
