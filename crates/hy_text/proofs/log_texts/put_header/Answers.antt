use Rattle.std.specs.Prelude.{codes}
use Rattle.hy_formats.specs.Texts.{from_words, version_words}
use Rattle.hy_text.proofs.Lines.{in_two, line_put}
use Rattle.hy_text.proofs.log_texts.put_header.Goals as goal

pub returns : goal.returns
returns c =
    let tail = in_two _ _ _ (from_words c.args.header.from) _ c.in_ok-put_from.ensures c.in_ok-put_words-2.ensures in
    let more = in_two _ _ _ (version_words c.args.header.shape) _ c.in_ok-put_version.ensures tail in
    let words = in_two _ _ _ _ _ c.in_ok-put_words.ensures more in
    line_put c.args.out.now.items (codes "log") _ _ _ _ c.in_ok-extend_from_slice.ensures.items words c.in_ok-push.ensures.items
