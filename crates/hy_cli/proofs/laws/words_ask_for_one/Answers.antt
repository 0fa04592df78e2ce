use Rattle.std.proofs.Common.{◌≡◌, sym, ◌∙◌, Some}
use Rattle.hy_cli.proofs.laws.words_ask_for_one.Goals as goal

pub returns : goal.returns
returns c = λ words line other first second. let both : Some other ≡ Some line = sym second.1 ∙ first.1 in cc both
