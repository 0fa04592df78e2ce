use Rattle.std.proofs.Common.{◌≡◌, sym, ◌∙◌, Some}
use Rattle.hy_cli.proofs.Lines.{line_obeyed}
use Rattle.hy_cli.proofs.laws.line_asks_for_itself.Goals as goal

pub returns : goal.returns
returns c = λ words line other is asks. let both : Some other ≡ Some line = sym asks.1 ∙ (line_obeyed words line is).1 in cc both
