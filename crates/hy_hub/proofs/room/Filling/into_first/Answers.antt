use Rattle.std.proofs.Common.{ap, take, ◌∙◌}
use Rattle.std.proofs.lemmas.List.{take-replicate}
use Rattle.hy_formats.specs.LogFormat.{largest_batch}
use Rattle.hy_hub.proofs.room.Filling.into_first.Goals as goal

pub returns : goal.returns
returns c = λ filler same. c.truncate.ensures.items ∙ (ap (take c.args.count) same ∙ take-replicate c.args.count largest_batch filler c.requires.few)
