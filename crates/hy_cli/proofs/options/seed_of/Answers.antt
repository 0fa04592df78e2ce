use Rattle.std.proofs.Common.{◌∙◌, codes, true, lit<}
use Rattle.std.specs.Str.Parse.{ParsesUnsigned, ExplainsUnsignedError, HasUnsignedDigitsIfOk}
use Rattle.clap.specs.Words.{found_of}
use Rattle.hy_cli.proofs.Getters.{reads_number}
use Rattle.hy_cli.proofs.options.seed_of.Goals as goal

pub returns : goal.returns
returns c = c.unwrap_or.ensures ∙ reads_number _ (λ bs r. ParsesUnsigned 64 10 bs r × ExplainsUnsignedError 10 bs r × HasUnsignedDigitsIfOk bs r) 64 0 18446744073709551615 0 true (found_of c.args.found.now) (codes "seed") c.get_one.result
    c.get_one.ensures.none c.get_one.ensures.value (λ u x g. g.0) (lit< tt) c.requires
