use Rattle.std.proofs.Common.{false}
use Rattle.clap.specs.Words.{found_of}
use Rattle.hy_cli.proofs.Getters.{reads_flag}
use Rattle.hy_cli.proofs.options.flag_of.Goals as goal

pub returns : goal.returns
returns c = reads_flag false (found_of c.args.found.now) c.args.name.now c.get_flag.result c.get_flag.ensures.none c.get_flag.ensures.value c.get_flag.ensures.other c.requires
