use Rattle.std.proofs.Common.{codes}
use Rattle.std.proofs.lemmas.Result.{IfOk-weaker}
use Rattle.clap.specs.Words.{new_app}
use Rattle.hy_cli.specs.CommandLine.{seed_option, size_option, threads_option}
use Rattle.hy_cli.proofs.Building.{option_added}
use Rattle.hy_cli.proofs.commands.load_command.Goals as goal

pub returns : goal.returns
returns c =
    let seed = option_added (new_app (codes "load")) seed_option c.new.result c.in_ok-arg.field-0 c.seed_arg.result (c.new.ensures.app, c.new.ensures.local) c.seed_arg.ensures.rule c.seed_arg.ensures.local c.in_ok-arg.ensures in
    let size = option_added _ size_option c.in_ok-arg.field-0 c.in_ok-arg-2.field-0 c.size_arg.result seed c.size_arg.ensures.rule c.size_arg.ensures.local c.in_ok-arg-2.ensures in
    IfOk-weaker c.arg-3.result _ _ (λ r adds. option_added _ threads_option c.in_ok-arg-2.field-0 r c.threads_arg.result size c.threads_arg.ensures.rule c.threads_arg.ensures.local adds) c.arg-3.ensures
