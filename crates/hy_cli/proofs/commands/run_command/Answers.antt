use Rattle.std.proofs.Common.{codes}
use Rattle.std.proofs.lemmas.Result.{IfOk-weaker}
use Rattle.clap.specs.Words.{new_app}
use Rattle.hy_cli.specs.CommandLine.{point_option, save_option, threads_option}
use Rattle.hy_cli.proofs.Building.{option_added}
use Rattle.hy_cli.proofs.commands.run_command.Goals as goal

pub returns : goal.returns
returns c =
    let threads = option_added (new_app (codes "run")) threads_option c.new.result c.in_ok-arg.field-0 c.threads_arg.result (c.new.ensures.app, c.new.ensures.local) c.threads_arg.ensures.rule c.threads_arg.ensures.local c.in_ok-arg.ensures in
    let point = option_added _ point_option c.in_ok-arg.field-0 c.in_ok-arg-2.field-0 c.flag_arg.result threads c.flag_arg.ensures.rule c.flag_arg.ensures.local c.in_ok-arg-2.ensures in
    IfOk-weaker c.arg-3.result _ _ (λ r adds. option_added _ save_option c.in_ok-arg-2.field-0 r c.flag_arg-2.result point c.flag_arg-2.ensures.rule c.flag_arg-2.ensures.local adds) c.arg-3.ensures
