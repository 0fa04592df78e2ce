use Rattle.std.proofs.Common.{◌∙◌, Some, sym, ap, map, is_some, option_map}
use Rattle.hy_cli.specs.Matches.{choices_found, line_found}
use Rattle.hy_cli.specs.declared.commands.Line.TheVariants.{Run, Sim, Follow, Load}
use Rattle.clap.specs.Words.{found_of, rows_of}
use Rattle.hy_cli.specs.CommandLine.{CliCommand, report_command, reports}
use Rattle.hy_cli.proofs.Getters.{follow_accepted, found_name, load_accepted, report_left, run_accepted, sim_accepted}
use Rattle.hy_cli.proofs.commands.line_from.Goals as goal

pub threads_of-requires : goal.threads_of-requires
threads_of-requires c = (run_accepted c.args.name.now (rows_of (found_of c.args.found.now)) c.in-run.is c.requires.accepted).0

pub flag_of-requires : goal.flag_of-requires
flag_of-requires c = (run_accepted c.args.name.now (rows_of (found_of c.args.found.now)) c.in-run.is c.requires.accepted).1

pub flag_of-requires-in-run : goal.flag_of-requires-in-run
flag_of-requires-in-run c = (run_accepted c.args.name.now (rows_of (found_of c.args.found.now)) c.in-run.is c.requires.accepted).2

pub threads_of-requires-in-sim : goal.threads_of-requires-in-sim
threads_of-requires-in-sim c = sim_accepted c.args.name.now (rows_of (found_of c.args.found.now)) c.in-sim.is c.requires.accepted

pub threads_of-requires-in-follow : goal.threads_of-requires-in-follow
threads_of-requires-in-follow c = follow_accepted c.args.name.now (rows_of (found_of c.args.found.now)) c.in-follow.is c.requires.accepted

pub seed_of-requires : goal.seed_of-requires
seed_of-requires c =
    (load_accepted c.args.name.now (rows_of (found_of c.args.found.now)) c.in-load.is c.requires.accepted).0

pub size_of-requires : goal.size_of-requires
size_of-requires c =
    (load_accepted c.args.name.now (rows_of (found_of c.args.found.now)) c.in-load.is c.requires.accepted).1

pub threads_of-requires-in-load : goal.threads_of-requires-in-load
threads_of-requires-in-load c =
    (load_accepted c.args.name.now (rows_of (found_of c.args.found.now)) c.in-load.is c.requires.accepted).2

pub returns-in-compact-clause-word : goal.returns-in-compact-clause-word
returns-in-compact-clause-word c = sym c.in-compact.is

pub returns-in-compact-clause-line : goal.returns-in-compact-clause-line
returns-in-compact-clause-line c = ap (λ n. line_found n (rows_of (found_of c.args.found.now))) c.in-compact.is

pub returns-in-run-clause-word : goal.returns-in-run-clause-word
returns-in-run-clause-word c = sym c.in-run.is

pub returns-in-run-clause-line : goal.returns-in-run-clause-line
returns-in-run-clause-line c =
    ap (λ n. line_found n (rows_of (found_of c.args.found.now))) c.in-run.is ∙ (λ i. Some (Run (sym c.threads_of.ensures.value i) (sym c.flag_of.ensures i) (sym c.flag_of-in-run.ensures i)))

pub returns-in-sim-clause-word : goal.returns-in-sim-clause-word
returns-in-sim-clause-word c = sym c.in-sim.is

pub returns-in-sim-clause-line : goal.returns-in-sim-clause-line
returns-in-sim-clause-line c = ap (λ n. line_found n (rows_of (found_of c.args.found.now))) c.in-sim.is ∙ (λ i. Some (Sim (sym c.threads_of-in-sim.ensures.value i)))

pub returns-in-follow-clause-word : goal.returns-in-follow-clause-word
returns-in-follow-clause-word c = sym c.in-follow.is

pub returns-in-follow-clause-line : goal.returns-in-follow-clause-line
returns-in-follow-clause-line c = ap (λ n. line_found n (rows_of (found_of c.args.found.now))) c.in-follow.is ∙ (λ i. Some (Follow (sym c.threads_of-in-follow.ensures.value i)))

pub returns-in-load-clause-word : goal.returns-in-load-clause-word
returns-in-load-clause-word c = sym c.in-load.is

pub returns-in-load-clause-line : goal.returns-in-load-clause-line
returns-in-load-clause-line c =
    ap (λ n. line_found n (rows_of (found_of c.args.found.now))) c.in-load.is ∙ (λ i. Some (Load (sym c.seed_of.ensures i) (sym c.size_of.ensures.value i) (sym c.threads_of-in-load.ensures.value i)))

pub report_named-requires : goal.report_named-requires
report_named-requires c =
    sym (ap is_some (report_left c.args.name.now c.in_default.not-run c.in_default.not-sim c.in_default.not-compact c.in_default.not-follow c.in_default.not-load)) ∙ c.requires.known

pub returns-in_default-clause-word : goal.returns-in_default-clause-word
returns-in_default-clause-word c = found_name (map report_command reports) c.args.name.now (report_command c.report_named.result) c.report_named.ensures

pub returns-in_default-clause-line : goal.returns-in_default-clause-line
returns-in_default-clause-line c =
    let named = report_left c.args.name.now c.in_default.not-run c.in_default.not-sim c.in_default.not-compact c.in_default.not-follow c.in_default.not-load ∙ c.report_named.ensures in
    ap (option_map (λ (k : CliCommand). k.line (choices_found (rows_of (found_of c.args.found.now))))) named
