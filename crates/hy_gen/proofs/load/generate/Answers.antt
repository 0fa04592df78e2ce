use Rattle.std.proofs.Common.{◌≡◌, ◌∙◌, length, List, sym, ap, subst, arith}
use Rattle.std.proofs.lemmas.List.FromFn.{length-map-range_with_len}
use Rattle.hy_base.specs.declared.workload.Client.{Client}
use Rattle.hy_base.specs.Script.{IsScript}
use Rattle.hy_gen.specs.Draws.{reads_only}
use Rattle.hy_gen.specs.Load.{shape_for}
use Rattle.hy_gen.proofs.Scripts.{script_good}
use Rattle.hy_gen.proofs.load.generate.Goals as goal

pub new-script-requires : goal.new-script-requires
new-script-requires c =
    subst (λ (cs : List Client). IsScript (record { shape = shape_for c.args.size; servers = 4; keeps = 1; tables = 0; clients = cs })) (sym c.in_ok-clients.ensures) (script_good c.args.seed c.args.size c.requires.at_least c.requires.at_most)

pub schedule-requires : goal.schedule-requires
schedule-requires c =
    let all : length c.deref.result.now ≡ c.args.size = ap length (c.deref.ensures.value ∙ c.in_ok-readers.ensures) ∙ length-map-range_with_len (reads_only c.args.seed) 0 c.args.size in
    omega (arith, all, c.requires.at_most)
