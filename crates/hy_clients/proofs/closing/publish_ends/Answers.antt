use Rattle.std.proofs.Common.{◌≡◌, ◌+◌, ◌%◌, ◌∙◌, List, [], refl, sym, ap, subst, length, arith}
use Rattle.std.proofs.lemmas.List.{append-nil}
use Rattle.hy_base.specs.Shape.{IsWithin}
use Rattle.hy_hist.proofs.Lists.{prefix_trans}
use Rattle.hy_rules.specs.Moves.{Setting}
use Rattle.hy_hub.specs.Calls.{len_of}
use Rattle.hy_hub.specs.Trace.{setting_in}
use Rattle.hy_hub.specs.declared.occurrence.Occurrence.{Occurrence}
use Rattle.hy_hub.proofs.Passing.{roller_more}
use Rattle.hy_clients.specs.Services.{IsAtEnd}
use Rattle.hy_clients.proofs.Passes.{run_on, server_declared}
use Rattle.hy_clients.proofs.Reaching.{all_end, pads_alone, one_more_ends}
use Rattle.hy_clients.proofs.Turning.{grows}
use Rattle.hy_clients.proofs.closing.publish_ends.Goals as goal

pub loop-at-init : goal.loop-at-init
loop-at-init g c = (c.requires.pass, refl, ([], append-nil c.args.pass.now.seen), refl, c.requires.ends)

pub loop-at-preserved : goal.loop-at-preserved
loop-at-preserved g c =
    let i = c.loop-at.invariant in
    let e = c.publish_end.ensures in
    let old = c.loop-at.pass in
    let new = c.publish_end.new.pass in
    let len : len_of new.seen ≡ len_of old.seen = ap length e.log in
    let at = i.4.0 in (
      e.pass,
      e.parts ∙ i.1,
      prefix_trans c.args.pass.now.seen old.seen new.seen i.2 e.grown,
      one_more_ends old.seen new.seen c.loop-at.at e.log c.in_ok-publish_end.ensures.ends i.3,
      (i.4.0 ∙ sym len, roller_more old.seen new.seen c.args.end.now e.grown (omega (arith, at)) i.4.1),
    )

pub publish_end-requires-clause-server : goal.publish_end-requires-clause-server
publish_end-requires-clause-server g c κs within =
    let below = c.loop-at-test.true in
    let servers = c.servers-at-end.ensures.servers in
    let declared : IsWithin 1 c.args.service.now.script.now.servers (c.loop-at.at + 1) = record { at_least = omega arith; at_most = omega (arith, below, servers) } in
    declared

pub returns-clause-ends : goal.returns-clause-ends
returns-clause-ends g c =
    let i = c.loop-at.invariant in
    let declared : (setting_in c.loop-at.pass.seen).servers ≡ c.args.service.now.script.now.servers = ap (λ (w : Setting). w.servers) i.0.setting_is in
    let servers = c.servers-at-end.ensures.servers in
    let done = c.loop-at-test.false in
    all_end c.loop-at.pass.seen c.loop-at.at i.0.told (omega (arith, declared, servers, done)) i.3
