use Rattle.hy_hub.proofs.WrittenOut.{carrier_gives, carries_out}
use Rattle.std.proofs.Common.{◌∙◌}
use Rattle.hy_hub.specs.Trace.{is_out}
use Rattle.hy_hub.proofs.hub.Hub.come_home.Goals as goal

pub give-requires-clause-part : goal.give-requires-clause-part
give-requires-clause-part g c = carrier_gives c.args.pass.now.carries c.args.pass.now.seen c.args.contents.list c.requires.carries

pub returns-clause-carries : goal.returns-clause-carries
returns-clause-carries g c = c.give.ensures.carries ∙ carries_out (is_out c.args.pass.now.seen) c.args.pass.now.carries (is_out c.args.contents.list) c.requires.carries
