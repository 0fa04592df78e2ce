use Rattle.hy_formats.specs.Texts.{server_text}
use Rattle.hy_text.proofs.Written.{numbered_written, all_numbered}
use Rattle.hy_text.proofs.texts.put_servers.Goals as goal

pub loop-at-preserved : goal.loop-at-preserved
loop-at-preserved c =
    numbered_written c.args.servers.now c.loop-at.at _ c.loop-at.out.items 1 server_text _ c.index-servers-at.result c.put_server.new.out.items c.loop-at-test.true c.index-servers-at.is c.in_ok-put_server.ensures c.loop-at.invariant

pub returns : goal.returns
returns c = all_numbered c.args.servers.now c.loop-at.at _ c.loop-at.out.items 1 server_text c.loop-at-test.false c.loop-at.invariant
