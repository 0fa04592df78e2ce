use Rattle.hy_hub.proofs.Opens.{since_opened}
use Rattle.hy_hub.proofs.hub.Hub.new.Goals as goal

pub returns-in-Err-clause-past : goal.returns-in-Err-clause-past
returns-in-Err-clause-past g c = λ told. since_opened g.D.Disk.tells c.args.log c.args.entries.items c.args.setup.start c.args.setup.servers c.args.setup.homes.items c.args.setup.keeps g.B.Since.least c.requires.opens c.requires.least told (c.requires.since told)
