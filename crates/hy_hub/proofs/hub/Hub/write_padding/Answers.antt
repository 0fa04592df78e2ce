use Rattle.hy_hub.proofs.hub.Hub.write_padding.Goals as goal

pub land_fillers-requires-clause-written : goal.land_fillers-requires-clause-written
land_fillers-requires-clause-written g c = rw c.in-Ok.is at (c.write_fillers.ensures.written c.args.pass.now.seen c.args.server _ c.requires.lifted.lifted c.requires.lifted.flight c.requires.out)

pub fail_fillers-requires-clause-written : goal.fail_fillers-requires-clause-written
fail_fillers-requires-clause-written g c = rw c.in-Err.is at (c.write_fillers.ensures.written c.args.pass.now.seen c.args.server _ c.requires.lifted.lifted c.requires.lifted.flight c.requires.out)
