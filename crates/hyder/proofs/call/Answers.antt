use Rattle.hyder.proofs.call.Goals as goal

pub returns : goal.returns
returns g c = (c.hyder_call-done.result.status, c.hyder_call-done.result.log, c.hyder_call-done.result.points, c.hyder_call-done.result.spare, c.hyder_call-done.result.acked, c.exit_code.ensures, c.hyder_call-done.ensures)
