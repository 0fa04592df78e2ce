use Rattle.hy_script.proofs.script.counted_scan.Goals as goal

pub returns-clause-fits : goal.returns-clause-fits
returns-clause-fits c = λ tables reads. c.in_ok-line.ensures.fits tables reads (λ asks. c.in_ok-scan_of.ensures.lawful.1) (c.in_ok-scan_of.ensures.fits tables)
