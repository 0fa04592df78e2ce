use Rattle.hy_script.proofs.script.read_program_line.Goals as goal

-- a cell and rows are read whether or not the program asks for a position
pub returns-then-eq-4-clause-fits : goal.returns-then-eq-4-clause-fits
returns-then-eq-4-clause-fits c = c.cell_of.ensures.fits c.args.reads

pub returns-then-eq-5-clause-fits : goal.returns-then-eq-5-clause-fits
returns-then-eq-5-clause-fits c = c.find_of.ensures.fits c.args.reads
