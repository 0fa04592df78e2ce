-- The ledger is the one that the blank names.
use Rattle.run_tests.proofs.tree.root_of.Given as goal

abbrev pub ghosts-look : goal.ghosts-look
ghosts-look a = record { name = a.blank.name; parts = a.blank.parts }
