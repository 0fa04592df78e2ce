-- The ledger is the one that the blank names.
use Rattle.run_tests.proofs.meld.melded.Given as goal

abbrev pub ghosts-counted : goal.ghosts-counted
ghosts-counted a = record { name = a.blank.name; parts = a.blank.parts }
