-- The ledger is the one that the blank names.
use Rattle.run_tests.proofs.meld.left_of_eight.Given as goal

abbrev pub ghosts-purged : goal.ghosts-purged
ghosts-purged a = record { name = a.blank.name; parts = a.blank.parts }
