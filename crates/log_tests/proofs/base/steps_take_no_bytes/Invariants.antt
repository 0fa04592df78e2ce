-- The ledger is the one that the blank names.
use Rattle.log_tests.proofs.base.steps_take_no_bytes.Given as goal

abbrev pub ghosts-size_of_two_steps : goal.ghosts-size_of_two_steps
ghosts-size_of_two_steps g a = record { name = a.blank.name; parts = a.blank.parts }
