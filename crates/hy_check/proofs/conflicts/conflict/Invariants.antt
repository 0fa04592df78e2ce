use Rattle.hy_check.proofs.conflicts.conflict.Given as goal

abbrev pub ghosts-conflict_counted : goal.ghosts-conflict_counted
ghosts-conflict_counted a = record { name = a.blank.name; parts = a.blank.parts }
