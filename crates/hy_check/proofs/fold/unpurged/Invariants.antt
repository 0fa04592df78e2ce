use Rattle.hy_check.proofs.fold.unpurged.Given as goal

abbrev pub ghosts-unpurged_counted : goal.ghosts-unpurged_counted
ghosts-unpurged_counted a = record { name = a.blank.name; parts = a.blank.parts }
