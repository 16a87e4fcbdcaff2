use Rattle.trial_bench.proofs.nodes.drive_rules.Given as goal

abbrev pub ghosts-drive_sizes : goal.ghosts-drive_sizes
ghosts-drive_sizes g a = record { name = a.blank.name; parts = a.blank.parts }
