use Rattle.move_workers.proofs.alone.keep_alone.Given as goal

abbrev pub ghosts-keep_from : goal.ghosts-keep_from
ghosts-keep_from g a = record { name = a.blank.name; parts = a.blank.parts }
