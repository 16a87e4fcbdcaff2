use Rattle.move_workers.proofs.alone.director_alone.Given as goal

abbrev pub ghosts-director_from : goal.ghosts-director_from
ghosts-director_from g a = record { name = a.blank.name; parts = a.blank.parts }
