use Rattle.director_rows.proofs.tests.ranges.try_limit.Given as goal

abbrev pub ghosts-is_limit : goal.ghosts-is_limit
ghosts-is_limit g a = record { name = a.blank.name; parts = a.blank.parts }
