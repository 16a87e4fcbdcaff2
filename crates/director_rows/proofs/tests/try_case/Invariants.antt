use Rattle.director_rows.proofs.tests.try_case.Given as goal

abbrev pub ghosts-is_worked : goal.ghosts-is_worked
ghosts-is_worked g a = record { name = a.blank.name; parts = a.blank.parts }
