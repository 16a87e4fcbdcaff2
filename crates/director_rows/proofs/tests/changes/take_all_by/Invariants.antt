use Rattle.director_rows.proofs.tests.changes.take_all_by.Given as goal

abbrev pub ghosts-take_all : goal.ghosts-take_all
ghosts-take_all g a = record { name = a.blank.name; parts = a.blank.parts }
