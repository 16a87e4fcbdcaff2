use Rattle.search_rows.proofs.tests.lines.try_course.Given as goal

abbrev pub ghosts-take_lines : goal.ghosts-take_lines
ghosts-take_lines g a = record { name = a.blank.name; parts = a.blank.parts }
