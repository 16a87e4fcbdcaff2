use Rattle.director_rows.proofs.tests.feeds.try_lines.Given as goal

abbrev pub ghosts-directs : goal.ghosts-directs
ghosts-directs g a = record { name = a.blank.name; parts = a.blank.parts }
