use Rattle.live_lines.proofs.alone.take_alone.Given as goal

abbrev pub ghosts-take_from : goal.ghosts-take_from
ghosts-take_from g a = record { name = a.blank.name; parts = a.blank.parts }
