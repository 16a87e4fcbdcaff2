use Rattle.move_workers.proofs.alone.judge_alone.Given as goal

abbrev pub ghosts-judge_from : goal.ghosts-judge_from
ghosts-judge_from g a = record { name = a.blank.name; parts = a.blank.parts }
