use Rattle.plan_recalc.proofs.alone.score_alone.Given as goal

abbrev pub ghosts-score_from : goal.ghosts-score_from
ghosts-score_from g a = record { name = a.blank.name; parts = a.blank.parts }
