use Rattle.score_director.proofs.totals.totals_by_network.Given as goal

abbrev pub ghosts-totals_from : goal.ghosts-totals_from
ghosts-totals_from g a = record { name = a.blank.name; parts = a.blank.parts }
