use Rattle.search_rows.proofs.tests.recalc.wrong_of_both.Given as goal

abbrev pub ghosts-wrong_counted : goal.ghosts-wrong_counted
ghosts-wrong_counted g a = record { name = a.blank.name; parts = a.blank.parts }
