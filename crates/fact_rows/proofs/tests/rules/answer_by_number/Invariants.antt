use Rattle.fact_rows.proofs.tests.rules.answer_by_number.Given as goal

abbrev pub ghosts-answer_at_rows : goal.ghosts-answer_at_rows
ghosts-answer_at_rows g a = record { name = a.blank.name; parts = a.blank.parts }
