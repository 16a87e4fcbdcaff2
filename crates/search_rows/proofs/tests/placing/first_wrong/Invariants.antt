use Rattle.search_rows.proofs.tests.placing.first_wrong.Given as goal

abbrev pub ghosts-try_case : goal.ghosts-try_case
ghosts-try_case g a = record { name = a.blank.name; parts = a.blank.parts }
