use Rattle.director_rows.proofs.tests.made.rules_of.Goals as goal

pub returns : goal.returns
returns g c = c.in_ok-build.ensures.keeps c.no_tests-tests.ensures c.no_keys-keys.ensures c.requires
