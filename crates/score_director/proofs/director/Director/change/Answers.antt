use Rattle.score_director.proofs.director.Director.change.Goals as goal

pub change_weight-requires-clause-each : goal.change_weight-requires-clause-each
change_weight-requires-clause-each g c κs within = c.requires.judges.1.weights
