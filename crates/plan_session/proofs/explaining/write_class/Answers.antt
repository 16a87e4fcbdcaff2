use Rattle.std.proofs.Common.{◌∷◌, [], map, take}
use Rattle.indictments.specs.Indicts.{named}
use Rattle.plan_session.proofs.Explained.{class_more, fact_written, lines_among}
use Rattle.plan_session.proofs.Grown.{written_more}
use Rattle.plan_session.proofs.explaining.write_class.Goals as goal

pub loop-raw-preserved : goal.loop-raw-preserved
loop-raw-preserved c = λ matches are.
    let facts = c.args.facts.now in
    let k = c.loop-raw.raw-index in
    let raw = c.raw-item.result in
    written_more _ _ (lines_among matches (map (named c.args.class) (take k facts))) (lines_among matches (named c.args.class raw ∷ [])) _ _ _ _
    (class_more matches c.args.class facts k raw c.loop-raw-test.true c.raw-item.is)
    (c.loop-raw.invariant matches are) (fact_written _ _ matches c.args.tallies.now c.args.class raw _ _ are c.in_ok-write_indict.ensures)
