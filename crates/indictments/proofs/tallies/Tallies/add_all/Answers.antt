use Rattle.std.proofs.Common.{◌++◌, List, take, sym, subst}
use Rattle.plan_rules.specs.declared.row.Match.{Match}
use Rattle.indictments.specs.Tallies.{AreTallies}
use Rattle.indictments.proofs.TallyLaws.{next_few, next_match}
use Rattle.indictments.proofs.tallies.Tallies.add_all.Goals as goal

pub add_match-requires : goal.add_match-requires
add_match-requires c =
    let ms = c.args.matches.now in
    let k = c.loop-one.one-index in
    (c.requires.0 ++ take k ms, c.loop-one.invariant c.requires.0 c.requires.1, next_few c.requires.0 ms k c.one-item.result c.loop-one-test.true c.one-item.is c.requires.2)

pub loop-one-preserved : goal.loop-one-preserved
loop-one-preserved c = λ before are.
    let ms = c.args.matches.now in
    let k = c.loop-one.one-index in
    let P : List Match → Type 0 = AreTallies c.add_match.new.self in
    subst P (sym (next_match before ms k c.one-item.result c.loop-one-test.true c.one-item.is))
    (c.in_ok-add_match.ensures (before ++ take k ms) (c.loop-one.invariant before are))
