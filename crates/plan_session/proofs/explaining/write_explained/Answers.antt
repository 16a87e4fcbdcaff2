use Rattle.std.proofs.Common.{List, sym, subst}
use Rattle.plan_rules.specs.declared.row.Match.{Match}
use Rattle.indictments.specs.Indicts.{all_of}
use Rattle.indictments.specs.Tallies.{AreFew}
use Rattle.plan_session.proofs.Explained.{explained_lines}
use Rattle.plan_session.proofs.explaining.write_explained.Goals as goal

pub of-requires : goal.of-requires
of-requires c =
    let P : List (List Match) → Type 0 = λ ms. AreFew (all_of ms) in
    subst P (sym c.as_slice.ensures) c.requires.few

pub returns : goal.returns
returns c =
    explained_lines _ _ c.args.totals.now.score c.args.plan.now c.args.totals.now.matches c.as_slice.result.now c.in_ok-tallies.tallies _ _ _ _ _
    c.as_slice.ensures c.in_ok-tallies.ensures c.in_ok-line.ensures c.in_ok-rules.ensures c.in_ok-write_indicts.ensures c.in_ok-line-2.ensures
