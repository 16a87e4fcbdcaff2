use Rattle.std.proofs.Common.{◌≡◌, ◌∙◌, ◌++◌, length, map, sym, ap, arith}
use Rattle.plan_reports.specs.Lines.{lines_text}
use Rattle.indictments.specs.Indicts.{named}
use Rattle.plan_session.proofs.Explained.{facts_below, facts_more, lines_among}
use Rattle.plan_session.proofs.Grown.{written_more}
use Rattle.plan_session.proofs.explaining.write_indicts.Goals as goal

pub loop-class-preserved : goal.loop-class-preserved
loop-class-preserved c = λ matches are.
    let plan = c.args.plan.now in
    let k = c.loop-class.class in
    written_more _ _ (lines_among matches (facts_below plan k)) (lines_among matches (map (named k) c.facts.result.now)) _ _ _ _
    (facts_more matches plan k ∙ ap (λ facts. lines_among matches (facts_below plan k) ++ lines_among matches (map (named k) facts)) (sym c.facts.ensures.facts))
    (c.loop-class.invariant matches are) (c.in_ok-write_class.ensures matches are)

pub returns : goal.returns
returns c = λ matches are.
    let plan = c.args.plan.now in
    let all : c.loop-class.class ≡ length plan.classes = omega (arith, c.classes-class-end.ensures.classes) in
    c.loop-class.invariant matches are
    ∙ ap (λ k. c.args.out.now.items ++ lines_text c.args.report.now.schema.now c.args.report.now.rules.now (lines_among matches (facts_below plan k))) all
