use Rattle.std.proofs.Common.{◌≡◌, ◌∙◌, ◌++◌, length, map, not, sym, ap, arith}
use Rattle.plan_reports.specs.Lines.{lines_text}
use Rattle.plan_search.specs.RunLines.{record_line}
use Rattle.plan_search.proofs.ClassByClass.{entity_class-is, listed_below, listed_below-all, listed_below-none, listed_below-some}
use Rattle.plan_session.proofs.Grown.{entity_lines-by_class, lines_in, written_more}
use Rattle.plan_session.proofs.report.Report.entities.Goals as goal
use Rattle.plan_session.proofs.report.Report.entities.Goals.{then-not-is_empty+in_ok-class, else-not-is_empty}

pub loop-class-preserved : goal.loop-class-preserved
loop-class-preserved c =
    let plan = c.args.plan.now in
    let k = c.loop-class.class in
    let is = entity_class-is plan k _ _ c.ranges-in-loop-class.ensures.ranges c.is_empty.ensures in
    elim c.if-not-is_empty.branch [
      | then-not-is_empty+in_ok-class w ↦
          written_more _ _ (listed_below (lines_in plan) plan k) (map (record_line k) w.facts.result.now) _ _ _ _
          (listed_below-some (lines_in plan) plan k (is ∙ ap not w.if-not-is_empty.true)
          ∙ ap (λ facts. listed_below (lines_in plan) plan k ++ map (record_line k) facts) (sym w.facts.ensures.facts))
          c.loop-class.invariant (ap (λ (v : _). v.items) w.out-is ∙ w.in_ok-class.ensures)
      | else-not-is_empty w ↦
          ap (λ (v : _). v.items) w.out-is ∙ c.loop-class.invariant
          ∙ ap (λ zs. c.args.out.now.items ++ lines_text c.args.self.now.schema.now c.args.self.now.rules.now zs)
          (sym (listed_below-none (lines_in plan) plan k (is ∙ ap not w.if-not-is_empty.false)))
    ]

pub returns : goal.returns
returns c =
    let plan = c.args.plan.now in
    let all : c.loop-class.class ≡ length plan.classes = omega (arith, c.classes-class-end.ensures.classes) in
    c.loop-class.invariant
    ∙ ap (λ zs. c.args.out.now.items ++ lines_text c.args.self.now.schema.now c.args.self.now.rules.now zs)
    (listed_below-all (lines_in plan) plan c.loop-class.class all ∙ entity_lines-by_class plan c.classes-class-end.ensures.sound)
