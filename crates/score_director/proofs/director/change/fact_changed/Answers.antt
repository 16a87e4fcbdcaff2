use Rattle.std.proofs.Common.{◌∙◌, ℕ, List, length, take, ap, subst, sym, arith}
use Rattle.plan_changes.specs.Performed.{texts_of}
use Rattle.plan_changes.specs.Undo.{TakesBack}
use Rattle.plan_facts.specs.Plan.{PlanView}
use Rattle.plan_changes.proofs.Numbered.{numbered_front, numbered_le}
use Rattle.plan_rules.specs.Range.{MayJudge, sizes_of}
use Rattle.score_director.proofs.Led.{change_turns}
use Rattle.score_director.proofs.director.change.fact_changed.Goals as goal

pub led_on-requires-clause-judges : goal.led_on-requires-clause-judges
led_on-requires-clause-judges g c κs within =
    let rules = c.args.rules.now in
    let plan = c.perform.new.plan in
    let P : List ℕ → Type 0 = λ ns. MayJudge rules.defs rules.caps c.args.weights.now ns in
    let Q : List ℕ → Type 0 = λ ws. MayJudge rules.defs rules.caps ws (sizes_of plan) in
    (c.requires.judges.0, subst Q (sym c.as_slice.ensures) (subst P (sym (ap sizes_of c.in_ok-perform.ensures.plan)) c.requires.judges.1))

pub led_on-requires-clause-from : goal.led_on-requires-clause-from
led_on-requires-clause-from g c κs within =
    let keys = c.deref.ensures.value ∙ c.in_ok-keys.ensures in
    change_turns g.B.Book.meaning c.args.rules.now.defs c.args.plan.now c.perform.new.plan c.args.net.now c.deref.result.now c.args.ready.now c.args.names.now (length c.args.weights.now)
    c.requires.network c.in_ok-perform.ensures.sound c.requires.may c.requires.deed c.in_ok-perform.ensures.plan keys

pub cut-requires : goal.cut-requires
cut-requires g c =
    let le = numbered_le c.args.names.now (texts_of c.args.ready.now) in
    let long = ap (λ (ns : List (List ℕ)). length ns) c.in_ok-perform.ensures.names in
    omega (arith, le, long, c.count-count.ensures.count)

pub returns-clause-names_stay : goal.returns-clause-names_stay
returns-clause-names_stay g c =
    c.cut.ensures
    ∙ ap (λ n. take n c.perform.new.names) c.count-count.ensures.count
    ∙ ap (take (length c.args.names.now)) c.in_ok-perform.ensures.names
    ∙ numbered_front c.args.names.now (texts_of c.args.ready.now)

pub take_back-requires : goal.take_back-requires
take_back-requires g c =
    (c.args.plan.now, subst (λ (after : PlanView). TakesBack c.in_ok-undo.undo c.args.plan.now after) (sym c.in_ok-perform.ensures.plan) (c.in_ok-undo.ensures c.args.names.now))

pub returns-clause-plan_stays : goal.returns-clause-plan_stays
returns-clause-plan_stays g c =
    c.take_back.ensures c.args.plan.now (subst (λ (after : PlanView). TakesBack c.in_ok-undo.undo c.args.plan.now after) (sym c.in_ok-perform.ensures.plan) (c.in_ok-undo.ensures c.args.names.now))
