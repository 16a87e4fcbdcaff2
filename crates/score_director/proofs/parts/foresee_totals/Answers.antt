use Rattle.std.proofs.Common.{◌∙◌, ◌++◌, ℕ, List, All, ap, length, subst, sym}
use Rattle.std.proofs.lemmas.List.{with_items_is}
use Rattle.plan_facts.specs.Plan.{records_of}
use Rattle.head_changes.specs.declared.changes.ClassChange.{ClassChange}
use Rattle.score_director.specs.declared.rule.RuleNet.{RuleNet}
use Rattle.score_director.specs.Rule.{AsksKnown, ForeseesFrom, PutsDown}
use Rattle.score_director.proofs.AllRules.{all_foresee}
use Rattle.score_director.proofs.Asked.{all_ask_known}
use Rattle.score_director.proofs.NetLaws.{knows_same}
use Rattle.score_director.proofs.parts.foresee_totals.Goals as goal

pub foresee_all-requires-clause-there : goal.foresee_all-requires-clause-there
foresee_all-requires-clause-there g c κs within =
    subst (All (AsksKnown c.args.rules.now.numbers)) (sym c.deref.ensures.value)
    (all_ask_known c.args.rules.now.schema c.args.rules.now.numbers c.args.rules.now.defs c.args.rules.now.harder c.args.parts.now.rules.items c.args.rules.now.accepted c.requires.own)

pub returns-clause-foresees : goal.returns-clause-foresees
returns-clause-foresees g c = λ facts sizes stands turn range.
    let m = g.B.Book.meaning in
    let defs = c.args.rules.now.defs in
    let nets = c.args.parts.now.rules.items in
    let before = c.args.parts.now.changes.items in
    let changes = c.gather.new.changes in
    let later = c.gather.new.heads.now in
    let totals = c.foresee_all.new.totals.items in
    let F : List ClassChange → List ClassChange → List RuleNet → Type 0 = λ lefts rights ns. PutsDown (ForeseesFrom m later lefts rights) ns c.clear.new.self.items totals in
    let as_long = c.gather.ensures.classes ∙ ap (λ (cs : List ClassChange). length cs) c.deref_mut.ensures.value in
    let kept = with_items_is c.args.parts.now.changes changes (as_long ∙ sym c.args.parts.now.changes.ok.0) in
    let one = subst (λ (ns : List RuleNet). F c.deref-2.result.now c.deref-3.result.now ns) c.deref.ensures.value c.in_ok-foresee_all.ensures.foresees in
    let two = subst (λ (lefts : List ClassChange). F lefts c.deref-3.result.now nets) (c.deref-2.ensures.value ∙ kept) one in
    let puts = subst (λ (rights : List ClassChange). F changes rights nets) (c.deref-3.ensures.value ∙ kept) two in
    let gathered = c.in_ok-gather.ensures.gathered stands.takers facts stands.heads_hold turn in
    let know = knows_same before changes nets as_long c.requires.classes in
    let foreseen =
    all_foresee m c.args.parts.now.heads.now later changes stands.takers facts (records_of c.args.plan.now) sizes defs nets puts.more
    (record { hold = stands.heads_hold; gathered = gathered; later_facts = turn.new; within = range.within })
    (record { are = c.requires.own; know = know; range = range.rules })
    stands.rules_hold puts.each in
    puts.is ∙ ap (λ (ns : List ℕ). ns ++ puts.more) c.clear.ensures.items ∙ foreseen
