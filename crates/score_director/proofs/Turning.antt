-- An edit turns the records of a plan at the entities that it touches, and leaves all others.
use Rattle.std.proofs.Common.{◌≡◌, ◌∙◌, true, false, List, refl, sym, ap}
use Rattle.std.specs.Cmp.{IsTotalOrder}
use Rattle.std.specs.Ordering.{is_lt}
use Rattle.std.specs.declared.cmp.Ordering.TheVariants.{Equal}
use Rattle.std.proofs.lemmas.Cmp.{then_total, on_total, nat_cmp_total, tied_itself}
use Rattle.std.proofs.lemmas.List.Elements.{All-map}
use Rattle.plan_facts.specs.declared.record.Rec.{Rec}
use Rattle.plan_facts.specs.Plan.{IsPlan, PlanView, class_of, records_of, resolved}
use Rattle.plan_moves.specs.declared.edit.Set.{Set}
use Rattle.plan_moves.specs.declared.edit.Touch.{Touch}
use Rattle.plan_moves.specs.Edits.{AreTouchesInOrder, applied, is_legal, touch_order, touched_by}
use Rattle.plan_rules.specs.Bags.{AreDifferent}
use Rattle.plan_rules.proofs.ById.{plans_are_by_id}
use Rattle.head_changes.specs.Takers.{AreFacts, FactsTurn}
use Rattle.score_director.proofs.Turned.{applied_sound, increasing, untouched_same}

touch_order_total : IsTotalOrder touch_order
unfolding touch_order
touch_order_total = then_total (on_total (λ t. t.class) nat_cmp_total) (on_total (λ t. t.id) nat_cmp_total)

-- no entity comes before itself
not_itself : (one other : Touch) → is_lt (touch_order one other) ≡ true → one ≡ other → ⊥
not_itself one other before is =
    let tied : touch_order one one ≡ Equal = tied_itself touch_order_total one in
    let itself : is_lt (touch_order one one) ≡ true = ap (λ (t : Touch). is_lt (touch_order one t)) is ∙ before in
    false_not_true (sym (ap is_lt tied) ∙ itself)
  where
    false_not_true : false ≡ true → ⊥
    false_not_true e = cc

-- entities in order are different
pub touches_differ : (touches : List Touch) → AreTouchesInOrder touches → AreDifferent touches
touches_differ touches order i j d below within = λ is. not_itself _ _ (order i j d below within) is

-- the records of a plan stand by their ids, each under its class
pub plans_are_facts : (plan : PlanView) → IsPlan plan → AreFacts (records_of plan)
unfolding records_of
plans_are_facts plan sound = record {
  by_id = plans_are_by_id plan (λ class. increasing plan class sound);
  classed = λ class. All-map (λ (rec : Rec). rec.class ≡ class) (resolved plan class) (class_of plan class).facts (λ k d within. refl);
}

-- a legal edit turns the records of a plan at the entities that it touches
pub edit_turns_facts : (plan : PlanView) (sets : List Set) → IsPlan plan → is_legal plan sets ≡ true → AreTouchesInOrder (touched_by sets)
    → FactsTurn (touched_by sets) (records_of plan) (records_of (applied plan sets))
edit_turns_facts plan sets sound legal order = record {
  differ = touches_differ (touched_by sets) order;
  old = plans_are_facts plan sound;
  new = plans_are_facts (applied plan sets) (applied_sound plan sets sound legal);
  same = λ class. untouched_same plan sets class sound legal;
}
