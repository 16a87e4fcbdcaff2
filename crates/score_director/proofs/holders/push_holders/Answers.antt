use Rattle.std.proofs.Common.{◌≡◌, ◌∙◌, ◌==◌, ◌++◌, ℕ, Bool, false, List, ap, sym}
use Rattle.std.specs.List.{list_any}
use Rattle.std.proofs.lemmas.List.{append-nil}
use Rattle.plan_facts.specs.Plan.{class_of}
use Rattle.plan_moves.specs.declared.edit.Touch.{Touch}
use Rattle.score_director.specs.Holders.{keys_of_holders}
use Rattle.score_director.proofs.About.{none_hold}
use Rattle.score_director.proofs.holders.push_holders.Goals as goal

pub returns-then-not-contains : goal.returns-then-not-contains
returns-then-not-contains c =
    let view = class_of c.args.plan.now c.args.class in
    let p : ℕ → Bool = λ range. range == c.args.fact.class in
    let absent : list_any p view.ranges ≡ false = ap (list_any p) (sym c.ranges-ranges.ensures.ranges) ∙ sym c.contains.ensures.value ∙ c.if-not-contains.true in
    let none = none_hold c.args.fact c.args.class view.ranges view.facts absent in
    sym (ap (λ (keys : List Touch). c.args.keys.now.items ++ keys) none ∙ append-nil c.args.keys.now.items)

pub returns : goal.returns
returns c =
    c.in_ok-push_holders_of.ensures
    ∙ (λ i. c.args.keys.now.items ++ keys_of_holders c.args.fact c.args.class (c.ranges-ranges.ensures.ranges i) (c.facts.ensures.facts i))
