use Rattle.std.proofs.Common.{◌≡◌, ◌∙◌, List, ap, arith, subst, sym}
use Rattle.plan_facts.specs.Plan.{ClassView, IsPlan, plan_with, unplaced_of}
use Rattle.plan_facts.specs.PlanBack.{removal_view}
use Rattle.plan_facts.proofs.PutBack.{all_held, back_again, room_there, same_removed, was_put_back}
use Rattle.plan_facts.proofs.Sound.{few_unplaced}
use Rattle.plan_facts.proofs.plan.Plan.put_back.Goals as goal

pub put_all-requires-clause-few : goal.put_all-requires-clause-few
put_all-requires-clause-few c =
    let plan = plan_with c.self.inside.tables.items c.self.inside.made in
    let removal = removal_view c.removal.inside.class c.removal.inside.raw c.removal.inside.held c.removal.inside.room in
    let removed = same_removed removal c.args.removal plan c.args.self.now c.removal.view_is c.self.view_is c.requires.0 c.requires.1 in
    let same = all_held c.requires.0 plan removal removed in
    omega arith

pub index_mut-table-requires : goal.index_mut-table-requires
index_mut-table-requires c =
    let plan = plan_with c.self.inside.tables.items c.self.inside.made in
    let removal = removal_view c.removal.inside.class c.removal.inside.raw c.removal.inside.held c.removal.inside.room in
    let removed = same_removed removal c.args.removal plan c.args.self.now c.removal.view_is c.self.view_is c.requires.0 c.requires.1 in
    let done = was_put_back c.requires.0 plan removal c.put_all.new.tables.items removed c.put_all.ensures in
    omega (arith, c.put_all.new.tables.ok.0, done.there)

pub put_back-requires : goal.put_back-requires
put_back-requires c =
    let plan = plan_with c.self.inside.tables.items c.self.inside.made in
    let removal = removal_view c.removal.inside.class c.removal.inside.raw c.removal.inside.held c.removal.inside.room in
    let removed = same_removed removal c.args.removal plan c.args.self.now c.removal.view_is c.self.view_is c.requires.0 c.requires.1 in
    room_there c.requires.0 plan removal c.put_all.new.tables.items c.index_mut-table.result.now removed c.put_all.ensures c.index_mut-table.ensures.value

pub count_all_missing-self-inside-requires : goal.count_all_missing-self-inside-requires
count_all_missing-self-inside-requires c =
    let plan = plan_with c.self.inside.tables.items c.self.inside.made in
    let removal = removal_view c.removal.inside.class c.removal.inside.raw c.removal.inside.held c.removal.inside.room in
    let removed = same_removed removal c.args.removal plan c.args.self.now c.removal.view_is c.self.view_is c.requires.0 c.requires.1 in
    let back = back_again c.requires.0 plan removal c.put_all.new.tables.items c.index_mut-table.result.now c.put_back.new.self removed c.put_all.ensures c.index_mut-table.ensures.value c.put_back.ensures in
    let all : unplaced_of (plan_with c.deref.result.now 0) ≡ unplaced_of c.requires.0 = ap (λ (tables : List ClassView). unplaced_of (plan_with tables 0)) c.deref.ensures.value ∙ ap unplaced_of back in
    let few = few_unplaced c.requires.0 c.requires.1.sound in
    omega arith

pub invariant_of-self : goal.invariant_of-self
invariant_of-self c =
    let plan = plan_with c.self.inside.tables.items c.self.inside.made in
    let removal = removal_view c.removal.inside.class c.removal.inside.raw c.removal.inside.held c.removal.inside.room in
    let removed = same_removed removal c.args.removal plan c.args.self.now c.removal.view_is c.self.view_is c.requires.0 c.requires.1 in
    let back = back_again c.requires.0 plan removal c.put_all.new.tables.items c.index_mut-table.result.now c.put_back.new.self removed c.put_all.ensures c.index_mut-table.ensures.value c.put_back.ensures in
    (subst IsPlan (sym back) c.requires.1.sound, c.count_all_missing-self-inside.ensures ∙ ap (λ (tables : List ClassView). unplaced_of (plan_with tables 0)) c.deref.ensures.value)

pub returns-clause-before : goal.returns-clause-before
returns-clause-before c = λ before removed.
    let plan = plan_with c.self.inside.tables.items c.self.inside.made in
    let removal = removal_view c.removal.inside.class c.removal.inside.raw c.removal.inside.held c.removal.inside.room in
    back_again before plan removal c.put_all.new.tables.items c.index_mut-table.result.now c.put_back.new.self (same_removed removal c.args.removal plan c.args.self.now c.removal.view_is c.self.view_is before removed) c.put_all.ensures c.index_mut-table.ensures.value c.put_back.ensures

pub returns-clause-sound : goal.returns-clause-sound
returns-clause-sound c =
    let plan = plan_with c.self.inside.tables.items c.self.inside.made in
    let removal = removal_view c.removal.inside.class c.removal.inside.raw c.removal.inside.held c.removal.inside.room in
    let removed = same_removed removal c.args.removal plan c.args.self.now c.removal.view_is c.self.view_is c.requires.0 c.requires.1 in
    let back = back_again c.requires.0 plan removal c.put_all.new.tables.items c.index_mut-table.result.now c.put_back.new.self removed c.put_all.ensures c.index_mut-table.ensures.value c.put_back.ensures in
    subst IsPlan (sym back) c.requires.1.sound
