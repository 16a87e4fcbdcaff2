use Rattle.std.proofs.Common.{◌≡◌, ◌∙◌, ℕ, All, None, Option, Some, ap, arith, subst, sym}
use Rattle.std.specs.Prelude.{OnOk}
use Rattle.std.proofs.lemmas.Result.{on_ok_weaker}
use Rattle.plan_rules.specs.Named.{weigh_closures, weigher_named}
use Rattle.plan_rules.specs.Sound.{IsHandedIn}
use Rattle.stream_end.specs.Ends.{EndView}
use Rattle.stream_end.specs.Found.{Adds}
use Rattle.stream_end.proofs.Adding.{counted_adds, weighed_adds}
use Rattle.stream_end.proofs.rows_end.EndNode.add_all.Goals as goal

pub weigh_all-requires-clause-there : goal.weigh_all-requires-clause-there
weigh_all-requires-clause-there g c κs within =
    let weigher : c.args.self.now.weigher ≡ Some c.in-Some.number = sym (ap (λ (v : EndView). v.weigher) c.self.view_is) ∙ c.in-Some.is in
    let there = subst (λ (w : Option ℕ). All (IsHandedIn c.args.rules.now.numbers) (weigh_closures w)) weigher c.requires.there in
    there 0 (weigher_named c.in-Some.number) (omega arith)

pub returns-in-Some-clause-adds : goal.returns-in-Some-clause-adds
returns-in-Some-clause-adds g c =
    let m = g.B.Book.meaning in
    let heads = c.args.heads.now.now in
    let come = c.args.come.now in
    let number = c.in-Some.number in
    let before = c.args.found.now in
    let after = c.weigh_all.new.found in
    let weigher : c.args.self.now.weigher ≡ Some number = sym (ap (λ (v : EndView). v.weigher) c.self.view_is) ∙ c.in-Some.is in
    let adds = on_ok_weaker c.weigh_all.result (weighed_adds m heads number come before after) c.weigh_all.ensures.weighs in
    subst (λ (w : Option ℕ). OnOk c.weigh_all.result (Adds m heads w come before after)) (sym weigher) adds

pub returns-in-None-clause-adds : goal.returns-in-None-clause-adds
returns-in-None-clause-adds g c =
    let m = g.B.Book.meaning in
    let heads = c.args.heads.now.now in
    let come = c.args.come.now in
    let before = c.args.found.now in
    let after = c.count.new.self in
    let weigher : c.args.self.now.weigher ≡ None = sym (ap (λ (v : EndView). v.weigher) c.self.view_is) ∙ c.in-None.is in
    let adds = counted_adds m heads come before after c.count.ensures.come c.count.ensures.total in
    subst (λ (w : Option ℕ). Adds m heads w come before after) (sym weigher) adds
