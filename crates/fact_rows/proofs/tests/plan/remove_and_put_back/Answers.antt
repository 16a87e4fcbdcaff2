use Rattle.std.proofs.Common.{◌∙◌, ℕ, ap, subst, sym}
use Rattle.plan_facts.specs.PlanBack.{PutsBack}
use Rattle.plan_facts.specs.PlanChanges.{without_fact}
use Rattle.fact_rows.proofs.tests.plan.remove_and_put_back.Goals as goal

pub returns-then-remove : goal.returns-then-remove
returns-then-remove c =
    let puts = c.in_ok-removal.ensures.puts in
    c.put_back.ensures.before c.args.plan.now (record {
      id = c.args.id;
      sound = c.removal.ensures.sound;
      puts = subst (λ (class : ℕ). PutsBack c.in_ok-removal.removal c.args.plan.now class c.args.id) (sym puts.own) puts;
      is = c.if-remove.ensures.removed ∙ ap (λ (class : ℕ). without_fact c.args.plan.now class c.args.id) (sym puts.own);
    })
