use Rattle.std.proofs.Common.{◌≡◌, ◌∙◌, ◌≤◌, List, Option, Some, IfSome, length, map, take, refl, sym, subst}
use Rattle.live_posts.specs.Cuts.{Take, taken_by}
use Rattle.plan_changes.specs.declared.line.Post.{Post}
use Rattle.plan_json.specs.Seen.{domain_view}
use Rattle.plan_session.specs.LiveRuns.{AgreesWith, AreInOrder, HasNoStop, HasStop}
use Rattle.plan_session.specs.Origins.{origin_state}
use Rattle.plan_session.specs.Posed.{posed_at}
use Rattle.plan_session.proofs.LiveLead.{is_posed_at}
use Rattle.plan_session.proofs.driving.lead_half.Goals as goal

-- what holds of a value holds where that is the value
of_some : {X : Type 0} (P : X → Type 0) (o : Option X) (x : X) → o ≡ Some x → P x → IfSome o P
of_some {X = X} P o x is = subst (λ (one : Option X). IfSome one P) (sym is)

pub returns-in-Ok-clause-led : goal.returns-in-Ok-clause-led
returns-in-Ok-clause-led g c =
    let makes = map (λ m. (goal.MoveMaker-dyn g (m.vtable, m.value)).made m.value) c.args.domain.now.makers.items in
    let origin = c.in-Some.origin in
    let posed = posed_at g.B.Book.meaning makes (domain_view c.args.domain.now) c.args.settings.now (origin_state origin) in
    let by = is_posed_at g.B.Book.meaning makes (domain_view c.args.domain.now) c.args.settings.now (origin_state origin) in
    let done = c.in-Ok.ensures in
    of_some _ c.args.origin.now origin (sym c.take.ensures.value ∙ c.in-Some.is) (record {
      in_order = done.in_order;
      few = done.few;
      all = done.all;
      no_stop = done.no_stop;
      printed = λ takes agrees start named. done.printed takes agrees posed start by refl named;
      broken = tt;
      stopped = done.stopped;
      failed = done.failed;
      later = done.later;
    })

pub returns-in-Ok-clause-steps : goal.returns-in-Ok-clause-steps
returns-in-Ok-clause-steps g c =
    let makes = map (λ m. (goal.MoveMaker-dyn g (m.vtable, m.value)).made m.value) c.args.domain.now.makers.items in
    let origin = c.in-Some.origin in
    let posed = posed_at g.B.Book.meaning makes (domain_view c.args.domain.now) c.args.settings.now (origin_state origin) in
    let by = is_posed_at g.B.Book.meaning makes (domain_view c.args.domain.now) c.args.settings.now (origin_state origin) in
    of_some _ c.args.origin.now origin (sym c.take.ensures.value ∙ c.in-Some.is) (λ takes agrees. c.in-Ok.ensures.made takes agrees posed by refl)

pub returns-in-Err-clause-led : goal.returns-in-Err-clause-led
returns-in-Err-clause-led g c =
    let makes = map (λ m. (goal.MoveMaker-dyn g (m.vtable, m.value)).made m.value) c.args.domain.now.makers.items in
    let origin = c.in-Some.origin in
    let posed = posed_at g.B.Book.meaning makes (domain_view c.args.domain.now) c.args.settings.now (origin_state origin) in
    let by = is_posed_at g.B.Book.meaning makes (domain_view c.args.domain.now) c.args.settings.now (origin_state origin) in
    let done = c.in-Err.ensures in
    let took : taken_by c.give_up.new.cutter ≡ taken_by c.lead.new.cutter = c.give_up.ensures.took in
    let broken = done.broken in
    of_some _ c.args.origin.now origin (sym c.take.ensures.value ∙ c.in-Some.is) (record {
      in_order = subst AreInOrder (sym took) done.in_order;
      few = subst (λ (cuts : List (Take Post)). length cuts ≤ c.args.settings.now.steps) (sym took) done.few;
      all = tt;
      no_stop = tt;
      printed = tt;
      broken = record {
        count = broken.count;
        enough = broken.enough;
        quiet = subst (λ (cuts : List (Take Post)). HasNoStop (take broken.count cuts)) (sym took) broken.quiet;
        holds = λ takes agrees start named.
            broken.holds takes (subst (λ (cuts : List (Take Post)). AgreesWith takes (take broken.count cuts)) took agrees) posed start by refl named;
      };
      stopped = λ cause of. subst (HasStop cause) (sym took) (done.stopped cause of);
      failed = done.failed;
      later = done.later;
    })

pub returns-in-Err-clause-steps : goal.returns-in-Err-clause-steps
returns-in-Err-clause-steps g c = of_some _ c.args.origin.now c.in-Some.origin (sym c.take.ensures.value ∙ c.in-Some.is) tt
