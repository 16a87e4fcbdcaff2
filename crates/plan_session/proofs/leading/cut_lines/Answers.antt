use Rattle.std.proofs.Common.{◌≡◌, ◌∙◌, sym, subst}
use Rattle.std.specs.List.{Any}
use Rattle.live_posts.specs.Cuts.{taken_by}
use Rattle.live_posts.proofs.Cutting.{no_more_shuts}
use Rattle.plan_changes.specs.declared.line.Body.TheVariants.{Stop}
use Rattle.plan_changes.specs.declared.line.Post.{Post}
use Rattle.plan_session.specs.LiveRuns.{HasStop}
use Rattle.plan_session.proofs.LiveCuts.{stop_more}
use Rattle.plan_session.proofs.LiveFronts.{same_cause}
use Rattle.plan_session.proofs.leading.cut_lines.Goals as goal

pub returns-in_err-posts-clause-shuts : goal.returns-in_err-posts-clause-shuts
returns-in_err-posts-clause-shuts g c = no_more_shuts c.args.cutter.now c.cut.new.self c.args.boundary c.in_err-posts.ensures.own

pub returns-in-Some-clause-stopped : goal.returns-in-Some-clause-stopped
returns-in-Some-clause-stopped g c = λ cause of.
    let took = c.in_ok-posts.ensures.took in
    let same = same_cause c.in-Some.cause cause of in
    let some = subst (Any (λ (post : Post). post.body ≡ Stop c.in-Some.cause)) (c.as_slice.ensures ∙ took.2) c.in-Some.ensures.some in
    subst (λ (why : _). HasStop why (taken_by c.cut.new.self)) same
    (subst (HasStop c.in-Some.cause) (sym took.1) (stop_more c.in-Some.cause (taken_by c.args.cutter.now) c.args.boundary took.0 some))

pub returns-in-Some-clause-shuts : goal.returns-in-Some-clause-shuts
returns-in-Some-clause-shuts g c = no_more_shuts c.args.cutter.now c.cut.new.self c.args.boundary c.in_ok-posts.ensures.own

pub returns-then-len-gt-MOST_LINES-clause-shuts : goal.returns-then-len-gt-MOST_LINES-clause-shuts
returns-then-len-gt-MOST_LINES-clause-shuts g c = no_more_shuts c.args.cutter.now c.cut.new.self c.args.boundary c.in_ok-posts.ensures.own

pub returns-clause-shuts : goal.returns-clause-shuts
returns-clause-shuts g c = no_more_shuts c.args.cutter.now c.cut.new.self c.args.boundary c.in_ok-posts.ensures.own
