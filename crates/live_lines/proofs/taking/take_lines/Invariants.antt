use Rattle.std.proofs.Common.{◌≡◌, ◌≤◌, ◌+◌, ◌*◌, None, length, take}
use Rattle.plan_changes.specs.Fits.{IsOfSchema}
use Rattle.plan_rules.specs.Range.{MayJudge, sizes_of}
use Rattle.live_lines.specs.Taking.{Took, feed_on, grounds, searched, taken_at}
use Rattle.live_lines.proofs.taking.take_lines.Given as goal

-- the posts so far were taken, and the next one may be
abbrev pub invariant-loop-post : goal.invariant-loop-post
invariant-loop-post g l =
    let feed = feed_on (grounds l.schema l.rules.defs l.rules.caps) in
    record {
      took : Took feed (taken_at l.boundary (take l.post-index l.posts)) (searched l.fn.director l.fn.names) (searched l.director l.names) l.fn.into.items l.into.items;
      judges : MayJudge l.rules.defs l.rules.caps l.director.weights (sizes_of l.director.plan);
      own : l.rules.defs ≡ l.director.rules;
      rest : l.director.base ≡ None;
      schema : IsOfSchema l.schema l.director.plan;
      few : length l.names ≤ length l.fn.names + 16 * l.post-index;
    }
