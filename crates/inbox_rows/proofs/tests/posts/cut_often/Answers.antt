use Rattle.std.proofs.Common.{◌∙◌, refl, arith}
use Rattle.live_posts.proofs.Cutting.{no_more_shuts, one_more_cut}
use Rattle.inbox_rows.proofs.tests.posts.cut_often.Goals as goal

pub loop-boundary-init : goal.loop-boundary-init
loop-boundary-init g c = record { inbox = c.requires.own; number = refl; cuts = omega arith; shuts = refl }

pub loop-boundary-preserved : goal.loop-boundary-preserved
loop-boundary-preserved g c =
    let before = c.loop-boundary.invariant in
    let took = c.in_ok-posts.ensures.took in
    let more = one_more_cut c.loop-boundary.cutter c.cut.new.self c.loop-boundary.boundary took.0 took.1 in
    record {
      inbox = c.in_ok-posts.ensures.seat.0;
      number = c.in_ok-posts.ensures.seat.1 ∙ before.number;
      cuts = omega (arith, more, before.cuts);
      shuts = no_more_shuts c.loop-boundary.cutter c.cut.new.self c.loop-boundary.boundary c.in_ok-posts.ensures.own ∙ before.shuts;
    }

pub returns-in_err-posts-clause-room : goal.returns-in_err-posts-clause-room
returns-in_err-posts-clause-room g c =
    let before = c.loop-boundary.invariant in
    let took = c.in_err-posts.ensures.took in
    let more = one_more_cut c.loop-boundary.cutter c.cut.new.self c.loop-boundary.boundary took.0 took.1 in
    omega (arith, more, before.cuts, c.requires.room)

pub returns-in_err-posts-clause-same : goal.returns-in_err-posts-clause-same
returns-in_err-posts-clause-same g c = no_more_shuts c.loop-boundary.cutter c.cut.new.self c.loop-boundary.boundary c.in_err-posts.ensures.own ∙ c.loop-boundary.invariant.shuts
