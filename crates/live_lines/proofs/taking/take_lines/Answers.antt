use Rattle.std.proofs.Common.{◌≡◌, Result, Ok, Err, arith}
use Rattle.std.specs.Prelude.{OnErr}
use Rattle.live_lines.specs.Taking.{feed_on, grounds, searched}
use Rattle.live_lines.proofs.Fronts.{took_front, took_more}
use Rattle.live_lines.proofs.taking.take_lines.Goals as goal

on_err : {T E : Type 0} (r : Result T E) (P : Type 0) → P → OnErr r P
on_err (Ok v) P p = tt
on_err (Err e) P p = p

pub returns-in_err-take_next-clause-front : goal.returns-in_err-take_next-clause-front
returns-in_err-take_next-clause-front g c =
    let feed = feed_on (grounds c.args.schema.now c.args.rules.now.defs c.args.rules.now.caps) in
    let before = searched c.args.director.now c.args.names.now in
    let mid = searched c.loop-post.director c.loop-post.names in
    let after = searched c.take_next.new.director c.take_next.new.names in
    let same : after ≡ mid = λ i. searched (c.in_err-take_next.ensures.err i) (c.in_err-take_next.ensures.names_stay i) in
    on_err _ _ (took_front feed c.args.boundary c.args.posts.now c.loop-post.post-index before mid after c.args.into.now.items c.loop-post.into.items c.take_next.new.into.items c.loop-post.invariant.took same c.in_err-take_next.ensures.untold)

pub loop-post-preserved : goal.loop-post-preserved
loop-post-preserved g c =
    let feed = feed_on (grounds c.args.schema.now c.args.rules.now.defs c.args.rules.now.caps) in
    let before = searched c.args.director.now c.args.names.now in
    let mid = searched c.loop-post.director c.loop-post.names in
    let after = searched c.take_next.new.director c.take_next.new.names in
    let few = c.take_next.ensures.few in
    record {
      took = took_more feed c.args.boundary c.args.posts.now c.loop-post.post-index c.post-item.result before mid after c.args.into.now.items c.loop-post.into.items c.take_next.new.into.items c.loop-post-test.true c.post-item.is c.loop-post.invariant.took c.in_ok-take_next.ensures.took;
      judges = c.take_next.ensures.judges.1;
      own = c.take_next.ensures.own;
      rest = c.take_next.ensures.rest;
      schema = c.take_next.ensures.schema;
      few = omega (arith, few, c.loop-post.invariant.few);
    }
