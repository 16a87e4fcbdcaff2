use Rattle.std.proofs.Common.{ap}
use Rattle.live_posts.specs.declared.fed.Fed.TheVariants.{Stopped}
use Rattle.live_posts.specs.Feeding.{stops_behind}
use Rattle.live_posts.proofs.Lines.{own_same, refused_no_stop}
use Rattle.live_posts.proofs.feeder.post_stop.Goals as goal

pub returns-in-None-clause-posted : goal.returns-in-None-clause-posted
returns-in-None-clause-posted g c = c.in-None.ensures.stored

pub returns-in-None-clause-cause : goal.returns-in-None-clause-cause
returns-in-None-clause-cause g c = λ no. ap Stopped c.cause_of-cause.ensures

pub returns-in-Some-clause-posted : goal.returns-in-Some-clause-posted
returns-in-Some-clause-posted g c = own_same c.args.seat.now c.post_next.new.seat (stops_behind c.args.lines c.in-Some.fed) (refused_no_stop c.args.lines c.in-Some.fed c.in-Some.ensures.refused) c.in-Some.ensures.same

pub returns-in-Some-clause-cause : goal.returns-in-Some-clause-cause
returns-in-Some-clause-cause g c = λ no. let both = c.in-Some.ensures.refused in absurd (cc (both, no))
