use Rattle.plan_session.proofs.Toured.{sum_written}
use Rattle.plan_session.proofs.touring.tour_text.Goals as goal

pub returns : goal.returns
returns g c =
    sum_written _ c.as_slice.result.now c.args.number c.args.size c.in-Ok.searched _ _ c.new-out.ensures.items c.in_ok-write_tour.ensures
    c.as_slice.ensures c.in-Ok.ensures
