use Rattle.plan_search.proofs.Quiet.{one_leg, grows_by_a_line, later_lines_go_on, solve_prints}
use Rattle.plan_search.proofs.laws.quiet_runs_grow.Goals as goal

pub returns : goal.returns
returns c = record { one_leg = one_leg; by_a_line = grows_by_a_line; go_on = later_lines_go_on; prints = solve_prints }
