use Rattle.std.proofs.Common.{◌≡◌, ◌++◌, map}
use Rattle.std.specs.List.{join_with_byte, range_with_len}
use Rattle.plan_gen.specs.Problem.{timeslot}
use Rattle.plan_gen.specs.Text.{comma, timeslot_text}
use Rattle.plan_gen.proofs.text.write_timeslots.Given as goal

abbrev pub invariant-loop-place : goal.invariant-loop-place
invariant-loop-place l = l.out.items ≡ l.initial.out.items ++ join_with_byte comma (map timeslot_text (map timeslot (range_with_len 0 l.place)))
