use Rattle.std.proofs.Common.{◌≡◌, ◌*◌, ◌++◌, map}
use Rattle.std.specs.List.{join_with_byte, range_with_len}
use Rattle.plan_gen.specs.Draw.{state_after}
use Rattle.plan_gen.specs.Problem.{lesson}
use Rattle.plan_gen.specs.Text.{comma, lesson_text}
use Rattle.plan_gen.proofs.text.write_lessons.Given as goal

abbrev pub invariant-loop-place : goal.invariant-loop-place
invariant-loop-place l =
    (l.generator.state ≡ state_after l.number (4 * l.place))
    × (l.out.items ≡ l.initial.out.items ++ join_with_byte comma (map lesson_text (map (lesson l.number l.size) (range_with_len 0 l.place))))
