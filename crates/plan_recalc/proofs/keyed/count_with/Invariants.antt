use Rattle.std.proofs.Common.{◌≡◌, ◌≤◌, take, length}
use Rattle.std.specs.Prelude.{filter}
use Rattle.std.specs.Ordering.{int_cmp, is_eq}
use Rattle.std.specs.Cmp.Lexicographic.{slice_cmp}
use Rattle.plan_recalc.proofs.keyed.count_with.Given as goal

-- how many of the keys so far
abbrev pub invariant-loop-other : goal.invariant-loop-other
invariant-loop-other l = record {
  count : l.count ≡ length (filter (λ other. is_eq (slice_cmp int_cmp other l.key)) (take l.other-index l.row_keys));
  few : l.count ≤ l.other-index;
}
