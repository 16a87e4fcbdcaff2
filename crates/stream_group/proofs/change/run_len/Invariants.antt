use Rattle.std.proofs.Common.{◌≡◌, ◌+◌, length, drop}
use Rattle.std.specs.Prelude.{take_while}
use Rattle.stream_group.specs.Keyed.{has_key}
use Rattle.stream_group.proofs.change.run_len.Given as goal

-- those so far have the key
abbrev pub invariant-loop-change : goal.invariant-loop-change
invariant-loop-change l = record {
  len : l.len ≡ l.change-index;
  rest : length (take_while (has_key l.width l.key) l.changes) ≡ l.change-index + length (take_while (has_key l.width l.key) (drop l.change-index l.changes));
}
