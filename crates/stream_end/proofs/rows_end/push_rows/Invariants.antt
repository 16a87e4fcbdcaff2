use Rattle.std.proofs.Common.{◌≡◌, ◌++◌, None, length}
use Rattle.tuple_store.specs.Numbers.{numbers_above}
use Rattle.stream_end.specs.Found.{rows_from}
use Rattle.stream_end.proofs.rows_end.push_rows.Given as goal

-- the rows so far and those that are left stand behind those that were there
abbrev pub invariant-places : goal.invariant-places
invariant-places l = record {
  rows : l.rows ++ rows_from l.heads.now l.kept.now (numbers_above l.after l.kept.now) ≡ l.fn.rows ++ rows_from l.heads.now l.kept.now (numbers_above None l.kept.now);
}

-- rows are left above
abbrev pub decreases-places : goal.decreases-places
decreases-places l = length (numbers_above l.after l.kept.now)
