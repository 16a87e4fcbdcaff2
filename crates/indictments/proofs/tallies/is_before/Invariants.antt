use Rattle.std.proofs.Common.{◌≡◌, take}
use Rattle.std.specs.List.{list_any}
use Rattle.indictments.specs.Indicts.{is_fact}
use Rattle.indictments.proofs.tallies.is_before.Given as goal

-- whether the fact is among the parts so far
abbrev pub invariant-loop-place : goal.invariant-loop-place
invariant-loop-place l = l.found ≡ list_any (is_fact l.class l.id) (take l.place l.row)
