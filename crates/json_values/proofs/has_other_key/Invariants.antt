use Rattle.std.proofs.Common.{◌≡◌, string_bytes}
use Rattle.std.specs.List.{list_any}
use Rattle.std.specs.BTreeMap.{keys}
use Rattle.json_values.specs.Values.{is_other}
use Rattle.json_values.specs.Views.{Knows}
use Rattle.json_values.proofs.has_other_key.Given as goal

-- some key is another one where one of those left is
abbrev pub invariant-loop-key : goal.invariant-loop-key
invariant-loop-key g l =
    (goal.iterator-loop-key g).can_next l.key-iterator
    × (goal.iterator-loop-key g).is_finite l.key-iterator
    × ((names : _) → Knows g.F.Fn l.is_known names →
    list_any (λ key. is_other names (string_bytes key)) (keys l.members) ≡ list_any (λ key. is_other names (string_bytes key)) l.key-iterator)
