use Rattle.std.proofs.Common.{◌≡◌, drop}
use Rattle.std.specs.Str.{bytes_eq}
use Rattle.std.specs.List.{list_any}
use Rattle.plan_facts.specs.Schema.{member_names}
use Rattle.plan_facts.proofs.names_of_class.stands_from.Given as goal

-- the name doesn't stand before this place
abbrev pub invariant-loop-place : goal.invariant-loop-place
invariant-loop-place l =
    list_any (bytes_eq l.name) (drop l.fn.from (member_names l.class)) ≡ list_any (bytes_eq l.name) (drop l.place (member_names l.class))
