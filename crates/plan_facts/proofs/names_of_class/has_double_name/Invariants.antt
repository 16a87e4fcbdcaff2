use Rattle.std.proofs.Common.{◌≡◌, drop}
use Rattle.plan_facts.specs.Schema.{member_names, has_double}
use Rattle.plan_facts.proofs.names_of_class.has_double_name.Given as goal

-- no name before this place stands twice
abbrev pub invariant-loop-place : goal.invariant-loop-place
invariant-loop-place l = has_double (member_names l.class) ≡ has_double (drop l.place (member_names l.class))
