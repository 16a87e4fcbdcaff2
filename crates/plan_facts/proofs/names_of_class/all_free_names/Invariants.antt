use Rattle.std.proofs.Common.{◌≡◌, drop}
use Rattle.std.specs.List.{list_all}
use Rattle.plan_facts.specs.Schema.{member_names, is_free_name}
use Rattle.plan_facts.proofs.names_of_class.all_free_names.Given as goal

-- the names before this place are ones that the class may have
abbrev pub invariant-loop-place : goal.invariant-loop-place
invariant-loop-place l =
    list_all is_free_name (member_names l.class) ≡ list_all is_free_name (drop l.place (member_names l.class))
