use Rattle.std.proofs.Common.{◌≡◌, drop, map}
use Rattle.std.specs.Prelude.{find}
use Rattle.plan_rules.specs.Faults.{is_missing}
use Rattle.plan_rules.specs.Named.{key_named}
use Rattle.plan_rules.proofs.missing.missing_of_keys.Given as goal

-- none so far is missing
abbrev pub invariant-loop-key : goal.invariant-loop-key
invariant-loop-key l =
    find (is_missing l.numbers) (map key_named l.keys) ≡ find (is_missing l.numbers) (map key_named (drop l.key-index l.keys))
