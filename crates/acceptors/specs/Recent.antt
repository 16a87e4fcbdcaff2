-- Which step touched an entity last, and how that is noted.
use Rattle.std.specs.Prelude.{◌≡◌, ℕ, Bool, ◌+◌, ◌==◌, ◌&&◌, List, [], ◌∷◌, Option, Some, None, if◌then◌else◌}
use Rattle.std.specs.Option.{option_or}
use Rattle.std.specs.Map.{lookup}
use Rattle.plan_moves.specs.declared.edit.Touch.{Touch}
use Rattle.acceptors.specs.History.{Past}
use Rattle.acceptors.specs.Accept.{is_among, was_touched}

-- the number of the last member at which the test holds, the members being numbered from n
abbrev pub last_where : {A : Type 0} → (A → Bool) → ℕ → List A → Option ℕ
last_where test n [] = None
last_where test n (x ∷ rest) = option_or (last_where test (n + 1) rest) (if test x then Some n else None)

-- the number of the last step that touched an entity, from 1
abbrev pub last_touch : Touch → List Past → Option ℕ
last_touch touch steps = last_where (was_touched touch) 1 steps

-- for each entity, by class and id, the number of a step
abbrev pub Notes : Type 0
Notes = List ((ℕ × ℕ) × ℕ)

-- the step that is noted for an entity
abbrev pub step_in : Notes → Touch → Option ℕ
step_in notes touch = lookup (λ key. (touch.class == key.0) && (touch.id == key.1)) notes

-- a step's number is noted for these entities, and the rest stays
abbrev pub AreNoted : Notes → List Touch → ℕ → Notes → Type 0
AreNoted old touched step new =
    (touch : Touch) → step_in new touch ≡ (if is_among touched touch then Some step else step_in old touch)

-- the same steps are noted
abbrev pub AreSame : Notes → Notes → Type 0
AreSame old new = (touch : Touch) → step_in new touch ≡ step_in old touch
