-- What the root of a problem must be.
use Rattle.std.specs.Prelude.{ℕ, Bool, not, List, [], ◌∷◌, Option, codes, find, option_map, is_some, if◌then◌else◌}
use Rattle.serde_json.specs.Data.{Data}
use Rattle.json_values.specs.Values.{is_object, is_text, number_within, has_other, must_be, may_be}
use Rattle.problem_faults.specs.declared.fault.ProblemFault.{ProblemFault}
use Rattle.problem_faults.specs.declared.fault.ProblemFault.TheVariants.{Shape}
use Rattle.problem_settings.specs.declared.root.Format.{Format}
use Rattle.problem_settings.specs.declared.root.Format.TheVariants.{One, Two}

-- the number of a format
abbrev pub is_format : Data → Bool
is_format value = is_some (number_within 1 2 value)

-- the number of format 2
abbrev pub is_second : Data → Bool
is_second value = is_some (number_within 2 2 value)

-- the format that a root names
abbrev pub format_of : Data → Format
format_of root = if must_be is_second (codes "format") root then Two else One

-- the names of the members that a root may have
abbrev pub root_names : List (List ℕ)
root_names = codes "format" ∷ codes "domain" ∷ codes "settings" ∷ codes "weights" ∷ codes "facts" ∷ []

-- what must hold of a root, in order, each beside the path that is refused where it doesn't
abbrev pub root_demands : Data → List (Bool × List ℕ)
root_demands root =
    (is_object root, codes "/")
    ∷ (must_be is_format (codes "format") root, codes "/format")
    ∷ (must_be is_text (codes "domain") root, codes "/domain")
    ∷ (may_be is_object (codes "settings") root, codes "/settings")
    ∷ (may_be is_object (codes "weights") root, codes "/weights")
    ∷ (must_be is_object (codes "facts") root, codes "/facts")
    ∷ (not (has_other root_names root), codes "/")
    ∷ []

-- the path of the first demand that isn't met
abbrev pub root_flaw : Data → Option (List ℕ)
root_flaw root = option_map (λ demand. demand.1) (find (λ demand. not demand.0) (root_demands root))

-- the fault of a root
abbrev pub root_fault : Data → Option ProblemFault
root_fault root = option_map (λ path. Shape path) (root_flaw root)
