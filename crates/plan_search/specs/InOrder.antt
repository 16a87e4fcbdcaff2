-- Lists put in order.
use Rattle.std.specs.Prelude.{not, List, [], ◌∷◌, ◌++◌, filter}
use Rattle.std.specs.Ordering.{is_lt}
use Rattle.std.specs.declared.cmp.Ordering.{Ordering}

-- the members of a list in an order: those that come before the first one, the first one, and the others
abbrev pub in_order : {A : Type 0} → (A → A → Ordering) → List A → List A
in_order cmp [] = []
in_order cmp (first ∷ rest) =
    filter (λ other. is_lt (cmp other first)) (in_order cmp rest)
    ++ first ∷ filter (λ other. not (is_lt (cmp other first))) (in_order cmp rest)
