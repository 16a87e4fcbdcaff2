-- Numbers and counts within their ranges.
use Rattle.std.proofs.Common.{◌≡◌, ◌∙◌, ℕ, ◌≤◌, ℤ, pos, negsuc, Bool, true, false, ◌&&◌, not, cond, nat_le, List, [], ◌∷◌, map, length, Option, Some, None, find, is_some, option_map, unwrap_or, option_and_then, All, refl, sym, subst, arith}
use Rattle.std.specs.List.{list_all, filter_map, cons_option, AllByRecursion}
use Rattle.std.specs.Option.{option_map_or, option_or}
use Rattle.std.proofs.lemmas.List.{length-map}
use Rattle.std.proofs.lemmas.List.Elements.{All-from_recursion, recursion_from_All}
use Rattle.std.proofs.lemmas.List.Folds.{find-append, list_all-map}
use Rattle.std.proofs.lemmas.Bool.Decides.{nat_tests}
use Rattle.serde_json.specs.Data.{Data}
use Rattle.serde_json.specs.Find.{get}
use Rattle.serde_json.specs.View.{view}
use Rattle.serde_json.specs.declared.value.Value.{Value}
use Rattle.json_values.specs.Values.{within, whole_number, number_within, items_of}
use Rattle.plan_settings.specs.Settings.{is_selector_count, IsSize, IsInRange, usual_settings}
use Rattle.plan_settings.specs.declared.setting.Selector.{Selector}
use Rattle.plan_settings.specs.declared.setting.Setting.{Setting}
use Rattle.plan_settings.specs.declared.setting.Setting.TheVariants.{Seed, Steps, SelectLimit, AcceptedLimit, PickEarly, Acceptor, LateSize, TabuSize, StepCountSize, Selectors, Construction}
use Rattle.problem_settings.specs.declared.root.Format.{Format}
use Rattle.problem_settings.specs.declared.root.Format.TheVariants.{One, Two}
use Rattle.problem_settings.specs.Words.{selector_of}
use Rattle.problem_settings.proofs.Lists.{length-filter_map}
use Rattle.plan_rules.specs.declared.rule.RuleDef.{RuleDef}
use Rattle.problem_settings.specs.Weights.{weight_of, weights_of}
use Rattle.problem_settings.specs.SettingsOf.{size_of, are_selectors, is_right, given, is_bad, known_settings, selectors_of, settings_of}

-- values that are seen one by one
pub are_selectors-view : (vs : List Value) → are_selectors (map view vs) ≡ (is_selector_count (length vs) && list_all (λ v. is_some (selector_of (view v))) vs)
are_selectors-view vs = rw (length-map vs view, list_all-map (λ v. is_some (selector_of v)) view vs) refl

-- a number lies between two others
pub record IsBetween (low high n : ℕ) : Type 0 where
  pub least : low ≤ n
  pub most : n ≤ high

tested : (low high n usual : ℕ) (a b : Bool) → nat_le low n ≡ a → nat_le n high ≡ b → IsBetween low high usual → IsBetween low high (unwrap_or (cond (a && b) (Some n) None) usual)
tested low high n usual true true e f h = record { least = grind (arith, nat_tests); most = grind (arith, nat_tests) }
tested low high n usual true false e f h = h
tested low high n usual false b e f h = h

-- a whole number that was read within a range, or a usual one, lies in the range
within-between : (low high usual : ℕ) (z : Option ℤ) → IsBetween low high usual → IsBetween low high (unwrap_or (option_and_then (within low high) z) usual)
within-between low high usual None h = h
within-between low high usual (Some (pos n)) h = tested low high n usual (nat_le low n) (nat_le n high) refl refl h
within-between low high usual (Some (negsuc n)) h = h

-- a number that is given within a range, or the usual one, lies in the range
pub given-between : (low high usual : ℕ) (value : Option Data) → IsBetween low high usual → IsBetween low high (unwrap_or (option_and_then (number_within low high) value) usual)
given-between low high usual None h = h
given-between low high usual (Some d) h = within-between low high usual (whole_number d) h

-- a size that is given, or the usual one, is a size
given-size : (usual : ℕ) (value : Option Data) → IsBetween 1 10000 usual → IsSize (unwrap_or (option_and_then size_of value) usual)
given-size usual value h = let k = given-between 1 10000 usual value h in record { least = k.least; most = k.most }

later : {A : Type 0} (o q : Option A) → option_or o q ≡ None → q ≡ None
later None q e = e
later (Some x) q e = cc

past : {A : Type 0} (p : A → Bool) (x : A) (xs : List A) → find p (x ∷ xs) ≡ None → (p x ≡ false) × (find p xs ≡ None)
past p x xs none = tested (p x) refl none
  where
    tested : (b : Bool) → p x ≡ b → cond b (Some x) (find p xs) ≡ None → (p x ≡ false) × (find p xs ≡ None)
    tested true is e = cc
    tested false is e = (is, e)

-- what isn't found isn't the tenth setting
tenth : (p : Setting → Bool) (rest : List Setting) → find p (Seed ∷ Steps ∷ SelectLimit ∷ AcceptedLimit ∷ PickEarly ∷ Acceptor ∷ LateSize ∷ TabuSize ∷ StepCountSize ∷ Selectors ∷ rest) ≡ None → p Selectors ≡ false
tenth p rest none =
    let before = Seed ∷ Steps ∷ SelectLimit ∷ AcceptedLimit ∷ PickEarly ∷ Acceptor ∷ LateSize ∷ TabuSize ∷ StepCountSize ∷ [] in
    (past p Selectors rest (later (find p before) (find p (Selectors ∷ rest)) (sym (find-append p before (Selectors ∷ rest)) ∙ none))).0

-- where no setting of a format is bad, the selectors aren't
selectors_right : (format : Format) (settings : Option Data) → find (is_bad settings) (known_settings format) ≡ None → is_bad settings Selectors ≡ false
selectors_right One settings none = tenth (is_bad settings) [] none
selectors_right Two settings none = tenth (is_bad settings) (Construction ∷ []) none

few : (n : ℕ) → is_selector_count n ≡ true → IsBetween 1 8 n
few n e = record { least = grind (arith, nat_tests); most = grind (arith, nat_tests) }

few_listed : (values : List Data) (a b : Bool) → is_selector_count (length values) ≡ a → list_all (λ v. is_some (selector_of v)) values ≡ b → not (a && b) ≡ false
    → IsBetween 1 8 (length (filter_map selector_of values))
few_listed values true true e f g = rw (length-filter_map selector_of values f) (few (length values) e)
few_listed values true false e f g = cc
few_listed values false b e f g = cc

few_items : (items : Option (List Data)) (usual : List Selector) → not (option_map_or are_selectors items false) ≡ false
    → IsBetween 1 8 (length (unwrap_or (option_map (filter_map selector_of) items) usual))
few_items None usual e = cc
few_items (Some values) usual e = few_listed values (is_selector_count (length values)) (list_all (λ v. is_some (selector_of v)) values) refl refl e

few_given : (value : Option Data) → option_map_or (λ value. not (is_right Selectors value)) value false ≡ false
    → IsBetween 1 8 (length (unwrap_or (option_and_then selectors_of value) usual_settings.selectors))
few_given None e = record { least = omega arith; most = omega arith }
few_given (Some d) e = few_items (items_of d) usual_settings.selectors e

-- where no setting is bad, the settings are in range
pub in_range : (format : Format) (settings : Option Data) → find (is_bad settings) (known_settings format) ≡ None → IsInRange (settings_of settings)
in_range format settings none =
    let selectors = few_given (given Selectors settings) (selectors_right format settings none) in
    record {
      steps = (given-between 0 1000000 1000 (given Steps settings) (record { least = omega arith; most = omega arith })).most;
      select_limit = given-size 1000 (given SelectLimit settings) (record { least = omega arith; most = omega arith });
      accepted_limit = given-size 1 (given AcceptedLimit settings) (record { least = omega arith; most = omega arith });
      late_size = given-size 400 (given LateSize settings) (record { least = omega arith; most = omega arith });
      tabu_size = given-size 7 (given TabuSize settings) (record { least = omega arith; most = omega arith });
      step_count_size = given-size 400 (given StepCountSize settings) (record { least = omega arith; most = omega arith });
      some_selector = selectors.least;
      few_selectors = selectors.most;
    }

same_some : {A : Type 0} (x y : A) → Some x ≡ Some y → x ≡ y
same_some x y e = cc

-- a weight is in range where the rule's own is
weight-in_range : (member : Option Data) (own n : ℕ) → own ≤ 1000000 → option_map_or (number_within 0 1000000) member (Some own) ≡ Some n → n ≤ 1000000
weight-in_range None own n h e = let same = same_some own n e in omega arith
weight-in_range (Some d) own n h e =
    let P : Option ℕ → Type 0 = λ o. unwrap_or o 0 ≤ 1000000 in
    subst P e (given-between 0 1000000 0 (Some d) (record { least = omega arith; most = omega arith })).most

kept : (o : Option ℕ) (ws : List ℕ) → ((n : ℕ) → o ≡ Some n → n ≤ 1000000) → AllByRecursion (λ w. w ≤ 1000000) ws → AllByRecursion (λ w. w ≤ 1000000) (cons_option o ws)
kept None ws h rest = rest
kept (Some n) ws h rest = (h n refl, rest)

each_in_range : (weights : Option Data) (rules : List RuleDef) → AllByRecursion (λ rule. rule.weight ≤ 1000000) rules → AllByRecursion (λ w. w ≤ 1000000) (weights_of rules weights)
each_in_range weights [] own = tt
each_in_range weights (rule ∷ rest) own =
    kept (weight_of weights rule) (weights_of rest weights) (λ n e. weight-in_range (option_and_then (get rule.name) weights) rule.weight n own.0 e) (each_in_range weights rest own.1)

-- weights are in range where the rules' own are
pub weights-in_range : (weights : Option Data) (rules : List RuleDef) → All (λ rule. rule.weight ≤ 1000000) rules → All (λ w. w ≤ 1000000) (weights_of rules weights)
weights-in_range weights rules own =
    All-from_recursion (λ w. w ≤ 1000000) (weights_of rules weights) (each_in_range weights rules (recursion_from_All (λ rule. rule.weight ≤ 1000000) rules own))
