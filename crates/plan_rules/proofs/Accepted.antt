-- What holds of rules that are accepted.
use Rattle.std.proofs.Common.{◌≡◌, ◌∙◌, ℕ, ◌≤◌, ◌<◌, ◌||◌, Bool, true, false, cond, not, List, [], ◌∷◌, ◌++◌, Option, Some, None, take, get_or, length, refl, ap, inl, inr, nat_lt}
use Rattle.std.specs.Prelude.{All, IfSome, IsTrue, ◌==◌, find, nat_le, option_map}
use Rattle.std.specs.List.{cons_option, flat_map, filter_map, list_any}
use Rattle.std.specs.Option.{option_or}
use Rattle.std.proofs.lemmas.List.Elements.{All-nil, All-cons, All-head, All-tail, All-weaker}
use Rattle.plan_facts.specs.Limits.{weight_limit}
use Rattle.plan_facts.specs.Refusal.{IsRefusal}
use Rattle.plan_facts.specs.First.{fault_where, first_fault}
use Rattle.plan_facts.proofs.FirstLaws.{first_fault-none, option_or-none}
use Rattle.plan_facts.specs.declared.record.ClassDef.{ClassDef}
use Rattle.plan_rules.specs.declared.places.Numbers.{Numbers}
use Rattle.plan_rules.specs.declared.rule.Harder.{Harder}
use Rattle.plan_rules.specs.declared.rule.RuleDef.{RuleDef}
use Rattle.plan_rules.specs.declared.fault.RuleFault.{RuleFault}
use Rattle.plan_rules.specs.declared.fault.RuleFault.TheVariants.{Memory, TooManyRules, BadName, WeightRange, TooManyNodes, UnknownClass, TooManyJoiners, KeyCount, TooManyParts}
use Rattle.plan_rules.specs.Faults.{closures_fault, defs_fault, rules_fault, rule_fault, has_bad_name, unknown_class, are_too_many, has_too_many_joiners, has_bad_key_count, lacks_room, has_entities, harder_fault, harders_fault, is_handed_in, is_missing}
use Rattle.plan_rules.specs.Harder.{harder_key}
use Rattle.plan_rules.specs.Named.{key_named, head_class, head_joiners, head_parts, joiner_closures, node_class, node_joiners, node_closures, weigh_closures, closures_named, classes_named}
use Rattle.plan_rules.specs.Sound.{IsHandedIn, IsSound}
use Rattle.plan_rules.proofs.PlacesLaws.{StandsIn, found_stands}
use Rattle.plan_rules.proofs.Untrue.{neither, within, below}

-- a refusal by what comes first is one by both
refused_first : (first later : Option RuleFault) (fault : RuleFault) → IsRefusal Memory first fault → IsRefusal Memory (option_or first later) fault
refused_first None later fault (inl memory) = inl memory
refused_first None later fault (inr found) = cc
refused_first (Some first) later fault refusal = refusal

-- a refusal of the closures is one of the rules
pub refusal_of_closures : (schema : List ClassDef) (numbers : Numbers) (rules : List RuleDef) (harders : List Harder) (fault : RuleFault) → IsRefusal Memory (closures_fault numbers) fault → IsRefusal Memory (rules_fault schema numbers rules harders) fault
unfolding rules_fault
refusal_of_closures schema numbers rules harders fault refusal =
    refused_first (closures_fault numbers) (option_or (defs_fault (length schema) numbers rules) (harders_fault schema numbers harders)) fault refusal

-- where no two closures have one number, the first fault of the rules counts
pub fault_of_rules : (schema : List ClassDef) (numbers : Numbers) (rules : List RuleDef) (harders : List Harder) (fault : RuleFault) → closures_fault numbers ≡ None → Some fault ≡ defs_fault (length schema) numbers rules → rules_fault schema numbers rules harders ≡ Some fault
unfolding rules_fault
fault_of_rules schema numbers rules harders fault distinct found = rw (distinct, ← found) refl

-- and where they have none, that of the harder keys
pub fault_of_harders : (schema : List ClassDef) (numbers : Numbers) (rules : List RuleDef) (harders : List Harder) (found : Option RuleFault) → closures_fault numbers ≡ None → None ≡ defs_fault (length schema) numbers rules → found ≡ harders_fault schema numbers harders → rules_fault schema numbers rules harders ≡ found
unfolding rules_fault
fault_of_harders schema numbers rules harders found distinct faultless is = rw (distinct, ← faultless, ← is) refl

-- a test that refuses nothing doesn't hold
unrefused : (test : Bool) (fault : RuleFault) → fault_where test fault ≡ None → test ≡ false
unrefused false fault none = refl
unrefused true fault none = cc

-- what two equal finds are
some_same : {m n : ℕ} → Some m ≡ Some n → m ≡ n
some_same is = cc

-- nothing was found before the answer was mapped
unmapped : {X : Type 0} (f : X → RuleFault) (o : Option X) → option_map f o ≡ None → o ≡ None
unmapped f None none = refl
unmapped f (Some x) none = cc

-- where nothing is found, not even the first one passes
nothing_first : {X : Type 0} (test : Bool) (x : X) (later : Option X) → cond test (Some x) later ≡ None → (test ≡ false) × (later ≡ None)
nothing_first false x later none = (refl, none)
nothing_first true x later none = cc

-- where nothing is found, no element passes
find-none : {X : Type 0} (p : X → Bool) (xs : List X) → find p xs ≡ None → All (λ x. p x ≡ false) xs
find-none p [] none = All-nil (λ x. p x ≡ false)
find-none p (x ∷ xs) none =
    let parts = nothing_first (p x) x (find p xs) none in
    All-cons (λ y. p y ≡ false) x xs parts.0 (find-none p xs parts.1)

-- what some element has is had by none
list_any-false : {X : Type 0} (p : X → Bool) (xs : List X) → list_any p xs ≡ false → All (λ x. p x ≡ false) xs
list_any-false p [] none = All-nil (λ x. p x ≡ false)
list_any-false p (x ∷ xs) none =
    let parts = neither (p x) (list_any p xs) none in
    All-cons (λ y. p y ≡ false) x xs parts.0 (list_any-false p xs parts.1)

-- what holds of all elements holds of those of each part
pub All-append_left : {X : Type 0} (P : X → Type 0) (xs ys : List X) → All P (xs ++ ys) → All P xs
All-append_left P [] ys all = All-nil P
All-append_left P (x ∷ xs) ys all = All-cons P x xs (All-head P x (xs ++ ys) all) (All-append_left P xs ys (All-tail P x (xs ++ ys) all))

pub All-append_right : {X : Type 0} (P : X → Type 0) (xs ys : List X) → All P (xs ++ ys) → All P ys
All-append_right P [] ys all = all
All-append_right P (x ∷ xs) ys all = All-append_right P xs ys (All-tail P x (xs ++ ys) all)

pub All-flat_map : {X Y : Type 0} (P : Y → Type 0) (f : X → List Y) (xs : List X) → All P (flat_map f xs) → All (λ x. All P (f x)) xs
All-flat_map P f [] all = All-nil (λ x. All P (f x))
All-flat_map P f (x ∷ xs) all =
    All-cons (λ y. All P (f y)) x xs (All-append_left P (f x) (flat_map f xs) all) (All-flat_map P f xs (All-append_right P (f x) (flat_map f xs) all))

-- what holds of all that is kept holds of each that gives something
pub All-filter_map : {X Y : Type 0} (P : Y → Type 0) (f : X → Option Y) (xs : List X) → All P (filter_map f xs) → All (λ x. IfSome (f x) P) xs
All-filter_map P f [] all = All-nil (λ x. IfSome (f x) P)
All-filter_map P f (x ∷ xs) all =
    let parts = kept_parts (f x) (filter_map f xs) all in
    All-cons (λ y. IfSome (f y) P) x xs parts.0 (All-filter_map P f xs parts.1)
  where
    kept_parts : (o : Option _) (rest : List _) → All P (cons_option o rest) → IfSome o P × All P rest
    kept_parts None rest all = (tt, all)
    kept_parts (Some y) rest all = (All-head P y rest all, All-tail P y rest all)

-- a closure that isn't missing was handed in
not_missing : (b : Bool) → not b ≡ false → IsTrue b
not_missing true h = refl
not_missing false h = cc

-- a rule without a fault is sound
sound_rule : (classes : ℕ) (numbers : Numbers) (earlier : List RuleDef) (rule : RuleDef) → rule_fault classes numbers earlier rule ≡ None → IsSound classes numbers rule
sound_rule classes numbers earlier rule none =
    let n = length earlier in
    let name = option_or-none (fault_where (has_bad_name earlier rule) (BadName n)) _ none in
    let weight = option_or-none (fault_where (nat_lt weight_limit rule.weight) (WeightRange n)) _ name.1 in
    let nodes = option_or-none (fault_where (nat_lt 7 (length rule.nodes)) (TooManyNodes n)) _ weight.1 in
    let classes_known = option_or-none (option_map (λ class. UnknownClass n class) (unknown_class classes rule)) _ nodes.1 in
    let joiners = option_or-none (fault_where (has_too_many_joiners rule) (TooManyJoiners n)) _ classes_known.1 in
    let keys = option_or-none (fault_where (list_any has_bad_key_count rule.nodes) (KeyCount n)) _ joiners.1 in
    let parts = option_or-none (fault_where (lacks_room (head_parts rule.head) rule.nodes) (TooManyParts n)) _ keys.1 in
    let known : All (λ class. class < classes) (classes_named rule) =
    All-weaker (λ class. nat_le classes class ≡ false) (λ class. class < classes) (λ class h. below classes class h) (classes_named rule) (find-none (λ class. nat_le classes class) (classes_named rule) (unmapped _ _ classes_known.0)) in
    let few_joiners = neither (are_too_many (head_joiners rule.head)) (list_any (λ node. are_too_many (node_joiners node)) rule.nodes) (unrefused _ _ joiners.0) in
    let handed_in : All (IsHandedIn numbers) (closures_named rule) =
    All-weaker (λ named. is_missing numbers named ≡ false) (IsHandedIn numbers) (λ named h. not_missing (is_handed_in numbers named) h) (closures_named rule) (find-none (is_missing numbers) (closures_named rule) (unmapped _ _ parts.1)) in
    let before_end = All-append_left (IsHandedIn numbers) (flat_map joiner_closures (head_joiners rule.head) ++ flat_map node_closures rule.nodes) (weigh_closures rule.weigh) handed_in in
    let of_nodes = All-flat_map (IsHandedIn numbers) node_closures rule.nodes (All-append_right (IsHandedIn numbers) (flat_map joiner_closures (head_joiners rule.head)) (flat_map node_closures rule.nodes) before_end) in
    let node_classes = All-filter_map (λ class. class < classes) node_class rule.nodes (All-tail (λ class. class < classes) (head_class rule.head) (filter_map node_class rule.nodes) known) in
    let node_joiners_few = list_any-false (λ node. are_too_many (node_joiners node)) rule.nodes few_joiners.1 in
    let node_keys = list_any-false has_bad_key_count rule.nodes (unrefused _ _ keys.0) in
    record {
      weight = within weight_limit rule.weight (unrefused _ _ weight.0);
      few_nodes = within 7 (length rule.nodes) (unrefused _ _ nodes.0);
      room = unrefused _ _ parts.0;
      head = record {
        class = All-head (λ class. class < classes) (head_class rule.head) (filter_map node_class rule.nodes) known;
        joiners = within 4 (length (head_joiners rule.head)) few_joiners.0;
        closures = All-append_left (IsHandedIn numbers) (flat_map joiner_closures (head_joiners rule.head)) (flat_map node_closures rule.nodes) before_end;
      };
      nodes = λ k d lt. record {
        class = node_classes k d lt;
        joiners = within 4 (length (node_joiners (get_or rule.nodes k d))) (node_joiners_few k d lt);
        keys = node_keys k d lt;
        closures = of_nodes k d lt;
      };
      weigher = All-append_right (IsHandedIn numbers) (flat_map joiner_closures (head_joiners rule.head) ++ flat_map node_closures rule.nodes) (weigh_closures rule.weigh) handed_in;
    }

-- rules that are accepted have no fault in their definitions
accepted_defs : (schema : List ClassDef) (numbers : Numbers) (rules : List RuleDef) (harders : List Harder) → rules_fault schema numbers rules harders ≡ None → defs_fault (length schema) numbers rules ≡ None
unfolding rules_fault
accepted_defs schema numbers rules harders accepted =
    (option_or-none (defs_fault (length schema) numbers rules) (harders_fault schema numbers harders)
    (option_or-none (closures_fault numbers) (option_or (defs_fault (length schema) numbers rules) (harders_fault schema numbers harders)) accepted).1).0

-- the key of a harder key that isn't bad was handed in
key_there : (schema : List ClassDef) (numbers : Numbers) (earlier : List Harder) (harder : Harder) → harder_fault schema numbers earlier harder ≡ None → IsHandedIn numbers (key_named harder.key)
key_there schema numbers earlier harder none =
    not_missing (is_handed_in numbers (key_named harder.key))
    (neither (not (has_entities schema harder.class) || list_any (λ other. other.class == harder.class) earlier) (is_missing numbers (key_named harder.key)) (unrefused _ _ none)).1

key_found : (numbers : Numbers) (harders : List Harder) (number : ℕ) (found : Option Harder) → ((k : ℕ) (d : Harder) → k < length harders → IsHandedIn numbers (key_named (get_or harders k d).key)) →
    IfSome found (StandsIn harders) → option_map (λ (one : Harder). one.key) found ≡ Some number → IsHandedIn numbers (key_named number)
key_found numbers harders number None all stands is = cc
key_found numbers harders number (Some harder) all stands is =
    let same : (get_or harders stands.place harder).key ≡ number = ap (λ (one : Harder). one.key) stands.at ∙ some_same is in
    rw (← same) (all stands.place harder stands.within)

-- the harder key of a class was handed in
pub harder_there : (schema : List ClassDef) (numbers : Numbers) (rules : List RuleDef) (harders : List Harder) (class number : ℕ) → rules_fault schema numbers rules harders ≡ None → harder_key harders class ≡ Some number → IsHandedIn numbers (key_named number)
unfolding rules_fault
harder_there schema numbers rules harders class number accepted is =
    let none = (option_or-none (defs_fault (length schema) numbers rules) (harders_fault schema numbers harders)
    (option_or-none (closures_fault numbers) (option_or (defs_fault (length schema) numbers rules) (harders_fault schema numbers harders)) accepted).1).1 in
    key_found numbers harders number (find (λ one. one.class == class) harders)
    (λ k d lt. key_there schema numbers (take k harders) (get_or harders k d) (first_fault-none (harder_fault schema numbers) [] harders none k d lt))
    (found_stands (λ one. one.class == class) harders) is

-- rules that are accepted are at most 32
pub few_rules : (schema : List ClassDef) (numbers : Numbers) (rules : List RuleDef) (harders : List Harder) → rules_fault schema numbers rules harders ≡ None → length rules ≤ 32
few_rules schema numbers rules harders accepted =
    let defs = accepted_defs schema numbers rules harders accepted in
    within 32 (length rules) (unrefused (nat_lt 32 (length rules)) TooManyRules (option_or-none (fault_where (nat_lt 32 (length rules)) TooManyRules) (first_fault (rule_fault (length schema) numbers) [] rules) defs).0)

-- and each of them is sound
pub sound_rules : (schema : List ClassDef) (numbers : Numbers) (rules : List RuleDef) (harders : List Harder) → rules_fault schema numbers rules harders ≡ None → All (IsSound (length schema) numbers) rules
sound_rules schema numbers rules harders accepted k d lt =
    let defs = accepted_defs schema numbers rules harders accepted in
    let faultless = (option_or-none (fault_where (nat_lt 32 (length rules)) TooManyRules) (first_fault (rule_fault (length schema) numbers) [] rules) defs).1 in
    sound_rule (length schema) numbers (take k rules) (get_or rules k d) (first_fault-none (rule_fault (length schema) numbers) [] rules faultless k d lt)
