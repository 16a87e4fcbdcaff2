-- From the first key to the last.
use Rattle.std.proofs.Common.{◌≡◌, ◌<◌, ◌≤◌, ◌+◌, ◌∙◌, ◌||◌, ⊎_elim, ℕ, zero, suc, List, [], ◌∷◌, Bool, true, false, not, inl, filter, map, get_or, length, take, sum_by, refl, sym, ap, subst, arith}
use Rattle.std.specs.Prelude.{All}
use Rattle.std.specs.List.{Contains, flat_map, list_any}
use Rattle.std.proofs.lemmas.List.{get_or-take, length-take-le, take_all}
use Rattle.std.proofs.lemmas.List.Elements.{All-head, All-tail, Contains-append_cases, Contains-append_left, Contains-append_right}
use Rattle.std.proofs.lemmas.List.Folds.{list_any_more}
use Rattle.std.proofs.lemmas.List.Sums.{sum_by-append}
use Rattle.plan_facts.specs.Plan.{PlanView, record_of, records_of}
use Rattle.plan_facts.specs.declared.record.Rec.{Rec}
use Rattle.plan_moves.specs.declared.edit.Touch.{Touch}
use Rattle.plan_rules.specs.Bags.{AreDifferent}
use Rattle.plan_rules.specs.Rows.{Facts}
use Rattle.plan_rules.proofs.Sums.{sum_by-map}
use Rattle.stream_heads.specs.declared.cells.Cell.{Cell}
use Rattle.stream_heads.specs.Meant.{Rows, record_at}
use Rattle.head_changes.specs.declared.changes.ClassChange.{ClassChange}
use Rattle.head_changes.specs.Changes.{IsNoChange, all_gone, came, come_of, gone_of, went}
use Rattle.head_changes.specs.Gathered.{Gathered}
use Rattle.head_changes.specs.Takers.{FactsTurn, HeadsHold, Takers, is_key, is_keyed}
use Rattle.head_changes.specs.Turns.{TurnsKey}
use Rattle.head_changes.proofs.Lists.{both_parts, first_there, none_passes, none_there, rest_there}
use Rattle.head_changes.proofs.Outcome.{came_changed, hold_left, led_exact, led_mean, led_takers}
use Rattle.head_changes.proofs.States.{State, state_on}
use Rattle.head_changes.proofs.Steps.{key_done, keyed_by, turned}
use Rattle.head_changes.proofs.Without.{left_extends}

true_false : true ≡ false → ⊥
true_false e = cc

-- the state once these keys are done
abbrev pub KeysDone : Rows → Rows → List ClassChange → Takers → Facts → PlanView → List Touch → Type 0
KeysDone before heads changes takers facts plan keys =
    State before heads (gone_of changes) (come_of changes) takers facts (turned (is_key keys) (is_key keys) facts (records_of plan)) (is_key keys)

none_of : (f : ClassChange → List (List Cell)) (changes : List ClassChange) → All (λ change. f change ≡ []) changes → (class : ℕ) → get_or (map f changes) class [] ≡ []
none_of f [] none class = refl
none_of f (change ∷ changes) none zero = All-head (λ c. f c ≡ []) change changes none
none_of f (change ∷ changes) none (suc class) = none_of f changes (All-tail (λ c. f c ≡ []) change changes none) class

-- before any key is done
start_state : (before : Rows) (takers : Takers) (facts : Facts) → HeadsHold before takers facts → State before before (λ c n. []) (λ c n. []) takers facts facts (λ c r. false)
start_state before takers facts hold = record {
  extends = λ n live. refl;
  part = λ class nulls. record { sums = λ f. let a : sum_by f [] ≡ 0 = refl in omega (arith, a) };
  went = λ class nulls row there. absurd (none_there row there);
  came = λ class nulls row there. absurd (none_there row there);
  different = λ class nulls. tt;
  weighs = λ class nulls f.
      let a = (hold.mean.same class nulls).sums f in
      let b = sum_by-map f (record_at before) (takers class nulls) in
      let c : sum_by (λ (row : List Cell). f (record_at before row)) [] ≡ 0 = refl in
      omega (arith, a, b, c);
  all = λ place row there. inl there;
}

pub no_keys_done : (before : Rows) (changes : List ClassChange) (takers : Takers) (facts : Facts) (plan : PlanView) (keys : List Touch) → All IsNoChange changes
    → HeadsHold before takers facts → FactsTurn keys facts (records_of plan) → KeysDone before before changes takers facts plan []
no_keys_done before changes takers facts plan keys none hold turn =
    let gone_is : gone_of changes ≡ (λ c n. []) = (λ i c n. (none_of (went n) changes (λ k d within. (none k d within).gone n) c) i) in
    let come_is : come_of changes ≡ (λ c n. []) = (λ i c n. (none_of (came n) changes (λ k d within. (none k d within).come n) c) i) in
    subst (λ (g : Takers). State before before g (come_of changes) takers facts (turned (is_key []) (is_key []) facts (records_of plan)) (is_key [])) (sym gone_is)
    (subst (λ (g : Takers). State before before (λ c n. []) g takers facts (turned (is_key []) (is_key []) facts (records_of plan)) (is_key [])) (sym come_is)
    (state_on before before (λ c n. []) (λ c n. []) takers facts facts (λ c r. false) hold turn.old (start_state before takers facts hold)
    (turned (is_key []) (is_key []) facts (records_of plan)) (is_key []) (λ class rec is. absurd (true_false (sym is)))
    (λ class. record {
      sums = λ f.
          let a = both_parts (λ (rec : Rec). false) f (facts class) in
          let b = ap (sum_by f) (none_passes (λ (rec : Rec). false) (facts class) (λ x there is. absurd (true_false (sym is)))) in
          let c = ap (sum_by f) (none_passes (λ (rec : Rec). false) (records_of plan class) (λ x there is. absurd (true_false (sym is)))) in
          let d : sum_by f (turned (is_key []) (is_key []) facts (records_of plan) class) ≡ sum_by f (filter (λ (rec : Rec). true) (facts class)) + sum_by f (filter (λ (rec : Rec). false) (records_of plan class)) =
          sum_by-append f (filter (λ rec. not (is_key [] class rec)) (facts class)) (filter (is_key [] class) (records_of plan class)) in
          let e : sum_by f [] ≡ 0 = refl in
          omega (arith, a, b, c, d, e);
    })))

-- some member passes
any_passes : {X : Type 0} (p : X → Bool) (xs : List X) → list_any p xs ≡ true → (x : X) × Contains xs x × (p x ≡ true)
any_passes p [] is = absurd (true_false (sym is))
any_passes {X} p (y ∷ xs) is =
    elim (p y) as (λ b. p y ≡ b → (b || list_any p xs) ≡ true → (x : X) × Contains (y ∷ xs) x × (p x ≡ true)) [
      | true ↦ λ passes e. (y, first_there y xs, passes)
      | false ↦ λ passes e. let rest = any_passes p xs e in (rest.0, rest_there rest.0 y xs rest.1, rest.2)
    ] refl is

same_key : (one other : Touch) → one.class ≡ other.class → one.id ≡ other.id → one ≡ other
same_key one other c i = λ j. record { class = c j; id = i j }

-- what is read within a list, whatever stands for the rest
same_default : (xs : List Touch) (k : ℕ) (d e : Touch) → k < length xs → get_or xs k d ≡ get_or xs k e
same_default [] k d e w = absurd (omega (arith, w))
same_default (x ∷ xs) zero d e w = refl
same_default (x ∷ xs) (suc k) d e w = same_default xs k d e (omega (arith, w))

-- the next key wasn't done before
not_yet : (keys : List Touch) (i : ℕ) (key : Touch) → AreDifferent keys → i < length keys → key ≡ get_or keys i key
    → (class : ℕ) (rec : Rec) → is_keyed class rec key ≡ true → is_key (take i keys) class rec ≡ false
not_yet keys i key differ within is class rec keyed =
    elim (is_key (take i keys) class rec) as (λ b. is_key (take i keys) class rec ≡ b → b ≡ false) [
      | true ↦ λ done.
          let some = any_passes (is_keyed class rec) (take i keys) done in
          let at = some.1 in
          let one = keyed_by class rec some.0 some.2 in
          let other = keyed_by class rec key keyed in
          let below : at.0 < i = let a = at.1 in let b = length-take-le i keys (omega (arith, within)) in omega (arith, a, b) in
          let first : get_or keys (at.0) key ≡ some.0 =
          same_default keys (at.0) key (some.0) (omega (arith, below, within)) ∙ sym (get_or-take i keys (at.0) (some.0) below) ∙ at.2 in
          absurd (differ (at.0) i key below within (first ∙ same_key (some.0) key (one.0 ∙ sym (other.0)) (one.1 ∙ sym (other.1)) ∙ is))
      | false ↦ λ done. refl
    ] refl

pub next_key_done : (before heads later : Rows) (changes new : List ClassChange) (takers : Takers) (facts : Facts) (plan : PlanView) (keys : List Touch) (i : ℕ) (d : Touch)
    → HeadsHold before takers facts → FactsTurn keys facts (records_of plan) → i < length keys → (get_or keys i d).class < length changes
    → KeysDone before heads changes takers facts plan (take i keys)
    → TurnsKey heads later changes new (get_or keys i d) (record_of plan (get_or keys i d).class (get_or keys i d).id)
    → KeysDone before later new takers facts plan (take (i + 1) keys)
next_key_done before heads later changes new takers facts plan keys i d hold turn within known s turns =
    let key = get_or keys i d in
    let is : key ≡ get_or keys i key = same_default keys i d key within in
    key_done before heads later changes new takers facts plan (is_key (take i keys)) (is_key (take (i + 1) keys)) key hold turn.old turn.new s
    (λ class rec. list_any_more (is_keyed class rec) keys i key within ∙ ap (λ (k : Touch). is_key (take i keys) class rec || is_keyed class rec k) (sym is))
    (not_yet keys i key turn.differ within is) known turns

-- the key of each step is known to the changes
pub key_within : (keys : List Touch) (n m i : ℕ) (d : Touch) → All (λ (k : Touch). k.class < n) keys → i < length keys → m ≡ n → (get_or keys i d).class < m
key_within keys n m i d each within same =
    let a : (get_or keys i d).class < n = each i d within in
    omega (arith, a, same)

in_flat : (f : ClassChange → List (List Cell)) (xs : List ClassChange) (class : ℕ) (row : List Cell) → Contains (get_or (map f xs) class []) row → Contains (flat_map f xs) row
in_flat f [] class row there = there
in_flat f (x ∷ xs) zero row there = Contains-append_left (f x) (flat_map f xs) row there
in_flat f (x ∷ xs) (suc class) row there = Contains-append_right (f x) (flat_map f xs) row (in_flat f xs class row there)

flat_in : (f : ClassChange → List (List Cell)) (xs : List ClassChange) (row : List Cell) → Contains (flat_map f xs) row → (class : ℕ) × Contains (get_or (map f xs) class []) row
flat_in f [] row there = absurd (none_there row there)
flat_in f (x ∷ xs) row there =
    ⊎_elim
    (λ (here : Contains (f x) row). (0, here))
    (λ (later : Contains (flat_map f xs) row). let rest = flat_in f xs row later in (suc (rest.0), rest.1))
    (Contains-append_cases (f x) (flat_map f xs) row there)

-- once all keys are done, all is gathered
pub all_keys_done : (before heads : Rows) (changes : List ClassChange) (takers : Takers) (facts : Facts) (plan : PlanView) (keys : List Touch) (i : ℕ)
    → HeadsHold before takers facts → FactsTurn keys facts (records_of plan) → length keys ≤ i → KeysDone before heads changes takers facts plan (take i keys)
    → Gathered before heads changes takers facts (records_of plan)
all_keys_done before heads changes takers facts plan keys i hold turn all some_done =
    let later = records_of plan in
    let done : KeysDone before heads changes takers facts plan keys = subst (λ (ks : List Touch). KeysDone before heads changes takers facts plan ks) (take_all i keys all) some_done in
    let s = state_on before heads (gone_of changes) (come_of changes) takers facts (turned (is_key keys) (is_key keys) facts later) (is_key keys) hold turn.old done later (is_key keys) (λ class rec d. d)
    (λ class. record {
      sums = λ f.
          let a : sum_by f (turned (is_key keys) (is_key keys) facts later class) ≡ sum_by f (filter (λ rec. not (is_key keys class rec)) (facts class)) + sum_by f (filter (is_key keys class) (later class)) =
          sum_by-append f (filter (λ rec. not (is_key keys class rec)) (facts class)) (filter (is_key keys class) (later class)) in
          let b = ap (sum_by f) (turn.same class) in
          let c = both_parts (is_key keys class) f (later class) in
          omega (arith, a, b, c);
    }) in
    record {
      lead = led_exact before heads (gone_of changes) (come_of changes) takers facts later (is_key keys) hold turn.old s;
      takers_are = led_takers before heads (gone_of changes) (come_of changes) takers facts later (is_key keys) hold turn.old s;
      mean = led_mean before heads (gone_of changes) (come_of changes) takers facts later (is_key keys) hold turn.old s;
      extends = s.extends;
      changed = came_changed before heads (gone_of changes) (come_of changes) takers facts later (is_key keys) hold turn.old s;
      hold =
          hold_left before heads (gone_of changes) (come_of changes) takers facts later (is_key keys) hold turn.old s (all_gone changes)
          (λ class row there. in_flat (went true) changes class row there) (λ row there. flat_in (went true) changes row there);
      less = left_extends (all_gone changes) heads;
    }
