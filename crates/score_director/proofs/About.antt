-- A change of a fact turns the records of a plan at the keys that are about the fact.
use Rattle.std.proofs.Common.{◌≡◌, ◌∙◌, ◌<◌, ◌≤◌, ◌==◌, ◌&&◌, ◌||◌, ℕ, zero, suc, Bool, true, false, cond, not, Option, None, Some, List, [], ◌∷◌, All, map, filter, length, get_or, refl, sym, ap, subst, arith, inl, inr}
use Rattle.std.specs.Prelude.{◌≢◌, option_map}
use Rattle.std.specs.List.{list_any, range_with_len}
use Rattle.std.proofs.lemmas.Bool.{cases_lt}
use Rattle.std.proofs.lemmas.List.Elements.{All-cons, All-head, All-map, All-nil, All-tail, All-weaker, filter_passes}
use Rattle.plan_facts.specs.declared.record.Raw.{Raw}
use Rattle.plan_facts.specs.declared.record.Rec.{Rec}
use Rattle.plan_facts.specs.declared.record.Value.{Value}
use Rattle.plan_facts.specs.Plan.{ClassView, IsPlan, IsValueClass, PlanView, class_of, fact_of, held_value, held_values, records_of, resolved, value_of}
use Rattle.plan_facts.proofs.Places.{eqb_other, eqb_same, other_eqb}
use Rattle.plan_facts.proofs.Sound.{class_at, class_past}
use Rattle.plan_moves.specs.declared.edit.Touch.{Touch}
use Rattle.plan_rules.proofs.Rising.{All-flat_map, Rising, pairs_from_rising, rising-filter, rising-flat_map, rising-map, rising-unmap}
use Rattle.head_changes.specs.Takers.{FactsTurn}
use Rattle.score_director.specs.Holders.{holder_keys, holder_keys_in, is_held, is_holder, key_at, keys_about, keys_of_holders}
use Rattle.score_director.proofs.Alike.{IsClear, KeepsOthers, kept}
use Rattle.score_director.proofs.AllKeys.{any_in, ids_rise, range_rises, range_to}
use Rattle.score_director.proofs.Turned.{either_left, either_right, is_under}
use Rattle.score_director.proofs.Turning.{plans_are_facts}

or_true : (b : Bool) → (b || true) ≡ true
or_true true = refl
or_true false = refl

never : (b : Bool) → (b ≡ true → ⊥) → b ≡ false
never true none = absurd (none refl)
never false none = refl

-- a variable whose value class is another one doesn't hold a fact
not_held : (class id range : ℕ) (value : Option ℕ) → (range ≡ class → ⊥) → is_held class id range value ≡ false
not_held class id range None apart = refl
not_held class id range (Some held) apart = ap (λ (b : Bool). b && (held == id)) (eqb_other range class apart)

-- nor do many
none_held : (class id : ℕ) (ranges : List ℕ) (values : List (Option ℕ)) → All (λ (range : ℕ). range ≡ class → ⊥) ranges → is_holder class id ranges values ≡ false
none_held class id [] values none = refl
none_held class id (range ∷ ranges) [] none = refl
none_held class id (range ∷ ranges) (value ∷ values) none =
    ap (λ (b : Bool). b || is_holder class id ranges values) (not_held class id range value (none 0 range (omega arith)))
    ∙ none_held class id ranges values (All-tail (λ (r : ℕ). r ≡ class → ⊥) range ranges none)

absent : (class : ℕ) (ranges : List ℕ) → list_any (λ range. range == class) ranges ≡ false → All (λ (range : ℕ). range ≡ class → ⊥) ranges
absent class [] none = All-nil (λ (range : ℕ). range ≡ class → ⊥)
absent class (range ∷ ranges) none =
    All-cons (λ (r : ℕ). r ≡ class → ⊥) range ranges (other_eqb range class (either_left (range == class) (list_any (λ r. r == class) ranges) none))
    (absent class ranges (either_right (range == class) (list_any (λ r. r == class) ranges) none))

-- where the fact's class is no value class of the variables, no record holds it
pub none_hold : (fact : Touch) (class : ℕ) (ranges : List ℕ) (facts : List Raw) → list_any (λ range. range == fact.class) ranges ≡ false → keys_of_holders fact class ranges facts ≡ []
none_hold fact class ranges [] none = refl
none_hold fact class ranges (raw ∷ facts) none =
    let p : Raw → Bool = λ (r : Raw). is_holder fact.class fact.id ranges r.values in
    ap (λ (b : Bool). map (λ (r : Raw). key_at class r.id) (cond b (raw ∷ filter p facts) (filter p facts))) (none_held fact.class fact.id ranges raw.values (absent fact.class ranges none))
    ∙ none_hold fact class ranges facts none

-- value classes have no variables
plain_ranges : (plan : PlanView) (n : ℕ) → IsPlan plan → All (λ (range : ℕ). (class_of plan range).ranges ≡ []) (class_of plan n).ranges
plain_ranges plan n sound =
    elim (cases_lt n (length plan.classes)) [
      | inl within ↦ All-weaker (IsValueClass plan) (λ (range : ℕ). (class_of plan range).ranges ≡ []) (λ range is. is.plain) (class_of plan n).ranges (class_at plan n sound within).ranges
      | inr past ↦ subst (λ (v : ClassView). All (λ (range : ℕ). (class_of plan range).ranges ≡ []) v.ranges) (sym (class_past plan n past)) (All-nil (λ (range : ℕ). (class_of plan range).ranges ≡ []))
    ]

-- no fact holds one of its own class
none_of_its_class : (plan : PlanView) (class id : ℕ) (values : List (Option ℕ)) → IsPlan plan → is_holder class id (class_of plan class).ranges values ≡ false
none_of_its_class plan class id values sound =
    let ranges = (class_of plan class).ranges in
    none_held class id ranges values
    (λ k d within is.
    let none : ranges ≡ [] = subst (λ (n : ℕ). (class_of plan n).ranges ≡ []) is (plain_ranges plan class sound k d within) in
    let e = ap (λ (ns : List ℕ). length ns) none in
    absurd (omega (arith, within, e)))

-- a fact's own key is none of its holders'
fact_apart : (plan : PlanView) (fact : Touch) → IsPlan plan → All (λ (key : Touch). fact ≢ key) (holder_keys plan fact)
fact_apart plan fact sound =
    All-flat_map (λ (key : Touch). fact ≢ key) (holder_keys_in plan fact) (range_with_len 0 (length plan.classes))
    (λ k d within.
    let n = get_or (range_with_len 0 (length plan.classes)) k d in
    let h : Raw → Bool = λ (raw : Raw). is_holder fact.class fact.id (class_of plan n).ranges raw.values in
    All-map (λ (key : Touch). fact ≢ key) (λ (raw : Raw). key_at n raw.id) (filter h (class_of plan n).facts)
    (λ j e there is.
    let values = (get_or (filter h (class_of plan n).facts) j e).values in
    let same : fact.class ≡ n = ap (λ (key : Touch). key.class) is in
    let holds : is_holder fact.class fact.id (class_of plan n).ranges values ≡ true = filter_passes h (class_of plan n).facts j e there in
    let own : is_holder fact.class fact.id (class_of plan fact.class).ranges values ≡ true = subst (λ (m : ℕ). is_holder fact.class fact.id (class_of plan m).ranges values ≡ true) (sym same) holds in
    let none = none_of_its_class plan fact.class fact.id values sound in
    contradiction (sym own ∙ none)))
  where
    contradiction : true ≡ false → ⊥
    contradiction e = cc

-- the keys of holders are different
holders_differ : (plan : PlanView) (fact : Touch) → IsPlan plan → Rising (λ (one other : Touch). one ≢ other) (holder_keys plan fact)
holders_differ plan fact sound =
    rising-flat_map (λ (k l : ℕ). k < l) (λ (one other : Touch). one ≢ other) (holder_keys_in plan fact) (range_with_len 0 (length plan.classes)) (range_rises 0 (length plan.classes))
    (λ k d within. in_class (get_or (range_with_len 0 (length plan.classes)) k d))
    across
  where
    in_class : (n : ℕ) → Rising (λ (one other : Touch). one ≢ other) (map (λ (raw : Raw). key_at n raw.id) (filter (λ (raw : Raw). is_holder fact.class fact.id (class_of plan n).ranges raw.values) (class_of plan n).facts))
    in_class n =
        let h : Raw → Bool = λ (raw : Raw). is_holder fact.class fact.id (class_of plan n).ranges raw.values in
        rising-map (λ (a b : Raw). a.id < b.id) (λ (one other : Touch). one ≢ other) (λ (raw : Raw). key_at n raw.id)
        (λ x y below is. let e : x.id ≡ y.id = ap (λ (key : Touch). key.id) is in absurd (omega (arith, below, e)))
        (filter h (class_of plan n).facts)
        (rising-filter (λ (a b : Raw). a.id < b.id) h (class_of plan n).facts (rising-unmap (λ (raw : Raw). raw.id) (λ (a b : ℕ). a < b) (class_of plan n).facts (ids_rise plan n sound)))

    across : (x y : ℕ) → x < y → All (λ (a : Touch). All (λ (b : Touch). a ≢ b) (holder_keys_in plan fact y)) (holder_keys_in plan fact x)
    across x y below =
        let hx : List Raw = filter (λ (raw : Raw). is_holder fact.class fact.id (class_of plan x).ranges raw.values) (class_of plan x).facts in
        let hy : List Raw = filter (λ (raw : Raw). is_holder fact.class fact.id (class_of plan y).ranges raw.values) (class_of plan y).facts in
        All-map (λ (a : Touch). All (λ (b : Touch). a ≢ b) (holder_keys_in plan fact y)) (λ (raw : Raw). key_at x raw.id) hx
        (λ k d within. All-map (λ (b : Touch). key_at x (get_or hx k d).id ≢ b) (λ (raw : Raw). key_at y raw.id) hy
        (λ j e there is. let same : x ≡ y = ap (λ (key : Touch). key.class) is in absurd (omega (arith, below, same))))

-- the key of a record that passes is among the keys of those that do
passes_keyed : (h : Raw → Bool) (facts : List Raw) (n k : ℕ) (d : Raw) → k < length facts → h (get_or facts k d) ≡ true
    → list_any (λ (key : Touch). (key.class == n) && (key.id == (get_or facts k d).id)) (map (λ (raw : Raw). key_at n raw.id) (filter h facts)) ≡ true
passes_keyed h [] n k d within passes = absurd (omega (arith, within))
passes_keyed h (raw ∷ facts) n zero d within passes =
    let p : Touch → Bool = λ (key : Touch). (key.class == n) && (key.id == raw.id) in
    let t : Raw → Touch = λ (r : Raw). key_at n r.id in
    let here : p (t raw) ≡ true = (λ i. eqb_same n n refl i && eqb_same raw.id raw.id refl i) in
    ap (λ (b : Bool). list_any p (map t (cond b (raw ∷ filter h facts) (filter h facts)))) passes
    ∙ ap (λ (b : Bool). b || list_any p (map t (filter h facts))) here
passes_keyed h (raw ∷ facts) n (suc k) d within passes =
    let p : Touch → Bool = λ (key : Touch). (key.class == n) && (key.id == (get_or facts k d).id) in
    let t : Raw → Touch = λ (r : Raw). key_at n r.id in
    let rest : list_any p (map t (filter h facts)) ≡ true = passes_keyed h facts n k d (omega (arith, within)) passes in
    elim (h raw) as (λ b. list_any p (map t (cond b (raw ∷ filter h facts) (filter h facts))) ≡ true) [
      | true ↦ ap (λ (b : Bool). p (t raw) || b) rest ∙ or_true (p (t raw))
      | false ↦ rest
    ]

-- a record that holds the fact is at one of the keys
holder_under : (plan : PlanView) (fact : Touch) (n k : ℕ) (d : Raw) → k < length (class_of plan n).facts
    → is_holder fact.class fact.id (class_of plan n).ranges (get_or (class_of plan n).facts k d).values ≡ true → is_under (keys_about plan fact) n (get_or (class_of plan n).facts k d).id ≡ true
holder_under plan fact n k d within holds =
    let facts = (class_of plan n).facts in
    let h : Raw → Bool = λ (raw : Raw). is_holder fact.class fact.id (class_of plan n).ranges raw.values in
    let p : Touch → Bool = λ (key : Touch). (key.class == n) && (key.id == (get_or facts k d).id) in
    elim (cases_lt n (length plan.classes)) [
      | inl below ↦
          ap (λ (b : Bool). p fact || b) (any_in p (holder_keys_in plan fact) 0 (length plan.classes) n (omega arith) (omega (arith, below)) (passes_keyed h facts n k d within holds))
          ∙ or_true (p fact)
      | inr past ↦ (let e = ap (λ (v : ClassView). length v.facts) (class_past plan n past) in absurd (omega (arith, within, e)))
    ]

-- the ids of a class that are at none of the keys
abbrev away : PlanView → Touch → ℕ → ℕ → Bool
away plan fact n id = not (is_under (keys_about plan fact) n id)

-- what is at none of the keys is neither the fact nor holds it
clear_away : (plan : PlanView) (fact : Touch) (n : ℕ) → IsClear fact.class fact.id plan n (away plan fact n)
clear_away plan fact n =
    record {
      fact = λ same.
          let one : (fact.class == n) ≡ true = eqb_same fact.class n (sym same) in
          let two : (fact.id == fact.id) ≡ true = eqb_same fact.id fact.id refl in
          λ i. not ((one i && two i) || list_any (λ (key : Touch). (key.class == n) && (key.id == fact.id)) (holder_keys plan fact));
      free = λ k d within is.
          let raw = get_or (class_of plan n).facts k d in
          never (is_holder fact.class fact.id (class_of plan n).ranges raw.values)
          (λ holds. contradiction (sym is ∙ ap (λ (b : Bool). not b) (holder_under plan fact n k d within holds)));
    }
  where
    contradiction : true ≡ false → ⊥
    contradiction e = cc

-- resolved records that are kept
mapped_kept : (plan : PlanView) (n : ℕ) (keep : ℕ → Bool) (facts : List Raw) → filter (λ (rec : Rec). keep rec.id) (map (resolved plan n) facts) ≡ map (resolved plan n) (kept keep facts)
mapped_kept plan n keep [] = refl
mapped_kept plan n keep (raw ∷ facts) =
    let F : List Rec = filter (λ (rec : Rec). keep rec.id) (map (resolved plan n) facts) in
    let rest : F ≡ map (resolved plan n) (kept keep facts) = mapped_kept plan n keep facts in
    elim (keep raw.id) as (λ b. cond b (resolved plan n raw ∷ F) F ≡ map (resolved plan n) (cond b (raw ∷ kept keep facts) (kept keep facts))) [
      | true ↦ ap (λ (rs : List Rec). resolved plan n raw ∷ rs) rest
      | false ↦ rest
    ]

-- functions that agree where a record is kept give the same of those that are
map_kept : (f g : Raw → Rec) (keep : ℕ → Bool) (facts : List Raw) → All (λ (raw : Raw). keep raw.id ≡ true → f raw ≡ g raw) facts → map f (kept keep facts) ≡ map g (kept keep facts)
map_kept f g keep [] agree = refl
map_kept f g keep (raw ∷ facts) agree =
    let P : Raw → Type 0 = λ (r : Raw). keep r.id ≡ true → f r ≡ g r in
    let rest : map f (kept keep facts) ≡ map g (kept keep facts) = map_kept f g keep facts (All-tail P raw facts agree) in
    (elim (keep raw.id) as (λ b. keep raw.id ≡ b → map f (cond b (raw ∷ kept keep facts) (kept keep facts)) ≡ map g (cond b (raw ∷ kept keep facts) (kept keep facts))) [
      | true ↦ λ is. (let one : f raw ≡ g raw = All-head P raw facts agree is in λ i. one i ∷ rest i)
      | false ↦ λ is. rest
    ]) refl

-- no other fact differs as a value
abbrev ValuesStay : Touch → PlanView → PlanView → Type 0
ValuesStay fact old new = (n other : ℕ) → (n ≡ fact.class → other ≡ fact.id → ⊥) → option_map value_of (fact_of new n other) ≡ option_map value_of (fact_of old n other)

held_stays : (fact : Touch) (old new : PlanView) → ValuesStay fact old new → (range : ℕ) (value : Option ℕ) → is_held fact.class fact.id range value ≡ false → held_value old range value ≡ held_value new range value
held_stays fact old new stay range None none = refl
held_stays fact old new stay range (Some held) none =
    sym (stay range held (λ same is. contradiction (sym none ∙ (λ i. eqb_same range fact.class same i && eqb_same held fact.id is i))))
  where
    contradiction : false ≡ true → ⊥
    contradiction e = cc

-- what variables hold stays, where they don't hold the fact
all_held_stay : (fact : Touch) (old new : PlanView) → ValuesStay fact old new → (ranges : List ℕ) (values : List (Option ℕ)) → is_holder fact.class fact.id ranges values ≡ false → held_values old ranges values ≡ held_values new ranges values
all_held_stay fact old new stay [] values none = refl
all_held_stay fact old new stay (range ∷ ranges) [] none = refl
all_held_stay fact old new stay (range ∷ ranges) (value ∷ values) none =
    let first = is_held fact.class fact.id range value in
    let others = is_holder fact.class fact.id ranges values in
    let one = held_stays fact old new stay range value (either_left first others none) in
    let rest = all_held_stay fact old new stay ranges values (either_right first others none) in
    λ i. one i ∷ rest i

-- the resolved record with what its variables hold put anew
abbrev with_planned : ℕ → Raw → List (Option Value) → Rec
with_planned n raw planned = record { class = n; id = raw.id; fields = raw.fields; planned = planned }

-- a record that doesn't hold the fact is resolved alike
resolved_alike : (fact : Touch) (old new : PlanView) (n : ℕ) (raw : Raw) → KeepsOthers fact.class fact.id old new → is_holder fact.class fact.id (class_of old n).ranges raw.values ≡ false → resolved old n raw ≡ resolved new n raw
resolved_alike fact old new n raw others none =
    ap (with_planned n raw)
    (all_held_stay fact old new others.values (class_of old n).ranges raw.values none ∙ ap (λ (ranges : List ℕ). held_values new ranges raw.values) (sym (others.ranges n)))

-- where a change leaves all records but those about a fact, it turns them at the keys about the fact
pub about_turns : (plan after : PlanView) (fact : Touch) → IsPlan plan → IsPlan after → KeepsOthers fact.class fact.id plan after → FactsTurn (keys_about plan fact) (records_of plan) (records_of after)
unfolding records_of
about_turns plan after fact sound later others = record {
  differ = pairs_from_rising (λ (one other : Touch). one ≢ other) (keys_about plan fact) (fact_apart plan fact sound, holders_differ plan fact sound);
  old = plans_are_facts plan sound;
  new = plans_are_facts after later;
  same = λ n.
      let keep = away plan fact n in
      let facts = (class_of plan n).facts in
      let clear = clear_away plan fact n in
      mapped_kept plan n keep facts
      ∙ map_kept (resolved plan n) (resolved after n) keep facts (λ k d within is. resolved_alike fact plan after n (get_or facts k d) others (clear.free k d within is))
      ∙ ap (map (resolved after n)) (sym (others.facts n keep clear))
      ∙ sym (mapped_kept after n keep (class_of after n).facts);
}

-- each key is of a class that there is
pub about_known : (plan : PlanView) (fact : Touch) (count : ℕ) → fact.class < count → length plan.classes ≤ count → All (λ (key : Touch). key.class < count) (keys_about plan fact)
about_known plan fact count there le =
    All-cons (λ (key : Touch). key.class < count) fact (holder_keys plan fact) there
    (All-flat_map (λ (key : Touch). key.class < count) (holder_keys_in plan fact) (range_with_len 0 (length plan.classes))
    (λ k d within. All-map (λ (key : Touch). key.class < count) (λ (raw : Raw). key_at (get_or (range_with_len 0 (length plan.classes)) k d) raw.id) _
    (λ j e there. (let below = range_to 0 (length plan.classes) k d within in omega (arith, below, le)))))
