-- All records of a plan come at its keys, and there are no more of them than its sizes say.
use Rattle.std.proofs.Common.{◌≡◌, ◌∙◌, ◌<◌, ◌≤◌, ◌+◌, ◌&&◌, ◌||◌, ℕ, zero, suc, Bool, true, false, cond, not, List, [], ◌∷◌, ◌++◌, All, map, filter, length, get_or, refl, sym, ap, arith, inl, inr}
use Rattle.std.specs.Prelude.{◌≢◌}
use Rattle.std.specs.List.{flat_map, list_any, range_with_len}
use Rattle.std.proofs.lemmas.Bool.{cases_lt}
use Rattle.std.proofs.lemmas.List.{append-nil, append_assoc, get_or-map, length-map}
use Rattle.std.proofs.lemmas.List.Elements.{All-cons, All-map, All-nil}
use Rattle.std.proofs.lemmas.List.Folds.{list_any-append}
use Rattle.plan_facts.specs.declared.record.Rec.{Rec}
use Rattle.plan_facts.specs.Plan.{ClassView, IsPlan, PlanView, class_of, ids_of, no_class, records_of, resolved}
use Rattle.plan_facts.proofs.Places.{eqb_same}
use Rattle.plan_facts.proofs.Sound.{class_past}
use Rattle.plan_moves.specs.declared.edit.Touch.{Touch}
use Rattle.plan_rules.proofs.Rising.{All-flat_map, Rising, pairs_from_rising, rising-flat_map, rising-map, rising_from_pairs}
use Rattle.head_changes.specs.Takers.{FactsTurn, is_key, is_keyed}
use Rattle.score_director.specs.Fresh.{no_facts}
use Rattle.score_director.specs.Keys.{all_keys, keys_in}
use Rattle.score_director.proofs.Turned.{increasing, record_ids}
use Rattle.score_director.proofs.Turning.{plans_are_facts}

range_from : (low a n : ℕ) → low ≤ a → All (λ k. low ≤ k) (range_with_len a n)
range_from low a zero le = All-nil (λ k. low ≤ k)
range_from low a (suc n) le = All-cons (λ k. low ≤ k) a (range_with_len (a + 1) n) le (range_from low (a + 1) n (omega (arith, le)))

pub range_rises : (a n : ℕ) → Rising (λ (k l : ℕ). k < l) (range_with_len a n)
range_rises a zero = tt
range_rises a (suc n) = (range_from (suc a) (a + 1) n (omega arith), range_rises (a + 1) n)

abbrev pub touch_at : ℕ → ℕ → Touch
touch_at class id = record { class = class; id = id }

-- the keys of a class with different ids are different
class_keys_differ : (ids : List ℕ) (class : ℕ) → Rising (λ (a b : ℕ). a < b) ids → Rising (λ (one other : Touch). one ≢ other) (map (λ id. touch_at class id) ids)
class_keys_differ ids class rise =
    rising-map (λ (a b : ℕ). a < b) (λ (one other : Touch). one ≢ other) (λ id. touch_at class id) apart ids rise
  where
    apart : (x y : ℕ) → x < y → touch_at class x ≢ touch_at class y
    apart x y below e = let i : x ≡ y = ap (λ (t : Touch). t.id) e in absurd (omega (arith, below, i))

-- and so are those of different classes
classes_apart : (ids : ℕ → List ℕ) (x y : ℕ) → x < y → All (λ (a : Touch). All (λ (b : Touch). a ≢ b) (map (λ id. touch_at y id) (ids y))) (map (λ id. touch_at x id) (ids x))
classes_apart ids x y below =
    All-map (λ (a : Touch). All (λ (b : Touch). a ≢ b) (map (λ id. touch_at y id) (ids y))) (λ id. touch_at x id) (ids x)
    (λ k d within. All-map (λ (b : Touch). touch_at x (get_or (ids x) k d) ≢ b) (λ id. touch_at y id) (ids y)
    (λ j e there is. let i : x ≡ y = ap (λ (t : Touch). t.class) is in absurd (omega (arith, below, i))))

-- the keys of increasing ids of each class are different
pub keys_differ : (ids : ℕ → List ℕ) (count : ℕ) → ((class : ℕ) → Rising (λ (a b : ℕ). a < b) (ids class))
    → Rising (λ (one other : Touch). one ≢ other) (flat_map (λ class. map (λ id. touch_at class id) (ids class)) (range_with_len 0 count))
keys_differ ids count rise =
    rising-flat_map (λ (k l : ℕ). k < l) (λ (one other : Touch). one ≢ other) (λ class. map (λ id. touch_at class id) (ids class)) (range_with_len 0 count) (range_rises 0 count)
    (λ k d within. class_keys_differ (ids (get_or (range_with_len 0 count) k d)) (get_or (range_with_len 0 count) k d) (rise (get_or (range_with_len 0 count) k d)))
    (classes_apart ids)

-- the ids of each class of a plan increase
pub ids_rise : (plan : PlanView) (class : ℕ) → IsPlan plan → Rising (λ (a b : ℕ). a < b) (ids_of plan class)
ids_rise plan class sound = rising_from_pairs (λ (a b : ℕ). a < b) (ids_of plan class) (increasing plan class sound)

-- one of many lists has a member that passes
pub any_in : {X : Type 0} (p : X → Bool) (f : ℕ → List X) (a n k : ℕ) → a ≤ k → k < a + n → list_any p (f k) ≡ true → list_any p (flat_map f (range_with_len a n)) ≡ true
any_in p f a zero k low high is = absurd (omega (arith, low, high))
any_in p f a (suc n) k low high is =
    let rest = flat_map f (range_with_len (a + 1) n) in
    list_any-append p (f a) rest ∙ (elim (cases_lt a k) [
      | inl below ↦ ap (λ (b : Bool). list_any p (f a) || b) (any_in p f (a + 1) n k (omega (arith, below)) (omega (arith, high)) is) ∙ or_true (list_any p (f a))
      | inr above ↦ ap (λ (b : Bool). b || list_any p rest) (ap (λ (i : ℕ). list_any p (f i)) (same a k low above) ∙ is)
    ])
  where
    or_true : (b : Bool) → (b || true) ≡ true
    or_true true = refl
    or_true false = refl

    same : (a k : ℕ) → a ≤ k → k ≤ a → a ≡ k
    same a k low above = omega (arith, low, above)

-- the key of an id is among those of its class
id_keyed : (ids : List ℕ) (class : ℕ) (rec : Rec) (k : ℕ) → k < length ids → get_or ids k 0 ≡ rec.id
    → list_any (is_keyed class rec) (map (λ id. record { class = class; id = id }) ids) ≡ true
id_keyed [] class rec k within is = absurd (omega (arith, within))
id_keyed (id ∷ ids) class rec zero within is =
    let here : is_keyed class rec (touch_at class id) ≡ true = (λ i. eqb_same class class refl i && eqb_same id rec.id is i) in
    ap (λ (b : Bool). b || list_any (is_keyed class rec) (map (λ x. record { class = class; id = x }) ids)) here
id_keyed (id ∷ ids) class rec (suc k) within is =
    ap (λ (b : Bool). is_keyed class rec (touch_at class id) || b) (id_keyed ids class rec k (omega (arith, within)) is) ∙ or_true (is_keyed class rec (touch_at class id))
  where
    or_true : (b : Bool) → (b || true) ≡ true
    or_true true = refl
    or_true false = refl

-- what doesn't pass is filtered out
pub filters_none : {X : Type 0} (p : X → Bool) (xs : List X) → ((k : ℕ) (d : X) → k < length xs → p (get_or xs k d) ≡ true) → filter (λ x. not (p x)) xs ≡ []
filters_none p [] all = refl
filters_none p (x ∷ xs) all =
    ap (λ (b : Bool). cond (not b) (x ∷ filter (λ y. not (p y)) xs) (filter (λ y. not (p y)) xs)) (all 0 x (omega arith))
    ∙ filters_none p xs (λ k d within. all (suc k) d (omega (arith, within)))

-- each record of a plan is at one of its keys
pub keyed : (plan : PlanView) (class : ℕ) (k : ℕ) (d : Rec) → IsPlan plan → k < length (records_of plan class) → is_key (all_keys plan) class (get_or (records_of plan class) k d) ≡ true
unfolding records_of
keyed plan class k d sound within =
    let rec = get_or (records_of plan class) k d in
    let ids = record_ids plan class in
    let there : k < length (ids_of plan class) = (let e = ap (λ (ns : List ℕ). length ns) ids in let a = length-map (records_of plan class) (λ (r : Rec). r.id) in omega (arith, within, e, a)) in
    let is : get_or (ids_of plan class) k 0 ≡ rec.id = ap (λ (ns : List ℕ). get_or ns k 0) (sym ids) ∙ get_or-map (λ (r : Rec). r.id) (records_of plan class) k d 0 within in
    elim (cases_lt class (length plan.classes)) [
      | inl below ↦ any_in (is_keyed class rec) (keys_in plan) 0 (length plan.classes) class (omega arith) (omega (arith, below)) (id_keyed (ids_of plan class) class rec k there is)
      | inr past ↦ absurd (none_past (class_of plan class) (class_past plan class past) (let e = length-map (class_of plan class).facts (resolved plan class) in omega (arith, within, e)))
    ]
  where
    none_past : (view : ClassView) → view ≡ no_class → k < length view.facts → ⊥
    none_past view is within = let e = ap (λ (v : ClassView). length v.facts) is in absurd (omega (arith, within, e))

-- nothing turns into the records of a plan at all of its keys
pub all_turn : (plan : PlanView) → IsPlan plan → FactsTurn (all_keys plan) no_facts (records_of plan)
all_turn plan sound = record {
  differ =
      pairs_from_rising (λ (one other : Touch). one ≢ other) (all_keys plan)
      (keys_differ (ids_of plan) (length plan.classes) (λ class. ids_rise plan class sound));
  old = record { by_id = λ class i j d below within. absurd (omega (arith, within)); classed = λ class. All-nil (λ (rec : Rec). rec.class ≡ class) };
  new = plans_are_facts plan sound;
  same = λ class. sym (filters_none (is_key (all_keys plan) class) (records_of plan class) (λ k d within. keyed plan class k d sound within));
}

-- what is made of one number more
flat_more : {X : Type 0} (f : ℕ → List X) (a n : ℕ) → flat_map f (range_with_len a (suc n)) ≡ flat_map f (range_with_len a n) ++ f (a + n)
flat_more f a zero = append-nil (f a) ∙ ap f (let e : a ≡ a + 0 = omega arith in e)
flat_more f a (suc n) =
    ap (λ (rest : List _). f a ++ rest) (flat_more f (a + 1) n)
    ∙ sym (append_assoc (f a) (flat_map f (range_with_len (a + 1) n)) (f (a + 1 + n)))
    ∙ ap (λ (k : ℕ). (f a ++ flat_map f (range_with_len (a + 1) n)) ++ f k) (let e : a + 1 + n ≡ a + suc n = omega arith in e)

-- what is made of one class more
pub class_more : (f : ℕ → List Touch) (class : ℕ) → flat_map f (range_with_len 0 (class + 1)) ≡ flat_map f (range_with_len 0 class) ++ f class
class_more f class = ap (λ (n : ℕ). flat_map f (range_with_len 0 n)) (let e : class + 1 ≡ suc class = omega arith in e) ∙ flat_more f 0 class
    ∙ ap (λ (k : ℕ). flat_map f (range_with_len 0 class) ++ f k) (let e : 0 + class ≡ class = omega arith in e)

-- a member of a range is below its end
pub range_to : (a n k d : ℕ) → k < length (range_with_len a n) → get_or (range_with_len a n) k d < a + n
range_to a zero k d within = absurd (omega (arith, within))
range_to a (suc n) zero d within = omega arith
range_to a (suc n) (suc k) d within = (let rest = range_to (a + 1) n k d (omega (arith, within)) in omega (arith, rest))

-- each key is of a class that the plan has
pub keys_known : (plan : PlanView) (count : ℕ) → length plan.classes ≤ count → All (λ (key : Touch). key.class < count) (all_keys plan)
keys_known plan count le =
    All-flat_map (λ (key : Touch). key.class < count) (keys_in plan) (range_with_len 0 (length plan.classes))
    (λ k d within. All-map (λ (key : Touch). key.class < count) (λ id. record { class = get_or (range_with_len 0 (length plan.classes)) k d; id = id }) (ids_of plan (get_or (range_with_len 0 (length plan.classes)) k d))
    (λ j e there. (let below = range_to 0 (length plan.classes) k d within in omega (arith, below, le))))
