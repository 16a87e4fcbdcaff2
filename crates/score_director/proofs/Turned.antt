-- What an edit leaves as it is: the records of all entities that it doesn't touch.
use Rattle.std.proofs.Common.{◌≡◌, ◌<◌, ◌∙◌, ◌==◌, ◌&&◌, ◌||◌, ℕ, Bool, true, false, cond, not, List, [], ◌∷◌, Some, map, filter, length, get_or, refl, sym, ap, subst, arith, suc, set, inl, inr, All}
use Rattle.std.specs.Prelude.{option_map}
use Rattle.std.proofs.lemmas.Bool.{cases_lt}
use Rattle.std.proofs.lemmas.List.{get_or-map, length-map}
use Rattle.std.proofs.lemmas.List.Elements.{All-cons, All-head, All-nil, All-tail}
use Rattle.std.specs.List.{list_any}
use Rattle.plan_facts.specs.declared.record.Raw.{Raw}
use Rattle.plan_facts.specs.declared.record.Rec.{Rec}
use Rattle.plan_facts.specs.PlanChanges.{with_value}
use Rattle.plan_facts.proofs.Changed.{changed_keeps, with_value_sound}
use Rattle.plan_facts.proofs.PlanLaws.{record_of-with_value_other}
use Rattle.plan_facts.proofs.Sound.{class_at, class_past}
use Rattle.plan_facts.specs.Plan.{AreIncreasing, ClassView, IsPlan, PlanView, class_of, ids_in, ids_of, record_of, record_with_id, records_of, resolved}
use Rattle.plan_facts.proofs.Places.{eqb_same, record_at, same_eqb}
use Rattle.plan_moves.specs.declared.edit.Set.{Set}
use Rattle.plan_moves.specs.declared.edit.Touch.{Touch}
use Rattle.plan_moves.specs.Edits.{applied, entity_of, is_first_touched, is_legal, is_legal_set, touched_by}
use Rattle.plan_moves.proofs.Restored.{put_set}
use Rattle.plan_moves.proofs.Shape.{both_left, both_right, legal_class, legal_there, legal_value, same_legal, with_value_shape}

-- the key is one of these
abbrev pub is_under : List Touch → ℕ → ℕ → Bool
is_under keys class id = list_any (λ (key : Touch). (key.class == class) && (key.id == id)) keys

abbrev ids : List Rec → List ℕ
ids recs = map (λ (r : Rec). r.id) recs

-- records with the same ids that agree where they are kept are the same where they are kept
filters_same : (keep : ℕ → Bool) (xs ys : List Rec) → ids xs ≡ ids ys
    → ((i : ℕ) (d : Rec) → i < length xs → keep (get_or xs i d).id ≡ true → get_or xs i d ≡ get_or ys i d)
    → filter (λ (r : Rec). keep r.id) xs ≡ filter (λ (r : Rec). keep r.id) ys
filters_same keep [] [] same agree = refl
filters_same keep [] (y ∷ ys) same agree = absurd (let e = ap (λ (ns : List ℕ). length ns) same in omega (arith, e))
filters_same keep (x ∷ xs) [] same agree = absurd (let e = ap (λ (ns : List ℕ). length ns) same in omega (arith, e))
filters_same keep (x ∷ xs) (y ∷ ys) same agree =
    let F : List Rec → List Rec = λ rs. filter (λ (r : Rec). keep r.id) rs in
    let one : x.id ≡ y.id = ap (λ (ns : List ℕ). get_or ns 0 0) same in
    let rest : F xs ≡ F ys = filters_same keep xs ys (ap (λ (ns : List ℕ). drop_one ns) same) (λ i d within kept. agree (suc i) d (omega arith) kept) in
    (elim (keep x.id) as (λ b. keep x.id ≡ b → cond b (x ∷ F xs) (F xs) ≡ cond b (y ∷ F ys) (F ys)) [
      | true ↦ λ is. (let same_head : x ≡ y = agree 0 x (omega arith) is in λ i. same_head i ∷ rest i)
      | false ↦ λ is. rest
    ]) refl
    ∙ ap (λ (n : ℕ). cond (keep n) (y ∷ F ys) (F ys)) one
  where
    drop_one : List ℕ → List ℕ
    drop_one [] = []
    drop_one (n ∷ ns) = ns

-- the entity of a set isn't this one
abbrev Elsewhere : ℕ → ℕ → Set → Type 0
Elsewhere class id set = class ≡ set.class → id ≡ set.id → ⊥

next_sound : (plan : PlanView) (set : Set) (sets : List Set) → IsPlan plan → is_legal plan (set ∷ sets) ≡ true → IsPlan (put_set plan set)
next_sound plan set sets sound legal = with_value_sound plan set.class set.id set.var set.value (legal_class plan set (both_left _ _ legal)) sound (legal_value plan set (both_left _ _ legal))

next_legal : (plan : PlanView) (set : Set) (sets : List Set) → is_legal plan (set ∷ sets) ≡ true → is_legal (put_set plan set) sets ≡ true
next_legal plan set sets legal = same_legal plan (put_set plan set) (with_value_shape plan set.class set.id set.var set.value (legal_class plan set (both_left _ _ legal))) sets ∙ both_right _ _ legal

pub applied_sound : (plan : PlanView) (sets : List Set) → IsPlan plan → is_legal plan sets ≡ true → IsPlan (applied plan sets)
unfolding applied
applied_sound plan [] sound legal = sound
applied_sound plan (set ∷ sets) sound legal = applied_sound (put_set plan set) sets (next_sound plan set sets sound legal) (next_legal plan set sets legal)

-- a record of which the edit sets no variable stays
record_stays : (plan : PlanView) (sets : List Set) (class id : ℕ) → IsPlan plan → is_legal plan sets ≡ true → All (Elsewhere class id) sets → record_of (applied plan sets) class id ≡ record_of plan class id
unfolding applied
record_stays plan [] class id sound legal apart = refl
record_stays plan (set ∷ sets) class id sound legal apart =
    let P : Set → Type 0 = Elsewhere class id in
    record_stays (put_set plan set) sets class id (next_sound plan set sets sound legal) (next_legal plan set sets legal) (All-tail P set sets apart)
    ∙ record_of-with_value_other plan set.class set.id set.var set.value class id sound (legal_there plan set (both_left _ _ legal)) (All-head P set sets apart)

one_keeps : (plan : PlanView) (s : Set) (class : ℕ) → is_legal_set plan s ≡ true → ids_of (put_set plan s) class ≡ ids_of plan class
unfolding with_value
one_keeps plan s class legal = (changed_keeps plan s.class s.id (λ (raw : Raw). record raw { values = set raw.values s.var s.value }) (legal_class plan s legal) (λ raw. refl)).ids class

-- the ids of each class stay
pub ids_stay : (plan : PlanView) (sets : List Set) (class : ℕ) → IsPlan plan → is_legal plan sets ≡ true → ids_of (applied plan sets) class ≡ ids_of plan class
unfolding applied
ids_stay plan [] class sound legal = refl
ids_stay plan (set ∷ sets) class sound legal =
    ids_stay (put_set plan set) sets class (next_sound plan set sets sound legal) (next_legal plan set sets legal) ∙ one_keeps plan set class (both_left _ _ legal)

pub record_ids : (plan : PlanView) (class : ℕ) → ids (records_of plan class) ≡ ids_of plan class
unfolding records_of
record_ids plan class = same (class_of plan class).facts
  where
    same : (facts : List Raw) → ids (map (resolved plan class) facts) ≡ map (λ (raw : Raw). raw.id) facts
    same [] = refl
    same (raw ∷ facts) = ap (λ (ns : List ℕ). raw.id ∷ ns) (same facts)

pub increasing : (plan : PlanView) (class : ℕ) → IsPlan plan → AreIncreasing (ids_of plan class)
increasing plan class sound =
    elim (cases_lt class (length plan.classes)) [
      | inl within ↦ (class_at plan class sound within).increasing
      | inr past ↦ subst (λ (view : ClassView). AreIncreasing (ids_in view.facts)) (sym (class_past plan class past)) (λ i j d below within. absurd (omega arith))
    ]

-- each resolved record is found under its id
resolved_at : (plan : PlanView) (class : ℕ) (i : ℕ) (d : Rec) → IsPlan plan → i < length (records_of plan class) → record_of plan class (get_or (records_of plan class) i d).id ≡ Some (get_or (records_of plan class) i d)
unfolding records_of record_of
resolved_at plan class i d sound within =
    let facts = (class_of plan class).facts in
    let f : Raw → Rec = resolved plan class in
    let raw0 : Raw = record { id = 0; fields = []; values = []; pinned = false } in
    let short : i < length facts = (let e = length-map facts f in omega (arith, e)) in
    let raw = get_or facts i raw0 in
    let is : get_or (map f facts) i d ≡ f raw = get_or-map f facts i raw0 d short in
    let at : get_or (ids_in facts) i 0 ≡ raw.id = get_or-map (λ (r : Raw). r.id) facts i raw0 0 short in
    let found : record_with_id raw.id facts ≡ Some raw = record_at facts i raw.id raw0 (increasing plan class sound) short at in
    ap (λ (r : Rec). option_map f (record_with_id r.id facts)) is ∙ ap (option_map f) found ∙ ap (λ (r : Rec). Some r) (sym is)

some_same : {X : Type 0} {x y : X} → Some x ≡ Some y → x ≡ y
some_same e = cc

-- the ids are those of one key
abbrev same_key : Touch → ℕ → ℕ → Bool
same_key key class id = (key.class == class) && (key.id == id)

pub either_left : (a b : Bool) → (a || b) ≡ false → a ≡ false
either_left true b is = is
either_left false b is = refl

pub either_right : (a b : Bool) → (a || b) ≡ false → b ≡ false
either_right true b is = absurd (true_no_false is)
  where
    true_no_false : true ≡ false → ⊥
    true_no_false e = cc
either_right false b is = is

-- an entity that is none of those touched is that of no set
not_first : (touch : Touch) (rest : List Touch) (class id : ℕ) → is_first_touched touch rest ≡ true → is_under rest class id ≡ false → same_key touch class id ≡ false
not_first touch [] class id is none = absurd (no_first is)
  where
    no_first : false ≡ true → ⊥
    no_first e = cc
not_first touch (first ∷ rest) class id is none =
    let other = either_left (same_key first class id) (is_under rest class id) none in
    let one : touch.class ≡ first.class = same_number touch.class first.class (both_left _ _ is) in
    let two : touch.id ≡ first.id = same_number touch.id first.id (both_right _ _ is) in
    ap (λ (n : ℕ). (n == class) && (touch.id == id)) one ∙ ap (λ (n : ℕ). (first.class == class) && (n == id)) two ∙ other
  where
    same_number : (a b : ℕ) → (a == b) ≡ true → a ≡ b
    same_number a b is = same_eqb a b is

apart_one : (set : Set) (class id : ℕ) → same_key (entity_of set) class id ≡ false → Elsewhere class id set
apart_one set class id differ one two =
    let a : (set.class == class) ≡ true = eqb_same set.class class (sym one) in
    let b : (set.id == id) ≡ true = eqb_same set.id id (sym two) in
    no (sym differ ∙ ap (λ (x : Bool). x && (set.id == id)) a ∙ b)
  where
    no : false ≡ true → ⊥
    no e = cc

touched_apart : (sets : List Set) (class id : ℕ) → is_under (touched_by sets) class id ≡ false → All (Elsewhere class id) sets
touched_apart [] class id none = All-nil (Elsewhere class id)
touched_apart (set ∷ rest) class id none =
    let others = touched_by rest in
    let P : List Touch → Type 0 = λ ts. is_under ts class id ≡ false in
    (elim (is_first_touched (entity_of set) others) as (λ b. is_first_touched (entity_of set) others ≡ b → is_under (cond b others (entity_of set ∷ others)) class id ≡ false → All (Elsewhere class id) (set ∷ rest)) [
      | true ↦ λ is out. All-cons (Elsewhere class id) set rest (apart_one set class id (not_first (entity_of set) others class id is out)) (touched_apart rest class id out)
      | false ↦ λ is out. All-cons (Elsewhere class id) set rest (apart_one set class id (either_left _ (is_under others class id) out)) (touched_apart rest class id (either_right (same_key (entity_of set) class id) _ out))
    ]) refl none

-- the records of a class that an edit doesn't touch are the same after it
pub untouched_same : (plan : PlanView) (sets : List Set) (class : ℕ) → IsPlan plan → is_legal plan sets ≡ true
    → filter (λ (rec : Rec). not (is_under (touched_by sets) class rec.id)) (records_of plan class)
    ≡ filter (λ (rec : Rec). not (is_under (touched_by sets) class rec.id)) (records_of (applied plan sets) class)
untouched_same plan sets class sound legal =
    let after = applied plan sets in
    let same_ids = record_ids plan class ∙ sym (ids_stay plan sets class sound legal) ∙ sym (record_ids after class) in
    filters_same (λ id. not (is_under (touched_by sets) class id)) (records_of plan class) (records_of after class) same_ids
    (λ i d within kept.
    let one = get_or (records_of plan class) i d in
    let other = get_or (records_of after class) i d in
    let later_within : i < length (records_of after class) = (let e = ap (λ (ns : List ℕ). length ns) same_ids in let a = length-map (records_of plan class) (λ (r : Rec). r.id) in let b = length-map (records_of after class) (λ (r : Rec). r.id) in omega (arith, e, a, b)) in
    let same_id : one.id ≡ other.id =
    sym (get_or-map (λ (r : Rec). r.id) (records_of plan class) i d 0 within) ∙ ap (λ (ns : List ℕ). get_or ns i 0) same_ids ∙ get_or-map (λ (r : Rec). r.id) (records_of after class) i d 0 later_within in
    let away = touched_apart sets class one.id (negated _ kept) in
    some_same (sym (resolved_at plan class i d sound within) ∙ sym (record_stays plan sets class one.id sound legal away) ∙ ap (record_of after class) same_id ∙ resolved_at after class i d (applied_sound plan sets sound legal) later_within))
  where
    negated : (b : Bool) → not b ≡ true → b ≡ false
    negated true is = absurd (let e : false ≡ true = is in cc)
    negated false is = refl
