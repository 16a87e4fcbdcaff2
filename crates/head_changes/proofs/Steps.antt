-- One key more is done.
use Rattle.std.proofs.Common.{◌≡◌, ◌≢◌, ◌<◌, ◌+◌, ◌∙◌, ◌==◌, ◌&&◌, ◌||◌, ⊎_elim, ℕ, List, [], ◌∷◌, ◌++◌, Bool, true, false, cond, not, Option, Some, None, is_some, filter, find, map, set, get_or, length, sum_by, refl, sym, ap, subst, arith}
use Rattle.std.specs.List.{Contains}
use Rattle.std.specs.Option.{option_map, option_map_or}
use Rattle.std.specs.FinMap as finmap
use Rattle.std.proofs.lemmas.Bool.{cases_eq}
use Rattle.std.proofs.lemmas.Bool.Decides.{Decides-eqb}
use Rattle.std.proofs.lemmas.List.{append-nil, get_or-map, get_or-set_other, get_or-set_same, length-map, map-set}
use Rattle.std.proofs.lemmas.List.Elements.{All-contains}
use Rattle.std.proofs.lemmas.List.Sums.{sum_by-append}
use Rattle.plan_facts.specs.Plan.{PlanView, class_of, fact_of, record_of, records_of, resolved}
use Rattle.plan_facts.specs.declared.record.Raw.{Raw}
use Rattle.plan_facts.specs.declared.record.Rec.{Rec}
use Rattle.plan_moves.specs.declared.edit.Touch.{Touch}
use Rattle.plan_rules.specs.declared.row.Part.{Part}
use Rattle.plan_rules.specs.declared.row.Part.TheVariants.{Fact, Num}
use Rattle.plan_rules.specs.Bags.{AreSame}
use Rattle.plan_rules.specs.Rows.{Facts, is_placed, row_of}
use Rattle.plan_rules.proofs.Rising.{rising_from_pairs}
use Rattle.plan_rules.proofs.Sums.{same-sym}
use Rattle.stream_heads.specs.declared.cells.Cell.{Cell}
use Rattle.stream_heads.specs.declared.cells.Cell.TheVariants as cell
use Rattle.stream_heads.specs.Meant.{Rows, record_in}
use Rattle.head_changes.specs.declared.changes.ClassChange.{ClassChange}
use Rattle.head_changes.specs.Changes.{came, come_of, gone_of, went}
use Rattle.head_changes.specs.Takers.{AreFacts, HeadsHold, IsTaken, Takers, is_keyed, takes}
use Rattle.head_changes.specs.Turns.{Enters, FindsKey, IsSame, Leaves, TurnsClass, TurnsKey, fact_at, fact_in, has_key, is_placed_at, row_taking}
use Rattle.head_changes.proofs.Keys.{KeyAt, fact_there, key_at}
use Rattle.head_changes.proofs.Lists.{kept_less, none_passes, none_there, one_cases, one_passes, rest_there, first_or_rest, first_there, taken_more, kept_there}
use Rattle.head_changes.proofs.States.{State, extra, of_class, state_came, state_left, state_on}
use Rattle.head_changes.proofs.Takings.{fact_held, held_fact, held_taker, mapped_there, taker_fact, taker_rec, there_mapped}

true_false : true ≡ false → ⊥
true_false e = cc

some_is : {X : Type 0} {x y : X} → Some x ≡ Some y → x ≡ y
some_is e = cc

none_some : {X : Type 0} {x : X} → None ≡ Some x → ⊥
none_some e = cc

both_true : (a b : Bool) → (a && b) ≡ true → (a ≡ true) × (b ≡ true)
both_true true true e = (refl, refl)
both_true true false e = absurd (true_false (sym e))
both_true false b e = absurd (true_false (sym e))

-- facts of which those at some keys are gone, and the later ones at some keys have come
abbrev pub turned : (ℕ → Rec → Bool) → (ℕ → Rec → Bool) → Facts → Facts → Facts
turned out got facts later class = filter (λ rec. not (out class rec)) (facts class) ++ filter (got class) (later class)

-- the key tells a record of the class
pub keyed_by : (class : ℕ) (rec : Rec) (key : Touch) → is_keyed class rec key ≡ true → (key.class ≡ class) × (key.id ≡ rec.id)
keyed_by class rec key is =
    let b = both_true (key.class == class) (key.id == rec.id) is in
    ((Decides-eqb key.class class).0 (b.0), (Decides-eqb key.id rec.id).0 (b.1))

pub by_keyed : (class : ℕ) (rec : Rec) (key : Touch) → key.class ≡ class → key.id ≡ rec.id → is_keyed class rec key ≡ true
by_keyed class rec key c i =
    let a : (key.class == class) ≡ true = (Decides-eqb key.class class).1 c in
    let b : (key.id == rec.id) ≡ true = (Decides-eqb key.id rec.id).1 i in
    rw (a, b) refl

-- the one record at a key
pub only_one : (facts : Facts) (key : Touch) (rec : Rec) → AreFacts facts → rec.class ≡ key.class → rec.id ≡ key.id → Contains (facts rec.class) rec
    → (class : ℕ) → filter (λ r. is_keyed class r key) (facts class) ≡ of_class rec class
only_one facts key rec are c i there class =
    ⊎_elim
    (λ (same : class ≡ rec.class).
    let own : (rec.class == class) ≡ true = (Decides-eqb rec.class class).1 (sym same) in
    rw own
    (one_passes (λ (r : Rec). r.id) (λ r. is_keyed class r key) (facts class) rec
    (rising_from_pairs (λ (one other : Rec). one.id < other.id) (facts class) (are.by_id class))
    (subst (λ (k : ℕ). Contains (facts k) rec) (sym same) there)
    (by_keyed class rec key (sym c ∙ sym same) (sym i))
    (λ y keyed. sym ((keyed_by class y key keyed).1) ∙ sym i)))
    (λ (apart : class ≢ rec.class).
    let other : (rec.class == class) ≡ false = elim (rec.class == class) as (λ b. (rec.class == class) ≡ b → b ≡ false) [
      | true ↦ λ is. absurd (apart (sym ((Decides-eqb rec.class class).0 is)))
      | false ↦ λ is. refl
    ] refl in
    rw other (none_passes (λ r. is_keyed class r key) (facts class) (λ x there keyed. apart (sym ((keyed_by class x key keyed).0) ∙ sym c))))
    (cases_eq class rec.class)

-- there is none at a key
pub only_none : (facts : Facts) (key : Touch) → ((r : Rec) → Contains (facts key.class) r → r.id ≡ key.id → ⊥)
    → (class : ℕ) → filter (λ r. is_keyed class r key) (facts class) ≡ []
only_none facts key none class =
    none_passes (λ r. is_keyed class r key) (facts class) (λ x there keyed.
    let k = keyed_by class x key keyed in
    none x (subst (λ (c : ℕ). Contains (facts c) x) (sym (k.0)) there) (sym (k.1)))

-- a record that is looked up in a plan
found_raw : (p : Raw → Bool) (raws : List Raw) (raw : Raw) → find p raws ≡ Some raw → Contains raws raw × (p raw ≡ true)
found_raw p [] raw is = absurd (none_some is)
found_raw p (x ∷ raws) raw is =
    elim (p x) as (λ b. p x ≡ b → cond b (Some x) (find p raws) ≡ Some raw → Contains (x ∷ raws) raw × (p raw ≡ true)) [
      | true ↦ λ passes e. let same : x ≡ raw = some_is e in (subst (λ (y : Raw). Contains (x ∷ raws) y) same (first_there x raws), sym (ap p same) ∙ passes)
      | false ↦ λ passes e. let rest = found_raw p raws raw e in (rest_there raw x raws (rest.0), rest.1)
    ] refl is

missed_raw : (p : Raw → Bool) (raws : List Raw) (raw : Raw) → find p raws ≡ None → Contains raws raw → p raw ≡ true → ⊥
missed_raw p [] raw is there passes = none_there raw there
missed_raw p (x ∷ raws) raw is there passes =
    elim (p x) as (λ b. p x ≡ b → cond b (Some x) (find p raws) ≡ None → ⊥) [
      | true ↦ λ yes e. none_some (sym e)
      | false ↦ λ no e. ⊎_elim (λ (same : x ≡ raw). true_false (sym passes ∙ sym (ap p same) ∙ no)) (λ later. missed_raw p raws raw e later passes) (first_or_rest x raws raw there)
    ] refl is

-- a record that a plan has
pub record PlanHas (plan : PlanView) (class id : ℕ) (rec : Rec) : Type 0 where
  pub there : Contains (records_of plan class) rec
  pub classed : rec.class ≡ class
  pub numbered : rec.id ≡ id

pub plan_has : (plan : PlanView) (class id : ℕ) (rec : Rec) → record_of plan class id ≡ Some rec → PlanHas plan class id rec
unfolding record_of records_of
plan_has plan class id rec is =
    elim (fact_of plan class id) as (λ o. fact_of plan class id ≡ o → option_map (resolved plan class) o ≡ Some rec → PlanHas plan class id rec) [
      | None ↦ λ found e. absurd (none_some e)
      | Some raw ↦ λ found e.
          let raws = (class_of plan class).facts in
          let f = found_raw (λ (r : Raw). r.id == id) raws raw found in
          let same : resolved plan class raw ≡ rec = some_is e in
          record {
            classed = ap (λ (r : Rec). r.class) (sym same);
            numbered = ap (λ (r : Rec). r.id) (sym same) ∙ (Decides-eqb raw.id id).0 (f.1);
            there = subst (λ (r : Rec). Contains (map (resolved plan class) raws) r) same (mapped_there (resolved plan class) raws raw (f.0));
          }
    ] refl is

pub plan_lacks : (plan : PlanView) (class id : ℕ) → record_of plan class id ≡ None → (r : Rec) → Contains (records_of plan class) r → r.id ≡ id → ⊥
unfolding record_of records_of
plan_lacks plan class id is r there same =
    let raws = (class_of plan class).facts in
    let m = there_mapped (resolved plan class) raws r there in
    elim (fact_of plan class id) as (λ o. fact_of plan class id ≡ o → option_map (resolved plan class) o ≡ None → ⊥) [
      | None ↦ λ found e. missed_raw (λ (x : Raw). x.id == id) raws m.from found m.there ((Decides-eqb m.from.id id).1 (ap (λ (x : Rec). x.id) m.is ∙ same))
      | Some raw ↦ λ found e. none_some (sym e)
    ] refl is

-- what a place adds to the rows of a class
cond_and : (a b : Bool) (rows : List (List Cell)) → cond a (cond b rows []) [] ≡ cond (a && b) rows []
cond_and true b rows = refl
cond_and false b rows = refl

at_set : (f : ClassChange → List (List Cell)) (changes : List ClassChange) (class : ℕ) (old next : ClassChange) (rows : List (List Cell))
    → class < length changes → old ≡ get_or changes class old → f next ≡ f old ++ rows
    → (c : ℕ) → get_or (map f (set changes class next)) c [] ≡ get_or (map f changes) c [] ++ cond (class == c) rows []
at_set f changes class old next rows within was more c =
    ⊎_elim
    (λ (same : c ≡ class).
    let own : (class == c) ≡ true = (Decides-eqb class c).1 (sym same) in
    let within' : class < length (map f changes) = let e = length-map changes f in omega (arith, e, within) in
    let here : get_or (map f (set changes class next)) c [] ≡ f next = ap (λ (l : List (List (List Cell))). get_or l c []) (map-set f changes class next) ∙ ap (λ (k : ℕ). get_or (set (map f changes) class (f next)) k []) same ∙ get_or-set_same (map f changes) class (f next) [] within' in
    let before : get_or (map f changes) c [] ≡ f old = ap (λ (k : ℕ). get_or (map f changes) k []) same ∙ get_or-map f changes class old [] within ∙ ap f (sym was) in
    here ∙ more ∙ rw (own) (ap (λ (rs : List (List Cell)). rs ++ rows) (sym before)))
    (λ (apart : c ≢ class).
    let other : (class == c) ≡ false = elim (class == c) as (λ b. (class == c) ≡ b → b ≡ false) [
      | true ↦ λ is. absurd (apart (sym ((Decides-eqb class c).0 is)))
      | false ↦ λ is. refl
    ] refl in
    ap (λ (l : List (List (List Cell))). get_or l c []) (map-set f changes class next) ∙ get_or-set_other (map f changes) class c (f next) [] apart
    ∙ rw other (sym (append-nil (get_or (map f changes) c []))))
    (cases_eq c class)

-- the same where nothing is added
same_set : (f : ClassChange → List (List Cell)) (changes : List ClassChange) (class : ℕ) (old next : ClassChange)
    → class < length changes → old ≡ get_or changes class old → f next ≡ f old → (c : ℕ) → get_or (map f (set changes class next)) c [] ≡ get_or (map f changes) c []
same_set f changes class old next within was same c =
    at_set f changes class old next [] within was (same ∙ sym (append-nil (f old))) c
    ∙ ap (λ (rs : List (List Cell)). get_or (map f changes) c [] ++ rs) (nothing (class == c)) ∙ append-nil (get_or (map f changes) c []) where
      nothing : (b : Bool) → ◌≡◌ {A = List (List Cell)} (cond b [] []) []
      nothing true = refl
      nothing false = refl

-- facts of which those at one key more are gone, or have come
module _ (facts later : Facts) (done : ℕ → Rec → Bool) (all_done : ℕ → Rec → Bool) (key : Touch)
    (more : (class : ℕ) (rec : Rec) → all_done class rec ≡ (done class rec || is_keyed class rec key))
    (apart : (class : ℕ) (rec : Rec) → is_keyed class rec key ≡ true → done class rec ≡ false) where
  pub dropped : (olds : ℕ → List Rec) → ((class : ℕ) → filter (λ r. is_keyed class r key) (facts class) ≡ olds class)
      → (class : ℕ) → AreSame (turned done done facts later class) (turned all_done done facts later class ++ olds class)
  dropped olds are class = record {
    sums = λ f.
        let out = filter (λ rec. not (done class rec)) (facts class) in
        let less = filter (λ rec. not (all_done class rec)) (facts class) in
        let got = filter (done class) (later class) in
        let a = kept_less (done class) (λ r. is_keyed class r key) (apart class) (all_done class) (more class) f (facts class) in
        let b = ap (sum_by f) (are class) in
        let c : sum_by f (turned done done facts later class) ≡ sum_by f out + sum_by f got = sum_by-append f out got in
        let d : sum_by f (turned all_done done facts later class ++ olds class) ≡ sum_by f (less ++ got) + sum_by f (olds class) = sum_by-append f (less ++ got) (olds class) in
        let e = sum_by-append f less got in
        omega (arith, a, b, c, d, e);
  }

  pub gained : (news : ℕ → List Rec) → ((class : ℕ) → filter (λ r. is_keyed class r key) (later class) ≡ news class)
      → (class : ℕ) → AreSame (turned all_done all_done facts later class) (turned all_done done facts later class ++ news class)
  gained news are class = record {
    sums = λ f.
        let less = filter (λ rec. not (all_done class rec)) (facts class) in
        let got = filter (done class) (later class) in
        let full = filter (all_done class) (later class) in
        let a = taken_more (done class) (λ r. is_keyed class r key) (apart class) (all_done class) (more class) f (later class) in
        let b = ap (sum_by f) (are class) in
        let c : sum_by f (turned all_done all_done facts later class) ≡ sum_by f less + sum_by f full = sum_by-append f less full in
        let d : sum_by f (turned all_done done facts later class ++ news class) ≡ sum_by f (less ++ got) + sum_by f (news class) = sum_by-append f (less ++ got) (news class) in
        let e = sum_by-append f less got in
        omega (arith, a, b, c, d, e);
  }

same_nothing : {X : Type 0} (xs ys : List X) → AreSame xs (ys ++ []) → AreSame xs ys
same_nothing xs ys same = record { sums = λ f. let a = same.sums f in let b : sum_by f [] ≡ 0 = refl in omega (arith, a, b, sum_by-append f ys []) }

same_both : {X : Type 0} (xs ys zs : List X) → AreSame xs zs → AreSame ys zs → AreSame xs ys
same_both xs ys zs one other = record { sums = λ f. one.sums f ∙ sym (other.sums f) }

-- a record whose key isn't done stands where the facts have it
pub record Standing (facts : Facts) (heads : Rows) (takers : Takers) (key : Touch) (place : ℕ) : Type 0 where
  pub rec : Rec
  pub there : finmap.get heads place ≡ Some (row_of rec)
  pub class : rec.class ≡ key.class
  pub id : rec.id ≡ key.id
  pub held : (nulls : Bool) → takes nulls rec ≡ true → Contains (takers rec.class nulls) (cell.Place place ∷ [])
  pub fact : Contains (facts rec.class) rec

place_is : {p q : ℕ} → ◌≡◌ {A = List Cell} (cell.Place p ∷ []) (cell.Place q ∷ []) → p ≡ q
place_is e = cc

module _ (before heads : Rows) (gone come takers : Takers) (facts now : Facts) (done : ℕ → Rec → Bool) (key : Touch)
    (hold : HeadsHold before takers facts) (are : AreFacts facts) (s : State before heads gone come takers facts now done)
    (apart : (class : ℕ) (rec : Rec) → is_keyed class rec key ≡ true → done class rec ≡ false) where
  standing_by : (place : ℕ) (at : KeyAt heads key place) → IsTaken takers place (record_in at.row) → record_in at.row ≡ at.rec → Standing facts heads takers key place
  standing_by place at taken same =
      let there : Contains (takers at.rec.class true) (cell.Place place ∷ []) = subst (λ (r : Rec). Contains (takers r.class true) (cell.Place place ∷ [])) same (taken true refl) in
      let t = held_taker before takers facts hold are at.rec.class true (cell.Place place ∷ []) there in
      let here : finmap.get before place ≡ Some (row_of t.rec) = ap (finmap.get before) (place_is t.is) ∙ t.there in
      let now_there : finmap.get heads place ≡ Some (row_of t.rec) = s.extends place (ap is_some here) ∙ here in
      let row_is : at.row ≡ row_of t.rec = some_is (sym at.there ∙ now_there) in
      let rec_is : t.rec ≡ at.rec = sym (ap record_in row_is) ∙ same in
      let means = sym (taker_rec t) in
      record {
        rec = t.rec;
        there = now_there;
        class = ap (λ (r : Rec). r.class) rec_is ∙ at.class;
        id = ap (λ (r : Rec). r.id) rec_is ∙ at.id;
        held = subst (λ (r : Rec). (nulls : Bool) → takes nulls r ≡ true → Contains (takers r.class nulls) (cell.Place place ∷ [])) (same ∙ sym rec_is) taken;
        fact =
            subst (λ (r : Rec). Contains (facts r.class) r) (sym rec_is)
            (subst (λ (r : Rec). Contains (facts at.rec.class) r) (taker_rec t ∙ rec_is)
            ((taker_fact facts at.rec.class true _ (held_fact before takers facts hold at.rec.class true (cell.Place place ∷ []) there)).0));
      }

  pub stands : (place : ℕ) → has_key key (fact_at heads place) ≡ true → Standing facts heads takers key place
  stands place is =
      let at = key_at heads key place is in
      let same = first_fact at.row at.rec at.is in
      let not_done = apart at.rec.class at.rec (by_keyed at.rec.class at.rec key (sym at.class) (sym at.id)) in
      ⊎_elim
      (λ (old : finmap.get before place ≡ Some at.row). standing_by place at (hold.all place at.row old) same)
      (λ (new : IsTaken come place (record_in at.row)).
      let there : Contains (come at.rec.class true) (cell.Place place ∷ []) = subst (λ (r : Rec). Contains (come r.class true) (cell.Place place ∷ [])) same (new true refl) in
      let c = s.came at.rec.class true (cell.Place place ∷ []) there in
      let here : finmap.get heads place ≡ Some (row_of c.taker.rec) = ap (finmap.get heads) (place_is c.taker.is) ∙ c.taker.there in
      let rec_is : c.taker.rec ≡ at.rec = sym (ap record_in (some_is (sym at.there ∙ here))) ∙ same in
      absurd (true_false (sym c.finished ∙ ap (done at.rec.class) rec_is ∙ not_done)))
      (s.all place at.row at.there) where
        first_fact : (row : List Part) (rec : Rec) → fact_in row ≡ Some rec → record_in row ≡ rec
        first_fact [] rec is = absurd (none_some is)
        first_fact (Num n ∷ rest) rec is = absurd (none_some is)
        first_fact (Fact r ∷ rest) rec is = some_is is

  pub lacks : ((place : ℕ) → has_key key (fact_at heads place) ≡ true → ⊥) → (r : Rec) → Contains (facts key.class) r → r.id ≡ key.id → ⊥
  lacks missed r there same =
      let at = fact_held before takers facts hold are key.class r there in
      let now_there : finmap.get heads (at.0) ≡ Some (row_of r) = s.extends (at.0) (ap is_some (at.1)) ∙ at.1 in
      let class : (r.class == key.class) ≡ true = (Decides-eqb r.class key.class).1 (All-contains (λ (x : Rec). x.class ≡ key.class) (facts key.class) r (are.classed key.class) there) in
      let id : (r.id == key.id) ≡ true = (Decides-eqb r.id key.id).1 same in
      missed (at.0) (ap (has_key key) (fact_there heads (at.0) (row_of r) r now_there refl) ∙ rw (class, id) refl)

or_true : (b : Bool) → (b || true) ≡ true
or_true true = refl
or_true false = refl

-- what a place adds to the rows of its record's class
adds : (rec : Rec) (place class c : ℕ) (nulls : Bool) → rec.class ≡ class → cond (class == c) (row_taking (is_placed rec) place nulls) [] ≡ extra rec place c nulls
adds rec place class c nulls same =
    cond_and (class == c) (takes nulls rec) ((cell.Place place ∷ []) ∷ [])
    ∙ ap (λ (k : ℕ). cond ((k == c) && takes nulls rec) ((cell.Place place ∷ []) ∷ []) []) (sym same)

leaves_come : (heads : Rows) (old between : ClassChange) (place : Option ℕ) → Leaves heads old between place → (nulls : Bool) → came nulls between ≡ came nulls old
leaves_come heads old between None same nulls = ap (came nulls) same
leaves_come heads old between (Some place) goes nulls = goes.come nulls

enters_gone : (heads later : Rows) (between next : ClassChange) (rec : Option Rec) → Enters heads later between next rec → (nulls : Bool) → went nulls next ≡ went nulls between
enters_gone heads later between next None same nulls = ap (went nulls) (same.1)
enters_gone heads later between next (Some rec) comes nulls = comes.gone nulls

module _ (before heads later : Rows) (changes new : List ClassChange) (takers : Takers) (facts : Facts) (plan : PlanView) (done all_done : ℕ → Rec → Bool) (key : Touch)
    (hold : HeadsHold before takers facts) (are : AreFacts facts) (are_later : AreFacts (records_of plan))
    (s : State before heads (gone_of changes) (come_of changes) takers facts (turned done done facts (records_of plan)) done)
    (more : (class : ℕ) (rec : Rec) → all_done class rec ≡ (done class rec || is_keyed class rec key))
    (apart : (class : ℕ) (rec : Rec) → is_keyed class rec key ≡ true → done class rec ≡ false)
    (within : key.class < length changes) where
  done_on : (class : ℕ) (rec : Rec) → done class rec ≡ true → all_done class rec ≡ true
  done_on class rec is = more class rec ∙ ap (λ (b : Bool). b || is_keyed class rec key) is

  now_done : (rec : Rec) → rec.class ≡ key.class → rec.id ≡ key.id → all_done rec.class rec ≡ true
  now_done rec class id = more rec.class rec ∙ ap (λ (b : Bool). done rec.class rec || b) (by_keyed rec.class rec key (sym class) (sym id)) ∙ or_true (done rec.class rec)

  found_at : (place : ℕ) → has_key key (fact_at heads place) ≡ true → Standing facts heads takers key place
  found_at place is = stands before heads (gone_of changes) (come_of changes) takers facts (turned done done facts (records_of plan)) done key hold are s apart place is

  lacking : ((place : ℕ) → has_key key (fact_at heads place) ≡ true → ⊥) → (r : Rec) → Contains (facts key.class) r → r.id ≡ key.id → ⊥
  lacking missed r there same = lacks before heads (gone_of changes) (come_of changes) takers facts (turned done done facts (records_of plan)) done key hold are s apart missed r there same

  drops_one : (place : ℕ) (st : Standing facts heads takers key place) → (class : ℕ) → AreSame (turned done done facts (records_of plan) class) (turned all_done done facts (records_of plan) class ++ of_class st.rec class)
  drops_one place st class = dropped facts (records_of plan) done all_done key more apart (of_class st.rec) (only_one facts key st.rec are st.class st.id st.fact) class

  gains_one : (rec : Rec) → PlanHas plan key.class key.id rec → (class : ℕ) → AreSame (turned all_done all_done facts (records_of plan) class) (turned all_done done facts (records_of plan) class ++ of_class rec class)
  gains_one rec has class =
      gained facts (records_of plan) done all_done key more apart (of_class rec)
      (only_one (records_of plan) key rec are_later has.classed has.numbered (subst (λ (c : ℕ). Contains (records_of plan c) rec) (sym has.classed) has.there)) class

  left_state : (old between next : ClassChange) → old ≡ get_or changes key.class old → new ≡ set changes key.class next → ((nulls : Bool) → went nulls next ≡ went nulls between)
      → (place : Option ℕ) → FindsKey heads key place → Leaves heads old between place
      → State before heads (gone_of new) (come_of changes) takers facts (turned all_done done facts (records_of plan)) all_done
  left_state old between next was is kept None missed same =
      let gone_is : gone_of new ≡ gone_of changes =
      (λ i c n. (ap (λ (l : List ClassChange). get_or (map (went n) l) c []) is ∙ same_set (went n) changes key.class old next within was (kept n ∙ ap (went n) same) c) i) in
      subst (λ (g : Takers). State before heads g (come_of changes) takers facts (turned all_done done facts (records_of plan)) all_done) (sym gone_is)
      (state_on before heads (gone_of changes) (come_of changes) takers facts (turned done done facts (records_of plan)) done hold are s
      (turned all_done done facts (records_of plan)) all_done done_on
      (λ class. same_nothing _ _ (dropped facts (records_of plan) done all_done key more apart (λ c. []) (only_none facts key (lacking missed)) class)))
  left_state old between next was is kept (Some place) found goes =
      let st = found_at place found in
      let placed : is_placed_at heads place ≡ is_placed st.rec = ap (λ (o : Option Rec). option_map_or is_placed o false) (fact_there heads place (row_of st.rec) st.rec st.there refl) in
      state_left before heads (gone_of changes) (come_of changes) takers facts (turned done done facts (records_of plan)) done hold are s
      place st.rec all_done done_on (gone_of new) (turned all_done done facts (records_of plan)) st.there
      (apart st.rec.class st.rec (by_keyed st.rec.class st.rec key (sym st.class) (sym st.id)))
      (now_done st.rec st.class st.id) st.held
      (λ class nulls.
      ap (λ (l : List ClassChange). get_or (map (went nulls) l) class []) is
      ∙ at_set (went nulls) changes key.class old next (row_taking (is_placed st.rec) place nulls) within was
      (kept nulls ∙ goes.gone nulls ∙ ap (λ (b : Bool). went nulls old ++ row_taking b place nulls) placed) class
      ∙ ap (λ (rs : List (List Cell)). gone_of changes class nulls ++ rs) (adds st.rec place key.class class nulls st.class))
      (drops_one place st)

  -- the new record wasn't one of the facts
  differs : (place : Option ℕ) → FindsKey heads key place → (rec : Rec) → rec.class ≡ key.class → rec.id ≡ key.id → (IsSame heads place (Some rec) → ⊥) → Contains (facts rec.class) rec → ⊥
  differs None missed rec class id other there = lacking missed rec (subst (λ (c : ℕ). Contains (facts c) rec) class there) id
  differs (Some place) found rec class id other there =
      let st = found_at place found in
      let kept = kept_there (λ r. is_keyed rec.class r key) (facts rec.class) rec there (by_keyed rec.class rec key (sym class) (sym id)) in
      let one = subst (λ (rs : List Rec). Contains rs rec) (only_one facts key st.rec are st.class st.id st.fact rec.class) kept in
      let own : (st.rec.class == rec.class) ≡ true = (Decides-eqb st.rec.class rec.class).1 (st.class ∙ sym class) in
      let is : st.rec ≡ rec = one_cases st.rec rec (subst (λ (b : Bool). Contains (cond b (st.rec ∷ []) []) rec) own one) in
      other (fact_there heads place (row_of st.rec) st.rec st.there refl ∙ ap Some is)

  came_state : (old between next : ClassChange) → old ≡ get_or changes key.class old → new ≡ set changes key.class next → ((nulls : Bool) → came nulls between ≡ came nulls old)
      → (rec : Option Rec) → record_of plan key.class key.id ≡ rec → Enters heads later between next rec
      → ((r : Rec) → rec ≡ Some r → r.class ≡ key.class → r.id ≡ key.id → Contains (facts r.class) r → ⊥)
      → State before heads (gone_of new) (come_of changes) takers facts (turned all_done done facts (records_of plan)) all_done
      → State before later (gone_of new) (come_of new) takers facts (turned all_done all_done facts (records_of plan)) all_done
  came_state old between next was is kept None none same changed mid =
      let come_is : come_of new ≡ come_of changes =
      (λ i c n. (ap (λ (l : List ClassChange). get_or (map (came n) l) c []) is ∙ same_set (came n) changes key.class old next within was (ap (came n) (same.1) ∙ kept n) c) i) in
      subst (λ (h : Rows). State before h (gone_of new) (come_of new) takers facts (turned all_done all_done facts (records_of plan)) all_done) (sym (same.0))
      (subst (λ (g : Takers). State before heads (gone_of new) g takers facts (turned all_done all_done facts (records_of plan)) all_done) (sym come_is)
      (state_on before heads (gone_of new) (come_of changes) takers facts (turned all_done done facts (records_of plan)) all_done hold are mid
      (turned all_done all_done facts (records_of plan)) all_done (λ class r d. d)
      (λ class. same-sym _ _ (same_nothing _ _ (gained facts (records_of plan) done all_done key more apart (λ c. []) (only_none (records_of plan) key (plan_lacks plan key.class key.id none)) class)))))
  came_state old between next was is kept (Some rec) some comes changed mid =
      let has = plan_has plan key.class key.id rec some in
      state_came before heads (gone_of new) (come_of changes) takers facts (turned all_done done facts (records_of plan)) all_done hold are mid
      comes.place rec all_done (λ class r d. d) later (come_of new) (turned all_done all_done facts (records_of plan)) comes.fresh comes.heads_are
      (now_done rec has.classed has.numbered) (changed rec refl has.classed has.numbered)
      (λ class nulls.
      ap (λ (l : List ClassChange). get_or (map (came nulls) l) class []) is
      ∙ at_set (came nulls) changes key.class old next (row_taking (is_placed rec) comes.place nulls) within was
      (comes.come nulls ∙ ap (λ (rs : List (List Cell)). rs ++ row_taking (is_placed rec) comes.place nulls) (kept nulls)) class
      ∙ ap (λ (rs : List (List Cell)). come_of changes class nulls ++ rs) (adds rec comes.place key.class class nulls has.classed))
      (gains_one rec has)

  same_state : (place : Option ℕ) → FindsKey heads key place → (rec : Option Rec) → record_of plan key.class key.id ≡ rec → IsSame heads place rec
      → State before heads (gone_of changes) (come_of changes) takers facts (turned all_done all_done facts (records_of plan)) all_done
  same_state None found rec is same = absurd same
  same_state (Some place) found None is same = absurd same
  same_state (Some place) found (Some rec) is same =
      let st = found_at place found in
      let has = plan_has plan key.class key.id rec is in
      let same_rec : st.rec ≡ rec = some_is (sym (fact_there heads place (row_of st.rec) st.rec st.there refl) ∙ same) in
      state_on before heads (gone_of changes) (come_of changes) takers facts (turned done done facts (records_of plan)) done hold are s
      (turned all_done all_done facts (records_of plan)) all_done done_on
      (λ class.
      same_both _ _ _ (drops_one place st class)
      (subst (λ (r : Rec). AreSame (turned all_done all_done facts (records_of plan) class) (turned all_done done facts (records_of plan) class ++ of_class r class)) (sym same_rec) (gains_one rec has class)))

  -- one key more is done
  pub key_done : TurnsKey heads later changes new key (record_of plan key.class key.id)
      → State before later (gone_of new) (come_of new) takers facts (turned all_done all_done facts (records_of plan)) all_done
  key_done t =
      ⊎_elim
      (λ (same : IsSame heads t.place (record_of plan key.class key.id) × (later ≡ heads) × (new ≡ changes)).
      subst (λ (h : Rows). State before h (gone_of new) (come_of new) takers facts (turned all_done all_done facts (records_of plan)) all_done) (sym (same.1))
      (subst (λ (cs : List ClassChange). State before heads (gone_of cs) (come_of cs) takers facts (turned all_done all_done facts (records_of plan)) all_done) (sym (same.2))
      (same_state t.place t.finds (record_of plan key.class key.id) refl (same.0))))
      (λ (other : (IsSame heads t.place (record_of plan key.class key.id) → ⊥) × TurnsClass heads later changes new key.class t.place (record_of plan key.class key.id)).
      let c = other.1 in
      let u = c.turns in
      came_state c.old u.between c.next c.was c.is (leaves_come heads c.old u.between t.place u.leaves) (record_of plan key.class key.id) refl u.enters
      (λ r is class id. differs t.place t.finds r class id (λ e. other.0 (subst (λ (o : Option Rec). IsSame heads t.place o) (sym is) e)))
      (left_state c.old u.between c.next c.was c.is (enters_gone heads later u.between c.next (record_of plan key.class key.id) u.enters) t.place t.finds u.leaves))
      t.turns
