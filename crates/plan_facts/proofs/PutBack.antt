-- A fact that was removed and is put back.
use Rattle.std.proofs.Common.{◌≡◌, ◌==◌, ◌<◌, ◌+◌, ◌∙◌, ℕ, suc, Bool, true, false, cond, not, is_some, Bor, Option, Some, None, All, List, [], ◌∷◌, ◌++◌, length, map, filter, set, get_or, eqb, take, drop, refl, sym, ap, subst, arith}
use Rattle.std.specs.Prelude.{nat_lt}
use Rattle.std.specs.List.{insert, list_any}
use Rattle.std.specs.Option.{option_copied}
use Rattle.std.proofs.lemmas.Bool.Decides.{nat_tests}
use Rattle.std.proofs.lemmas.List.{get_or-map, get_or-set_same, get_or_default, length-map, length-set, map-set, set-get_or, set-set, take-map, drop-map, map-append}
use Rattle.std.proofs.lemmas.List.Edits.{length-insert}
use Rattle.std.proofs.lemmas.List.Elements.{All-filter, All-head, All-set, All-tail, All-weaker}
use Rattle.std.proofs.lemmas.List.Sums.{count_by-le-length, sum_by-cons}
use Rattle.std.proofs.lemmas.Slice.Zip.{AllZip-long}
use Rattle.plan_facts.specs.declared.record.Raw.{Raw}
use Rattle.plan_facts.specs.Plan.{ClassView, PlanView, class_of, ids_in, no_class, plan_with, record_with_id, AreIncreasing, IsClassOf, IsPlan, IsRecordOf}
use Rattle.plan_facts.specs.PlanBack.{IsRemoved, RemovalView, classes_put, holders_in, lower_than, record_holds, record_like, records_put, with_back, with_records}
use Rattle.plan_facts.specs.PlanChanges.{class_let_go, record_let_go, with_record, without_record}
use Rattle.plan_facts.proofs.Back.{put_raw, with_facts}
use Rattle.plan_facts.proofs.Gone.{removed_at}
use Rattle.plan_facts.proofs.Places.{changed_none, ids_in-changed, eqb_other, eqb_same, found_holds, increasing_head, increasing_tail, same_eqb}
use Rattle.plan_facts.proofs.Removed.{class_without, emptied, live_class, taken_out, values_counted, without_fact_is}
use Rattle.plan_facts.proofs.Sound.{class_at}
use Rattle.plan_facts.proofs.Spared.{no_holders, none_is, record_kept}

-- what stands behind a reference is there where the reference is
pub copied_some : {X : Type 0} (found : Option (Bor X)) → is_some (option_copied found) ≡ is_some found
copied_some None = refl
copied_some (Some x) = refl

-- where no record has the id, none is changed
pub absent_unchanged : (facts : List Raw) (id : ℕ) (change : Raw → Raw) → is_some (record_with_id id facts) ≡ false → map (λ raw. cond (raw.id == id) (change raw) raw) facts ≡ facts
absent_unchanged [] id change none = refl
absent_unchanged (first ∷ facts) id change none =
    elim (eqb first.id id) as (λ b. is_some (cond b (Some first) (record_with_id id facts)) ≡ false → cond b (change first) first ∷ map (λ raw. cond (raw.id == id) (change raw) raw) facts ≡ first ∷ facts) [
      | true ↦ λ is. absurd (let e : true ≡ false = is in cc)
      | false ↦ λ is. ap (λ (rest : List Raw). first ∷ rest) (absent_unchanged facts id change is)
    ] none

-- the first of records has the lowest id
above_first : (first : Raw) (facts : List Raw) → AreIncreasing (ids_in (first ∷ facts)) → All (λ raw. first.id < raw.id) facts
above_first first facts up k d within =
    let long = length-map facts (λ (raw : Raw). raw.id) in
    subst (λ (n : ℕ). first.id < n) (get_or-map (λ (raw : Raw). raw.id) facts k d 0 within) (increasing_head first.id (ids_in facts) up k 0 (omega arith))

-- a record with an id below all others stays
past_first : (first : Raw) (facts raws : List Raw) → All (λ raw. first.id < raw.id) raws → records_put (first ∷ facts) raws ≡ first ∷ records_put facts raws
past_first first facts [] above = refl
past_first first facts (raw ∷ raws) above =
    let head : first.id < raw.id = All-head (λ (r : Raw). first.id < r.id) raw raws above in
    ap (map (put_raw raw)) (past_first first facts raws (All-tail (λ (r : Raw). first.id < r.id) raw raws above))
    ∙ ap (λ (b : Bool). cond b (record_like raw first) first ∷ map (put_raw raw) (records_put facts raws)) (eqb_other first.id raw.id (omega arith))

-- a record is put over what it was made by letting a fact go
put_over_go : (go : Raw → Raw) (first : Raw) (facts : List Raw) → (go first).id ≡ first.id → AreIncreasing (ids_in (first ∷ facts)) → map (put_raw first) (go first ∷ facts) ≡ first ∷ facts
put_over_go go first facts same up =
    let head : put_raw first (go first) ≡ first =
    ap (λ (b : Bool). cond b (record_like first (go first)) (go first)) (eqb_same (go first).id first.id same)
    ∙ ap (λ (n : ℕ). let r : Raw = record first { id = n } in r) same in
    let rest = changed_none facts first.id (record_like first) (λ k d there. increasing_head first.id (ids_in facts) up k d there) in
    λ i. head i ∷ rest i

-- the records that held a fact are put back
records_back : (class id : ℕ) (ranges : List ℕ) (facts : List Raw) → AreIncreasing (ids_in facts) → All (λ raw. length raw.values ≡ length ranges) facts → records_put (map (record_let_go class id ranges) facts) (filter (record_holds class id ranges) facts) ≡ facts
records_back class id ranges [] up long = refl
records_back class id ranges (first ∷ facts) up long =
    let P : Raw → Type 0 = λ (raw : Raw). length raw.values ≡ length ranges in
    let go : Raw → Raw = record_let_go class id ranges in
    let held = filter (record_holds class id ranges) facts in
    let above = All-filter (record_holds class id ranges) (λ (raw : Raw). first.id < raw.id) facts (above_first first facts up) in
    let rest = records_back class id ranges facts (increasing_tail first.id (ids_in facts) up) (All-tail P first facts long) in
    let past : records_put (go first ∷ map go facts) held ≡ go first ∷ facts = past_first (go first) (map go facts) held above ∙ ap (λ (raws : List Raw). go first ∷ raws) rest in
    elim (record_holds class id ranges first) as (λ b. record_holds class id ranges first ≡ b → records_put (go first ∷ map go facts) (cond b (first ∷ held) held) ≡ first ∷ facts) [
      | true ↦ λ is. ap (map (put_raw first)) past ∙ put_over_go go first facts refl up
      | false ↦ λ is. past ∙ ap (λ (raw : Raw). raw ∷ facts) (record_kept class id ranges first (All-head P first facts long) is)
    ] refl

-- the records of each class that held a fact are put back
classes_back : (class id : ℕ) (views : List ClassView) → All (λ view. AreIncreasing (ids_in view.facts)) views → All (λ view. All (λ raw. length raw.values ≡ length view.ranges) view.facts) views → classes_put (map (class_let_go class id) views) (map (holders_in class id) views) ≡ views
classes_back class id [] up long = refl
classes_back class id (view ∷ views) up long =
    let P : ClassView → Type 0 = λ (v : ClassView). AreIncreasing (ids_in v.facts) in
    let Q : ClassView → Type 0 = λ (v : ClassView). All (λ raw. length raw.values ≡ length v.ranges) v.facts in
    let one = records_back class id view.ranges view.facts (All-head P view views up) (All-head Q view views long) in
    let rest = classes_back class id views (All-tail P view views up) (All-tail Q view views long) in
    λ i. with_facts view (one i) ∷ rest i

-- none of some ids is lower than one below all of them
none_lower : (ids : List ℕ) (id : ℕ) → ((k d : ℕ) → k < length ids → id < get_or ids k d) → lower_than id ids ≡ 0
none_lower [] id above = refl
none_lower (first ∷ ids) id above =
    let head : id < first = above 0 0 (omega arith) in
    let rest = none_lower ids id (λ k d within. above (suc k) d (omega arith)) in
    let low : nat_lt first id ≡ false = grind (arith, nat_tests) in
    let one : cond {A = ℕ} (nat_lt first id) 1 0 ≡ 0 = ap (λ (b : Bool). cond {A = ℕ} b 1 0) low in
    let more = sum_by-cons (λ (n : ℕ). cond (nat_lt n id) 1 0) first ids in
    omega arith

-- a lower id in front is one more
one_lower : (first id : ℕ) (ids : List ℕ) → first < id → lower_than id (first ∷ ids) ≡ suc (lower_than id ids)
one_lower first id ids below =
    let low : nat_lt first id ≡ true = grind (arith, nat_tests) in
    let one : cond {A = ℕ} (nat_lt first id) 1 0 ≡ 1 = ap (λ (b : Bool). cond {A = ℕ} b 1 0) low in
    let more = sum_by-cons (λ (n : ℕ). cond (nat_lt n id) 1 0) first ids in
    omega arith

-- the records but for the one with an id
abbrev others : ℕ → List Raw → List Raw
others id facts = filter (λ raw. not (raw.id == id)) facts

-- a record that was taken out is put back where it was
inserted_back : (facts : List Raw) (raw : Raw) (id : ℕ) → raw.id ≡ id → AreIncreasing (ids_in facts) → record_with_id id facts ≡ Some raw → insert (others id facts) (lower_than id (ids_in (others id facts))) raw ≡ facts
inserted_back [] raw id own up found = absurd (let e : None ≡ Some raw = found in cc)
inserted_back (first ∷ facts) raw id own up found =
    let rest = others id facts in
    elim (eqb first.id id) as (λ b. eqb first.id id ≡ b → cond b (Some first) (record_with_id id facts) ≡ Some raw → insert (cond (not b) (first ∷ rest) rest) (lower_than id (ids_in (cond (not b) (first ∷ rest) rest))) raw ≡ first ∷ facts) [
      | true ↦ λ is here.
          let same : first ≡ raw = cc in
          let at : first.id ≡ id = same_eqb first.id id is in
          let whole : rest ≡ facts = sym (removed_at (first ∷ facts) 0 id up (omega arith) at ∙ ap (λ (b : Bool). cond (not b) (first ∷ rest) rest) is) in
          let none = none_lower (ids_in facts) id (λ k d there. let h = increasing_head first.id (ids_in facts) up k d there in omega arith) in
          ap (λ (raws : List Raw). insert raws (lower_than id (ids_in raws)) raw) whole ∙ ap (λ (n : ℕ). insert facts n raw) none ∙ ap (λ (r : Raw). r ∷ facts) (sym same)
      | false ↦ λ is there.
          let below : first.id < raw.id = found_holds (λ (r : Raw). first.id < r.id) facts id raw (above_first first facts up) there in
          let count = one_lower first.id id (ids_in rest) (omega arith) in
          ap (λ (n : ℕ). insert (first ∷ rest) n raw) count ∙ ap (λ (raws : List Raw). first ∷ raws) (inserted_back facts raw id own (increasing_tail first.id (ids_in facts) up) there)
    ] refl found

-- the ids of records with one more among them
pub ids_in-insert : (facts : List Raw) (place : ℕ) (raw : Raw) → insert (ids_in facts) place raw.id ≡ ids_in (insert facts place raw)
ids_in-insert facts place raw =
    let id = λ (r : Raw). r.id in
    (λ i. take-map id place facts i ++ raw.id ∷ drop-map id place facts i) ∙ sym (map-append id (take place facts) (raw ∷ drop place facts))

-- records that are put in the places of others have their ids
pub ids_in-put : (facts raws : List Raw) → ids_in (records_put facts raws) ≡ ids_in facts
ids_in-put facts [] = refl
ids_in-put facts (raw ∷ raws) = ids_in-changed (records_put facts raws) raw.id (record_like raw) (λ r. refl) ∙ ids_in-put facts raws

-- the last of some records may be put first
last_put : (facts raws : List Raw) (raw : Raw) → records_put facts (raws ++ raw ∷ []) ≡ records_put (map (put_raw raw) facts) raws
last_put facts [] raw = refl
last_put facts (first ∷ raws) raw = ap (map (put_raw first)) (last_put facts raws raw)

pub last_record : (view : ClassView) (raws : List Raw) (raw : Raw) → with_records view (raws ++ raw ∷ []) ≡ with_records (with_record view raw.id (record_like raw)) raws
last_record view raws raw = ap (with_facts view) (last_put view.facts raws raw)

-- classes in which nothing is put stay
pub classes_none : (views : List ClassView) → classes_put views [] ≡ views
classes_none [] = refl
classes_none (view ∷ views) = refl

-- the records of the last class may be put first
pub last_class_put : (views : List ClassView) (held : List (List Raw)) (raws : List Raw) (d : ClassView) → length held < length views → classes_put views (held ++ raws ∷ []) ≡ classes_put (set views (length held) (with_records (get_or views (length held) d) raws)) held
last_class_put [] held raws d few = absurd (omega arith)
last_class_put (view ∷ views) [] raws d few = ap (λ (vs : List ClassView). with_records view raws ∷ vs) (classes_none views)
last_class_put (view ∷ views) (first ∷ held) raws d few = ap (λ (vs : List ClassView). with_records view first ∷ vs) (last_class_put views held raws d (omega arith))

-- what was found under an id has it
pub found_id : (facts : List Raw) (id : ℕ) (raw : Raw) → record_with_id id facts ≡ Some raw → raw.id ≡ id
found_id [] id raw found = absurd (let e : None ≡ Some raw = found in cc)
found_id (first ∷ facts) id raw found =
    elim (eqb first.id id) as (λ b. eqb first.id id ≡ b → cond b (Some first) (record_with_id id facts) ≡ Some raw → raw.id ≡ id) [
      | true ↦ λ is here. (let same : first ≡ raw = cc in ap (λ (r : Raw). r.id) (sym same) ∙ same_eqb first.id id is)
      | false ↦ λ is there. found_id facts id raw there
    ] refl found

-- no variable of a class has the class itself for its values
own_range : (plan : PlanView) (class : ℕ) → class < length plan.classes → IsPlan plan → list_any (λ range. range == class) (class_of plan class).ranges ≡ false
own_range plan class within sound =
    let ranges = (class_of plan class).ranges in
    none_is ranges class (λ k d there same.
    let plain = ((class_at plan class sound within).ranges k d there).plain in
    let none : ranges ≡ [] = ap (λ (n : ℕ). (class_of plan n).ranges) (sym same) ∙ plain in
    let long = ap (λ (rs : List ℕ). length rs) none in
    omega arith)

-- the records that hold a fact are the same once that is taken out
same_holders : (plan : PlanView) (class id : ℕ) → class < length plan.classes → IsPlan plan → map (holders_in class id) (taken_out plan class id).classes ≡ map (holders_in class id) plan.classes
same_holders plan class id within sound =
    let view = class_of plan class in
    let rest = without_record view id in
    let held = map (holders_in class id) plan.classes in
    let none = own_range plan class within sound in
    let here : get_or held class [] ≡ holders_in class id rest = get_or-map (holders_in class id) plan.classes class no_class [] within ∙ no_holders class id view.ranges view.facts none ∙ sym (no_holders class id view.ranges rest.facts none) in
    map-set (holders_in class id) plan.classes class rest ∙ ap (set held class) (sym here) ∙ set-get_or held class []

-- each record of a plan has a value for each variable
pub values_long : (plan : PlanView) → IsPlan plan → All (λ view. All (λ raw. length raw.values ≡ length view.ranges) view.facts) plan.classes
values_long plan sound =
    All-weaker (IsClassOf plan) (λ view. All (λ raw. length raw.values ≡ length view.ranges) view.facts) (λ view is. All-weaker (IsRecordOf plan view) (λ raw. length raw.values ≡ length view.ranges) (λ raw fits. AllZip-long _ _ _ fits.values) view.facts is.records) plan.classes sound.classes

-- the ids of each class of a plan increase
pub all_increasing : (plan : PlanView) → IsPlan plan → All (λ view. AreIncreasing (ids_in view.facts)) plan.classes
all_increasing plan sound = All-weaker (IsClassOf plan) (λ view. AreIncreasing (ids_in view.facts)) (λ view is. is.increasing) plan.classes sound.classes

-- the classes as they stand once the records that held the fact are put back
holders_back : (plan : PlanView) (class id : ℕ) → class < length plan.classes → IsPlan plan → classes_put (emptied plan class id).classes (map (holders_in class id) plan.classes) ≡ (taken_out plan class id).classes
holders_back plan class id within sound =
    let P : ClassView → Type 0 = λ (view : ClassView). AreIncreasing (ids_in view.facts) in
    let rest = taken_out plan class id in
    let up = All-set P plan.classes class (without_record (class_of plan class) id) ((class_without plan (class_of plan class) id (class_at plan class sound within)).increasing) (all_increasing plan sound) in
    ap (classes_put (emptied plan class id).classes) (sym (same_holders plan class id within sound))
    ∙ classes_back class id rest.classes up (values_counted plan class id within sound)

-- there is a list of holders for each class
pub all_held : (before now : PlanView) (removal : RemovalView) → IsRemoved removal before now → length removal.held ≡ length now.classes
all_held before now removal removed =
    let class = removal.class in
    let id = removed.id in
    let after = removed.is ∙ without_fact_is before class id in
    let held = ap (λ (lists : List (List Raw)). length lists) removed.puts.held ∙ length-map before.classes (holders_in class id) in
    let count = ap (λ (plan : PlanView). length plan.classes) after ∙ length-map (taken_out before class id).classes (class_let_go class id) ∙ length-set before.classes class (without_record (class_of before class) id) in
    held ∙ sym count

-- what putting the records back that held a fact, and then its own, gives
pub record WasPutBack (before now : PlanView) (removal : RemovalView) (tables : List ClassView) : Type 0 where
  pub there : removal.class < length tables
  pub room : length (get_or tables removal.class no_class).facts < removal.room
  pub is : plan_with (set tables removal.class (with_back (get_or tables removal.class no_class) removal.raw)) now.made ≡ before

pub was_put_back : (before now : PlanView) (removal : RemovalView) (tables : List ClassView) → IsRemoved removal before now → tables ≡ classes_put now.classes removal.held → WasPutBack before now removal tables
was_put_back before now removal tables removed is =
    let class = removal.class in
    let raw = removal.raw in
    let id = removed.id in
    let sound = removed.sound in
    let view = class_of before class in
    let rest = without_record view id in
    let within : class < length before.classes = live_class before class id (ap (λ (found : Option Raw). is_some found) removed.puts.found) in
    let own = found_id view.facts id raw removed.puts.found in
    let after : now ≡ emptied before class id = removed.is ∙ without_fact_is before class id in
    let all : tables ≡ set before.classes class rest =
    is ∙ (λ i. classes_put (after i).classes (removed.puts.held i)) ∙ holders_back before class id within sound in
    let count = ap (λ (ts : List ClassView). length ts) all ∙ length-set before.classes class rest in
    let here : get_or tables class no_class ≡ rest = ap (λ (ts : List ClassView). get_or ts class no_class) all ∙ get_or-set_same before.classes class rest no_class within in
    let facts = inserted_back view.facts raw id own (class_at before class sound within).increasing removed.puts.found in
    let back : with_back rest raw ≡ view = ap (λ (n : ℕ). with_facts view (insert rest.facts (lower_than n (ids_in rest.facts)) raw)) own ∙ ap (with_facts view) facts in
    let few = count_by-le-length (λ (n : ℕ). nat_lt n id) (ids_in rest.facts) in
    let long = length-map rest.facts (λ (r : Raw). r.id) in
    let more = length-insert rest.facts (lower_than id (ids_in rest.facts)) raw (omega arith) in
    let whole = ap (λ (fs : List Raw). length fs) facts in
    let room = removed.puts.room in
    let same = ap (λ (v : ClassView). length v.facts) here in
    record {
      there = omega arith;
      room = omega arith;
      is = (λ i. plan_with (set (all i) class (with_back (here i) raw)) (after i).made)
          ∙ ap (λ (v : ClassView). plan_with (set (set before.classes class rest) class v) before.made) back
          ∙ ap (λ (views : List ClassView). plan_with views before.made) (set-set before.classes class rest view ∙ set-get_or before.classes class no_class);
    }

-- what is put back is the plan as it was
pub back_again : (before now : PlanView) (removal : RemovalView) (tables : List ClassView) (table new : ClassView) → IsRemoved removal before now → tables ≡ classes_put now.classes removal.held → table ≡ get_or tables removal.class table → new ≡ with_back table removal.raw → plan_with (set tables removal.class new) now.made ≡ before
back_again before now removal tables table new removed is read put =
    let done = was_put_back before now removal tables removed is in
    let same : table ≡ get_or tables removal.class no_class = read ∙ get_or_default tables removal.class table no_class done.there in
    ap (λ (view : ClassView). plan_with (set tables removal.class view) now.made) (put ∙ ap (λ (view : ClassView). with_back view removal.raw) same) ∙ done.is

-- there is room for the record in the table of its class
pub room_there : (before now : PlanView) (removal : RemovalView) (tables : List ClassView) (table : ClassView) → IsRemoved removal before now → tables ≡ classes_put now.classes removal.held → table ≡ get_or tables removal.class table → length table.facts < removal.room
room_there before now removal tables table removed is read =
    let done = was_put_back before now removal tables removed is in
    let same : table ≡ get_or tables removal.class no_class = read ∙ get_or_default tables removal.class table no_class done.there in
    let long = ap (λ (view : ClassView). length view.facts) same in
    let room = done.room in
    omega arith

-- what is removed, by the parts of what puts it back and of the plan
pub same_removed : (removal view : RemovalView) (plan now : PlanView) → removal ≡ view → plan ≡ now → (before : PlanView) → IsRemoved view before now → IsRemoved removal before plan
same_removed removal view plan now parts same before removed =
    subst (λ (p : PlanView). IsRemoved removal before p) (sym same) (subst (λ (r : RemovalView). IsRemoved r before now) (sym parts) removed)
