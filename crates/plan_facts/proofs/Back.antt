-- A record that is put back, and a fact that was made and is taken back.
use Rattle.std.proofs.Common.{◌≡◌, ◌==◌, ◌<◌, ◌≤◌, ◌+◌, ◌-◌, ◌∙◌, ℕ, ℤ, Bool, true, false, cond, Option, None, Some, IsSomeAnd, List, [], ◌∷◌, ◌++◌, zero, suc, length, take, set, map, get_or, slice_get, eqb, refl, sym, ap, subst, arith}
use Rattle.std.proofs.Math.Seq.{take-append_seam}
use Rattle.std.proofs.lemmas.List.{get_or-map, get_or-set_same, get_or_default, length-set, length_push, set-get_or, set-set}
use Rattle.plan_facts.specs.declared.record.Raw.{Raw}
use Rattle.plan_facts.specs.Plan.{PlanView, ClassView, no_class, class_of, fact_of, ids_in, is_live, missing_in, next_id_of, plan_with, record_with_id, unplaced_of, view_of, AreIncreasing, IsPlaceOf, IsPlan, IsRecordOf}
use Rattle.plan_facts.specs.PlanChanges.{with_class, with_fact, with_record}
use Rattle.plan_facts.specs.PlanBack.{record_like, with_raw, without_last, without_newest, WasMadeLast}
use Rattle.plan_facts.proofs.Added.{grown, grown_counts, with_fact_is}
use Rattle.plan_facts.proofs.Changed.{changed_sound, unplaced_of-changed}
use Rattle.plan_facts.proofs.Places.{at_record, changed_here, changed_none, increasing_head, increasing_tail, same_eqb}
use Rattle.plan_facts.proofs.Removed.{live_class}
use Rattle.plan_facts.proofs.Sound.{class_at, missing_in-le}

-- a list without the item that was pushed
pub push_back : {X : Type 0} (xs : List X) (x : X) → take (length (xs ++ x ∷ []) - 1) (xs ++ x ∷ []) ≡ xs
push_back xs x =
    let long : length (xs ++ x ∷ []) - 1 ≡ length xs = (let e = length_push xs x in omega arith) in
    ap (λ n. take n (xs ++ x ∷ [])) long ∙ take-append_seam xs (x ∷ [])

-- the class as it was before its last fact
last_gone : (plan : PlanView) (class : ℕ) (fields : List ℤ) (values : List (Option ℕ)) → without_last (grown plan class fields values) ≡ class_of plan class
last_gone plan class fields values =
    let old = class_of plan class in
    let facts : take (length (grown plan class fields values).facts - 1) (grown plan class fields values).facts ≡ old.facts = push_back old.facts _ in
    let greatest : (old.greatest + 1) - 1 ≡ old.greatest = omega arith in
    λ i. view_of old.fields old.ranges old.nullables (facts i) (greatest i)

-- a fact that was made and is taken back leaves the plan as it was
pub newest_gone : (before : PlanView) (class : ℕ) (fields : List ℤ) (values : List (Option ℕ)) → class < length before.classes → without_newest (with_fact before class fields values) class ≡ before
unfolding without_newest
newest_gone before class fields values within =
    let new = grown before class fields values in
    let back : without_last (get_or (set before.classes class new) class no_class) ≡ class_of before class = ap without_last (get_or-set_same before.classes class new no_class within) ∙ last_gone before class fields values in
    let classes : set (set before.classes class new) class (without_last (get_or (set before.classes class new) class no_class)) ≡ before.classes =
    set-set before.classes class new _ ∙ ap (set before.classes class) back ∙ set-get_or before.classes class no_class in
    let made : (before.made + 1) - 1 ≡ before.made = omega arith in
    let whole : plan_with (set (set before.classes class new) class (without_last (get_or (set before.classes class new) class no_class))) ((before.made + 1) - 1) ≡ before = λ i. plan_with (classes i) (made i) in
    ap (λ p. without_newest p class) (with_fact_is before class fields values) ∙ whole

-- the last one that was pushed
slice_get_push : {X : Type 0} (xs : List X) (x : X) → slice_get (xs ++ x ∷ []) (length (xs ++ x ∷ []) - 1) ≡ Some x
slice_get_push [] x =
    let e : length (x ∷ []) - 1 ≡ zero = omega arith in
    ap (slice_get (x ∷ [])) e
slice_get_push (y ∷ xs) x =
    let long = length_push xs x in
    let e : length (y ∷ (xs ++ x ∷ [])) - 1 ≡ suc (length (xs ++ x ∷ []) - 1) = omega arith in
    ap (slice_get (y ∷ (xs ++ x ∷ []))) e ∙ slice_get_push xs x

-- what taking the last record back in the table of its class gives
pub record WasTakenBack (plan : PlanView) (class missing : ℕ) (new : ClassView) : Type 0 where
  pub is : plan_with (set plan.classes class new) (plan.made - 1) ≡ without_newest plan class
  pub made : 1 ≤ plan.made
  pub sound : IsPlan (plan_with (set plan.classes class new) (plan.made - 1))
  pub counts : unplaced_of (plan_with (set plan.classes class new) (plan.made - 1)) + missing ≡ unplaced_of plan

-- the class whose fact was made last is there
pub last_class : (plan : PlanView) (class : ℕ) → WasMadeLast plan class → class < length plan.classes
last_class plan class last =
    let new = grown last.before class last.fields last.values in
    let is : plan ≡ plan_with (set last.before.classes class new) (last.before.made + 1) = last.is ∙ with_fact_is last.before class last.fields last.values in
    let long : length plan.classes ≡ length last.before.classes = ap (λ (p : PlanView). length p.classes) is ∙ length-set last.before.classes class new in
    let there = last.there in
    omega arith

-- the table of the class whose fact was made last
pub record IsLastTable (table : ClassView) : Type 0 where
  pub some : 0 < length table.facts
  pub made : 0 < table.greatest

-- the fact that was made last
abbrev newest : (plan : PlanView) (class : ℕ) → WasMadeLast plan class → Raw
newest plan class last = record { id = next_id_of last.before class; fields = last.fields; values = last.values; pinned = false }

pub last_table : (plan : PlanView) (class : ℕ) (table : ClassView) → WasMadeLast plan class → table ≡ get_or plan.classes class table → IsLastTable table
last_table plan class table last read =
    let old = last.before in
    let new = grown old class last.fields last.values in
    let is : plan ≡ plan_with (set old.classes class new) (old.made + 1) = last.is ∙ with_fact_is old class last.fields last.values in
    let same : table ≡ new = read ∙ ap (λ (p : PlanView). get_or p.classes class table) is ∙ get_or-set_same old.classes class new table last.there in
    let facts = ap (λ (v : ClassView). length v.facts) same in
    let greatest = ap (λ (v : ClassView). v.greatest) same in
    let more = length_push (class_of old class).facts (newest plan class last) in
    record { some = omega arith; made = omega arith }

pub was_taken_back : (plan : PlanView) (class missing : ℕ) (table new : ClassView) → WasMadeLast plan class → table ≡ get_or plan.classes class table → IsSomeAnd (slice_get table.facts (length table.facts - 1)) (λ raw. missing ≡ missing_in table.nullables raw.values) → new ≡ without_last table → WasTakenBack plan class missing new
unfolding without_newest
was_taken_back plan class missing table new last read counted is =
    let old = last.before in
    let grew = grown old class last.fields last.values in
    let there = last.there in
    let within = last_class plan class last in
    let by : plan ≡ plan_with (set old.classes class grew) (old.made + 1) = last.is ∙ with_fact_is old class last.fields last.values in
    let same : table ≡ class_of plan class = read ∙ get_or_default plan.classes class table no_class within in
    let grown_table : table ≡ grew = read ∙ ap (λ (p : PlanView). get_or p.classes class table) by ∙ get_or-set_same old.classes class grew table there in
    let after : plan_with (set plan.classes class new) (plan.made - 1) ≡ without_newest plan class = ap (λ (v : ClassView). plan_with (set plan.classes class v) (plan.made - 1)) (is ∙ ap without_last same) in
    let back : plan_with (set plan.classes class new) (plan.made - 1) ≡ old = after ∙ ap (λ p. without_newest p class) last.is ∙ newest_gone old class last.fields last.values there in
    let one : missing ≡ missing_in table.nullables last.values =
    at_record (λ (raw : Raw). missing ≡ missing_in table.nullables raw.values) (ap (λ (v : ClassView). slice_get v.facts (length v.facts - 1)) grown_table ∙ slice_get_push (class_of old class).facts (newest plan class last)) counted in
    let here : missing_in table.nullables last.values ≡ missing_in (class_of old class).nullables last.values = ap (λ (v : ClassView). missing_in v.nullables last.values) grown_table in
    let count = ap unplaced_of by in
    let more = grown_counts old class last.fields last.values there in
    let less = ap unplaced_of back in
    let made = ap (λ (p : PlanView). p.made) by in
    record { is = after; made = omega arith; sound = subst IsPlan (sym back) last.sound; counts = omega arith }

-- the record that is put, where the id is its own, else the one that stands
abbrev pub put_raw : Raw → Raw → Raw
put_raw raw was = cond (was.id == raw.id) (record_like raw was) was

-- what is put counts, whatever a change made of the record before
put_over : (raw was : Raw) (id : ℕ) (change : Raw → Raw) → raw.id ≡ id → ((r : Raw) → (change r).id ≡ r.id) → put_raw raw (cond (was.id == id) (change was) was) ≡ put_raw raw was
put_over raw was id change own same =
    subst (λ (n : ℕ). put_raw raw (cond (was.id == n) (change was) was) ≡ put_raw raw was) own
    (elim (eqb was.id raw.id) as (λ b. eqb was.id raw.id ≡ b → put_raw raw (cond b (change was) was) ≡ cond b (record_like raw was) was) [
      | true ↦ λ is.
          ap (λ (n : ℕ). cond (n == raw.id) (let r : Raw = record raw { id = n } in r) (change was)) (same was)
          ∙ ap (λ b. cond b (record_like raw was) (change was)) is
      | false ↦ λ is. ap (λ b. cond b (record_like raw was) was) is
    ] refl)

puts_over : (raw : Raw) (facts : List Raw) (id : ℕ) (change : Raw → Raw) → raw.id ≡ id → ((r : Raw) → (change r).id ≡ r.id) → map (put_raw raw) (map (λ r. cond (r.id == id) (change r) r) facts) ≡ map (put_raw raw) facts
puts_over raw [] id change own same = refl
puts_over raw (was ∷ facts) id change own same =
    λ i. put_over raw was id change own same i ∷ puts_over raw facts id change own same i

-- a class with its records put anew
abbrev pub with_facts : ClassView → List Raw → ClassView
with_facts view facts = record view { facts = facts }

-- a record that is put back counts, whatever a change made of it
pub restored_over : (plan : PlanView) (class id : ℕ) (change : Raw → Raw) (raw : Raw) → class < length plan.classes → raw.id ≡ id → ((r : Raw) → (change r).id ≡ r.id) → with_raw (with_class plan class (with_record (class_of plan class) id change)) class raw ≡ with_raw plan class raw
unfolding with_raw
restored_over plan class id change raw within own same =
    let view = with_record (class_of plan class) id change in
    ap (λ v. with_class (with_class plan class view) class (with_record v raw.id (record_like raw))) (get_or-set_same plan.classes class view no_class within)
    ∙ ap (λ classes. plan_with classes plan.made) (set-set plan.classes class view _)
    ∙ ap (λ facts. with_class plan class (with_facts (class_of plan class) facts)) (puts_over raw (class_of plan class).facts id change own same)

puts_itself : (raw : Raw) (facts : List Raw) → AreIncreasing (ids_in facts) → record_with_id raw.id facts ≡ Some raw → map (put_raw raw) facts ≡ facts
puts_itself raw [] up found = refl
puts_itself raw (first ∷ facts) up found =
    elim (eqb first.id raw.id) as (λ b. eqb first.id raw.id ≡ b → cond b (Some first) (record_with_id raw.id facts) ≡ Some raw → cond b (record_like raw first) first ∷ map (put_raw raw) facts ≡ first ∷ facts) [
      | true ↦ λ is found.
          let same : first ≡ raw = cc in
          let head : record_like raw first ≡ first = ap (λ (r : Raw). record_like r first) (sym same) in
          let rest = changed_none facts raw.id (record_like raw) (λ k d lt. let h = increasing_head first.id (ids_in facts) up k d lt in let e = same_eqb first.id raw.id is in omega arith) in
          λ i. head i ∷ rest i
      | false ↦ λ is found.
          let rest = puts_itself raw facts (increasing_tail first.id (ids_in facts) up) found in
          λ i. first ∷ rest i
    ] refl found

-- a record that is put back where it stands changes nothing
pub restored_itself : (plan : PlanView) (class : ℕ) (raw : Raw) → class < length plan.classes → IsPlan plan → fact_of plan class raw.id ≡ Some raw → with_raw plan class raw ≡ plan
unfolding with_raw
restored_itself plan class raw within sound found =
    ap (λ facts. with_class plan class (with_facts (class_of plan class) facts)) (puts_itself raw (class_of plan class).facts (class_at plan class sound within).increasing found)
    ∙ ap (λ classes. plan_with classes plan.made) (set-get_or plan.classes class no_class)

-- few values of a record are missing
pub few_missing : (plan : PlanView) (class : ℕ) (table : ClassView) (values : List (Option ℕ)) → class < length plan.classes → IsPlan plan → table ≡ get_or plan.classes class table → missing_in table.nullables values ≤ 2
few_missing plan class table values within sound read =
    let same : table ≡ class_of plan class = read ∙ get_or_default plan.classes class table no_class within in
    let bound = missing_in-le table.nullables values in
    let is = class_at plan class sound within in
    let long = ap (λ (v : ClassView). length v.nullables) same in
    let counted = is.nullables in
    let few = is.few_variables in
    omega arith

few_counted : (nullables : List Bool) (missing : ℕ) (found : Option Raw) → length nullables ≤ 2 → IsSomeAnd found (λ raw. missing ≡ missing_in nullables raw.values) → missing ≤ 2
few_counted nullables missing None few counted = absurd counted
few_counted nullables missing (Some raw) few counted = (let bound = missing_in-le nullables raw.values in omega (arith, counted))

-- few values of the last record are missing
pub few_last : (plan : PlanView) (class missing : ℕ) (table : ClassView) → class < length plan.classes → IsPlan plan → table ≡ get_or plan.classes class table → IsSomeAnd (slice_get table.facts (length table.facts - 1)) (λ raw. missing ≡ missing_in table.nullables raw.values) → missing ≤ 2
few_last plan class missing table within sound read counted =
    let same : table ≡ class_of plan class = read ∙ get_or_default plan.classes class table no_class within in
    let is = class_at plan class sound within in
    let long = ap (λ (v : ClassView). length v.nullables) same in
    let each = is.nullables in
    let few = is.few_variables in
    few_counted table.nullables missing (slice_get table.facts (length table.facts - 1)) (omega arith) counted

-- what putting a record back in the table of its class gives
pub record WasRestored (plan : PlanView) (class : ℕ) (raw was : Raw) (table new : ClassView) : Type 0 where
  pub is : with_class plan class new ≡ with_raw plan class raw
  pub sound : IsPlan (with_class plan class new)
  pub few : missing_in new.nullables was.values ≤ 2
  pub counts : unplaced_of (with_class plan class new) + missing_in new.nullables was.values ≡ unplaced_of plan + missing_in table.nullables raw.values

pub was_restored : (plan : PlanView) (class : ℕ) (raw was : Raw) (table new : ClassView) → IsPlan plan → table ≡ get_or plan.classes class table → is_live plan class raw.id ≡ true → IsRecordOf plan (class_of plan class) raw → record_with_id raw.id table.facts ≡ Some was → new ≡ with_record table raw.id (record_like raw) → WasRestored plan class raw was table new
unfolding with_raw
was_restored plan class raw was table new sound read live fits found is =
    let within = live_class plan class raw.id live in
    let same : table ≡ class_of plan class = read ∙ get_or_default plan.classes class table no_class within in
    let after : with_class plan class new ≡ with_raw plan class raw = ap (with_class plan class) (is ∙ ap (λ (v : ClassView). with_record v raw.id (record_like raw)) same) in
    let there : fact_of plan class raw.id ≡ Some was = sym (ap (λ (v : ClassView). record_with_id raw.id v.facts) same) ∙ found in
    let nullables : new.nullables ≡ table.nullables = ap (λ (v : ClassView). v.nullables) is in
    let own = ap (λ (v : ClassView). v.nullables) same in
    let counts = unplaced_of-changed plan class raw.id (record_like raw) was within sound there in
    let now = ap unplaced_of after in
    let one : missing_in new.nullables was.values ≡ missing_in (class_of plan class).nullables was.values = ap (λ (ns : List Bool). missing_in ns was.values) (nullables ∙ own) in
    let two : missing_in table.nullables raw.values ≡ missing_in (class_of plan class).nullables raw.values = ap (λ (ns : List Bool). missing_in ns raw.values) own in
    let three : missing_in new.nullables was.values ≡ missing_in table.nullables was.values = ap (λ (ns : List Bool). missing_in ns was.values) nullables in
    let few = few_missing plan class table was.values within sound read in
    record {
      is = after;
      sound = subst IsPlan (sym after) (changed_sound plan class raw.id (record_like raw) within sound (λ r. refl) (λ r h. record { fields = fits.fields; numbers = fits.numbers; values = fits.values }));
      few = omega arith;
      counts = omega arith;
    }

-- a record that is put at a place is put where its id stands
pub put_here : (facts : List Raw) (place : ℕ) (raw was : Raw) → AreIncreasing (ids_in facts) → IsPlaceOf facts raw.id place → was ≡ get_or facts place was → set facts place raw ≡ map (put_raw raw) facts
put_here facts place raw was up here read =
    let same : was.id ≡ raw.id = ap (λ (r : Raw). r.id) read ∙ sym (get_or-map (λ (r : Raw). r.id) facts place was 0 here.0) ∙ here.1 in
    let like : raw ≡ record_like raw was = ap (λ (n : ℕ). let r : Raw = record raw { id = n } in r) (sym same) in
    changed_here facts raw.id place (record_like raw) was raw up here read like

-- what stands at a place of a list
pub stands_at : {X : Type 0} (xs : List X) (k : ℕ) (x : X) → k < length xs → x ≡ get_or xs k x → slice_get xs k ≡ Some x
stands_at [] k x within read = absurd (omega (arith, within))
stands_at (y ∷ ys) zero x within read = ap (λ (z : _). Some z) (sym read)
stands_at (y ∷ ys) (suc k) x within read = stands_at ys k x (omega (arith, within)) read
