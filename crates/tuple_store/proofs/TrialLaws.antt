use Rattle.std.proofs.Common.{◌≡◌, ◌≢◌, ℕ, List, [], ◌∷◌, ◌++◌, Option, Some, None, Bool, true, false, ◌||◌, cond, IfSome, IfNone, MatchOption, ◌<◌, is_some, eqb, nat_cmp, refl, sym, ◌∙◌, ap, ⊎_elim}
use Rattle.std.proofs.lemmas.Bool.{cases_eq, ne_eqb, cases_Bool}
use Rattle.std.specs.FinMap as finmap
use Rattle.tuple_store.specs.declared.held.Held.{Held}
use Rattle.tuple_store.specs.declared.held.Mark.TheVariants.{Killed}
use Rattle.tuple_store.specs.Live.{slot_at}
use Rattle.tuple_store.specs.Numbers.{is_above, numbers_above}
use Rattle.tuple_store.specs.Log.{LogView, is_noted}
use Rattle.tuple_store.specs.Rows.{is_base, is_now, is_settled, mark_in, rows_of, shown}
use Rattle.tuple_store.specs.Trial.{IsLogged}
use Rattle.tuple_store.specs.View.{StoreView}
use Rattle.tuple_store.proofs.LogLaws.{is_noted-push, true_false}
use Rattle.tuple_store.proofs.RowLaws.{get-rows_of, is_some-shown, none_there, rows_of-settled, shown-marked}
use Rattle.tuple_store.proofs.NumberLaws.{numbers_above-first, numbers_above-none}

-- once a noted slot is settled, the others that aren't stand in what is left of the log
pub noted_less : {T : Type 0} (old new : List (Option (Held T))) (all numbers : List ℕ) (n : ℕ) → ((q : ℕ) → is_settled (slot_at old q) ≡ false → is_noted all q ≡ true) → all ≡ numbers ++ n ∷ [] → is_settled (slot_at new n) ≡ true → ((q : ℕ) → q ≢ n → slot_at new q ≡ slot_at old q) → (q : ℕ) → is_settled (slot_at new q) ≡ false → is_noted numbers q ≡ true
noted_less old new all numbers n noted is settled others q unsettled =
    ⊎_elim
    (λ at. absurd (true_false settled (rw (← at) unsettled)))
    (λ apart. sym (ap (λ (b : Bool). b || is_noted numbers q) (ne_eqb q n apart))
    ∙ sym (is_noted-push numbers n q)
    ∙ sym (ap (λ (ns : List ℕ). is_noted ns q) is)
    ∙ noted q (sym (ap is_settled (others q apart)) ∙ unsettled))
    (cases_eq q n)

-- where nothing is noted, all slots are settled
pub all_settled : {T : Type 0} (slots : List (Option (Held T))) (numbers : List ℕ) → ((q : ℕ) → is_settled (slot_at slots q) ≡ false → is_noted numbers q ≡ true) → numbers ≡ [] → (q : ℕ) → is_settled (slot_at slots q) ≡ true
all_settled slots numbers noted none q =
    ⊎_elim (λ yes. yes) (λ no. absurd (true_false (noted q no) (ap (λ (ns : List ℕ). is_noted ns q) none))) (cases_Bool (is_settled (slot_at slots q)))

-- between trials both contents are one
pub idle_rows : {T : Type 0} (slots : List (Option (Held T))) (log : LogView) (in_trial : Bool) → IsLogged slots log in_trial → in_trial ≡ false → rows_of is_base slots ≡ rows_of is_now slots
idle_rows slots log in_trial was closed = sym (rows_of-settled slots (all_settled slots log.numbers was.noted (was.idle closed)))

-- between trials, a change that leaves its slot settled leaves both contents one
pub closed_rows : {T : Type 0} (old new : List (Option (Held T))) (log : LogView) (in_trial : Bool) (n : ℕ) → IsLogged old log in_trial → in_trial ≡ false → is_settled (slot_at new n) ≡ true → ((q : ℕ) → q ≢ n → slot_at new q ≡ slot_at old q) → rows_of is_base new ≡ rows_of is_now new
closed_rows old new log in_trial n was closed settled others = sym (rows_of-settled new (λ q.
    ⊎_elim
    (λ (at : q ≡ n). rw at settled)
    (λ apart. ap is_settled (others q apart) ∙ all_settled old log.numbers was.noted (was.idle closed) q)
    (cases_eq q n)))

-- a live number's slot has a row
pub live_slot : {T : Type 0} (slots : List (Option (Held T))) (n : ℕ) → is_some (finmap.get (rows_of is_now slots) n) ≡ true → is_some (slot_at slots n) ≡ true
live_slot slots n live = is_some-shown is_now (slot_at slots n) (ap is_some (sym (get-rows_of is_now slots n)) ∙ live)

-- views with equal parts are equal
pub same_view : {T : Type 0} (a b c d : finmap.FinMap nat_cmp T) (is_open : Bool) → a ≡ c → b ≡ d → ◌≡◌ {A = StoreView T} record { now = a; base = b; is_open = is_open } record { now = c; base = d; is_open = is_open }
same_view a b c d is_open p q = λ i. record { now = p i; base = q i; is_open = is_open }

-- between trials, where all slots are settled and no slot got a row
pub idle_log : {T : Type 0} (old new : List (Option (Held T))) (before after : LogView) (in_trial : Bool) → IsLogged old before in_trial → ((q : ℕ) → is_settled (slot_at new q) ≡ true) → ((q : ℕ) → is_some (slot_at new q) ≡ true → is_some (slot_at old q) ≡ true) → after.numbers ≡ [] → after.room ≡ before.room → IsLogged new after false
idle_log old new before after in_trial was settled fewer none room = record {
  noted = λ n e. absurd (true_false (settled n) e);
  room = λ n e. rw room (was.room n (fewer n e));
  idle = λ e. none;
}

-- the row that a slot shows is a live one
pub live_row : {T : Type 0} (slots : List (Option (Held T))) (n : ℕ) (held : Held T) → slot_at slots n ≡ Some held → is_now held.mark ≡ true → Some held.row ≡ finmap.get (rows_of is_now slots) n
live_row slots n held at now =
    sym (get-rows_of is_now slots n ∙ ap (shown is_now) at ∙ ap (λ (b : Bool). cond b (Some held.row) None) now)

-- a killed row isn't live
pub killed_row : {T : Type 0} (slots : List (Option (Held T))) (n : ℕ) (held : Held T) → slot_at slots n ≡ Some held → is_now held.mark ≡ false → None ≡ finmap.get (rows_of is_now slots) n
killed_row slots n held at now =
    sym (get-rows_of is_now slots n ∙ ap (shown is_now) at ∙ ap (λ (b : Bool). cond b (Some held.row) None) now)

-- an empty slot has no live row
pub empty_row : {T : Type 0} (slots : List (Option (Held T))) (n : ℕ) → slot_at slots n ≡ None → None ≡ finmap.get (rows_of is_now slots) n
empty_row slots n at = sym (get-rows_of is_now slots n ∙ ap (shown is_now) at)

-- a live number's slot isn't marked as killed
pub live_mark : {T : Type 0} (slots : List (Option (Held T))) (n : ℕ) → is_some (finmap.get (rows_of is_now slots) n) ≡ true → mark_in (slot_at slots n) ≡ Some Killed → ⊥
live_mark slots n live marked =
    none_there (shown-marked is_now (slot_at slots n) Killed marked refl) (ap is_some (sym (get-rows_of is_now slots n)) ∙ live)

-- the least live number above `after`
pub next_number : {T : Type 0} (slots : List (Option (Held T))) (after r : Option ℕ) → IfSome r (λ n. is_above after n ≡ true) → IfSome r (λ n. is_some (shown is_now (slot_at slots n)) ≡ true) → IfSome r (λ n. (q : ℕ) → is_above after q ≡ true → q < n → shown is_now (slot_at slots q) ≡ None) → IfSome r (λ n. numbers_above after (rows_of is_now slots) ≡ n ∷ numbers_above (Some n) (rows_of is_now slots))
next_number slots after None above live least = tt
next_number slots after (Some n) above live least =
    numbers_above-first after n (rows_of is_now slots) above (ap is_some (get-rows_of is_now slots n) ∙ live) (λ q up lt. get-rows_of is_now slots q ∙ least q up lt)

-- no live number stands above `after`
pub no_number : {T : Type 0} (slots : List (Option (Held T))) (after r : Option ℕ) → IfNone r ((q : ℕ) → is_above after q ≡ true → shown is_now (slot_at slots q) ≡ None) → IfNone r (numbers_above after (rows_of is_now slots) ≡ [])
no_number slots after None none = numbers_above-none after (rows_of is_now slots) (λ q up. get-rows_of is_now slots q ∙ none q up)
no_number slots after (Some n) none = tt
