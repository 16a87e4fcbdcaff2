-- Counts that stay where a call succeeds, and are raised where it fails.
use Rattle.std.proofs.Common.{◌≡◌, ◌≤◌, ◌<◌, ℕ, Bool, List, Result, Ok, Err, IfOk, OnOk, OnErr, IsErrOf, ap, arith, refl}
use Rattle.std.proofs.lemmas.Bool.Decides.{nat_tests}
use Rattle.plan_ports.specs.Edge.{OpenFile, OpenFiles, after_return, after_write, faulted, file_state, files_state, lending}
use Rattle.plan_ports.specs.InMemory.{raised}
use Rattle.plan_ports.specs.Outside.{IsOpened, LaterShelf, Rose}

pub IfOk-all : {A E : Type 0} (P : A → Type 0) → ((a : A) → P a) → (r : Result A E) → IfOk r P
IfOk-all P all (Ok a) = all a
IfOk-all P all (Err e) = tt

pub OnErr-all : {A E : Type 0} (P : Type 0) → P → (r : Result A E) → OnErr r P
OnErr-all P all (Ok a) = tt
OnErr-all P all (Err e) = all

pub raised-later : (n : ℕ) → n ≤ raised n
raised-later n = grind (arith, nat_tests)

pub Rose-raised : (n : ℕ) → Rose n (raised n)
Rose-raised n = grind (arith, nat_tests)

-- what a call leaves that raises its count exactly where it fails
pub rose_from : {A E : Type 0} (old new : ℕ) (r : Result A E) (e : E) → OnErr r (new ≡ raised old) → IsErrOf r e → Rose old new
rose_from old new (Ok a) e rises failed = cc
rose_from old new (Err d) e rises failed = rw rises (Rose-raised old)

-- what a write leaves of the count of standard output
pub stall_from : {E : Type 0} (old new room : ℕ) (r : Result ℕ E)
    → IfOk r (λ n. new ≡ after_write n room old) → IfOk r (λ n. n ≡ 0 → 0 < room → Rose old new)
stall_from old new room (Ok n) counts =
    λ none some. rw counts (let rose : Rose old (after_write n room old) = stalled none some in rose)
  where
    stalled : n ≡ 0 → 0 < room → Rose old (after_write n room old)
    stalled none some = grind (arith, nat_tests)
stall_from old new room (Err e) counts = tt

pub written_later : {E : Type 0} (old new room : ℕ) (r : Result ℕ E)
    → IfOk r (λ n. new ≡ after_write n room old) → OnErr r (new ≡ raised old) → old ≤ new
written_later old new room (Ok n) counts rises = rw counts (after n)
  where
    after : (n : ℕ) → old ≤ after_write n room old
    after n = grind (arith, nat_tests)
written_later old new room (Err e) counts rises = rw rises (raised-later old)

-- what an open of real files gives, and leaves of the shelf
pub opened_from : {E : Type 0} (name : List ℕ) (shelf : OpenFiles) (input : Bool) (r : Result OpenFile E)
    → IfOk r (λ file. file ≡ record { is_input = input; faults = 0 })
    → IfOk r (λ file. IsOpened name (files_state shelf) (file_state file))
opened_from name shelf input (Ok file) is = record {
  tells = λ told. cc;
  holds = λ told. cc;
  sound = λ sound. cc;
  fresh = ap (λ f. f.faults) is;
}
opened_from name shelf input (Err e) is = tt

pub later_faulted : (f : OpenFiles) → LaterShelf (files_state f) (files_state (faulted f))
later_faulted f = record { same_tells = refl; same_bytes = refl; same_sound = refl; later = raised-later f.faults }

pub later_from : {A E : Type 0} (old new : OpenFiles) (r : Result A E)
    → OnOk r (new ≡ lending old) → OnErr r (new ≡ faulted old) → LaterShelf (files_state old) (files_state new)
later_from old new (Ok a) lends rises =
    rw lends (record { same_tells = refl; same_bytes = refl; same_sound = refl; later = omega arith })
later_from old new (Err e) lends rises = rw rises (later_faulted old)

-- what giving back leaves
pub later_returned : (faults : ℕ) (f : OpenFiles) → LaterShelf (files_state f) (files_state (after_return faults f))
later_returned faults f = record {
  same_tells = refl;
  same_bytes = refl;
  same_sound = refl;
  later = grind (arith, nat_tests);
}

pub returned_rose : (faults : ℕ) (f : OpenFiles) → 0 < faults → Rose f.faults (after_return faults f).faults
returned_rose faults f some = grind (arith, nat_tests)

pub returned_stays : (faults : ℕ) (f : OpenFiles) → faults ≡ 0 → (after_return faults f).faults ≡ f.faults
returned_stays faults f none = grind (arith, nat_tests)
