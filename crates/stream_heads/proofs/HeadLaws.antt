-- Heads: each live place means the row of one record.
use Rattle.std.proofs.Common.{◌≡◌, ◌≤◌, ◌+◌, ◌∷◌, ◌++◌, ◌<◌, ◌∙◌, ℕ, List, [], Option, Some, None, true, false, length, length-append, take, get_or, refl, ap, sym, arith}
use Rattle.std.specs.Prelude.{Err, IfOk, Ok, OnErr, Result, unwrap_or}
use Rattle.std.specs.List.{flat_map}
use Rattle.std.specs.FinMap as finmap
use Rattle.std.specs.Ordering.{nat_cmp}
use Rattle.std.proofs.lemmas.Grind.{flat_map-append}
use Rattle.std.proofs.lemmas.List.{append-nil, take_more}
use Rattle.plan_facts.specs.declared.record.Rec.{Rec}
use Rattle.plan_rules.specs.declared.row.Part.{Part}
use Rattle.plan_rules.specs.Rows.{row_of}
use Rattle.tuple_store.specs.View.{StoreView}
use Rattle.tuple_store.proofs.MapLaws.{each_in, each_out}
use Rattle.stream_heads.specs.declared.cells.Cell.{Cell}
use Rattle.stream_heads.specs.declared.cells.Cell.TheVariants as cell
use Rattle.stream_heads.specs.Meant.{AreHeads, KeepsHeads, Rows, parts_at, record_in}
use Rattle.stream_heads.specs.Standing.{KeepsBase}

none_some : {X : Type 0} {x : X} → None ≡ Some x → ⊥
none_some e = cc

-- the row of a place has one part
pub one_part : (heads : Rows) → AreHeads heads → (n : ℕ) (row : List Part) → finmap.get heads n ≡ Some row → length row ≡ 1
one_part heads are n row is = ap length (are n row is)

few_of : (heads : Rows) → AreHeads heads → (n : ℕ) (o : Option (List Part)) → finmap.get heads n ≡ o → length (unwrap_or o []) ≤ 1
few_of heads are n None is = omega arith
few_of heads are n (Some row) is = omega (arith, one_part heads are n row is)

-- a cell means at most one part
pub few_parts : (heads : Rows) → AreHeads heads → (c : Cell) → length (parts_at heads c) ≤ 1
few_parts heads are (cell.Place n) = few_of heads are n (finmap.get heads n) refl
few_parts heads are (cell.Num n) = omega arith

pub are_none : (heads : Rows) → heads ≡ finmap.empty → AreHeads heads
are_none heads e n row is = absurd (none_some (sym (ap (λ (m : Rows). finmap.get m n) e ∙ finmap.get-empty nat_cmp n) ∙ is))

pub heads_new : (heads : StoreView (List Part)) → heads ≡ record { now = finmap.empty; base = finmap.empty; is_open = false } → KeepsHeads heads
heads_new heads e = record {
  now = are_none heads.now (ap (λ (h : StoreView (List Part)). h.now) e);
  base = λ o. are_none heads.base (ap (λ (h : StoreView (List Part)). h.base) e);
}

base_kept : (old new : StoreView (List Part)) → KeepsHeads old → KeepsBase old new → new.is_open ≡ true → AreHeads new.base
base_kept old new are keeps is =
    let was : old.is_open ≡ true = sym keeps.opened ∙ is in
    rw (keeps.base was) (are.base was)

pub heads_more : (old new : StoreView (List Part)) (n : ℕ) (rec : Rec) → KeepsHeads old → new.now ≡ finmap.insert old.now n (row_of rec) → KeepsBase old new → KeepsHeads new
heads_more old new n rec are is keeps = record {
  now = each_in old.now new.now n (λ k row. row ≡ row_of (record_in row)) (row_of rec) is refl are.now;
  base = base_kept old new are keeps;
}

pub heads_less : (old new : StoreView (List Part)) (n : ℕ) → KeepsHeads old → new.now ≡ finmap.remove old.now n → KeepsBase old new → KeepsHeads new
heads_less old new n are is keeps = record {
  now = each_out old.now new.now n (λ k row. row ≡ row_of (record_in row)) is are.now;
  base = base_kept old new are keeps;
}

pub heads_same : (old new : StoreView (List Part)) → KeepsHeads old → new.now ≡ old.now → KeepsBase old new → KeepsHeads new
heads_same old new are is keeps = record {
  now = rw is are.now;
  base = base_kept old new are keeps;
}

-- the parts of one cell more
pub parts_more : (heads : Rows) (cells : List Cell) (i : ℕ) (d : Cell) (so_far after : List Part) → i < length cells
    → so_far ≡ flat_map (parts_at heads) (take i cells) → after ≡ so_far ++ parts_at heads (get_or cells i d) → after ≡ flat_map (parts_at heads) (take (i + 1) cells)
parts_more heads cells i d so_far after within e more =
    more ∙ ap (λ (ps : List Part). ps ++ parts_at heads (get_or cells i d)) e
    ∙ sym (ap (flat_map (parts_at heads)) (take_more cells i d within) ∙ flat_map-append (parts_at heads) (take i cells) (get_or cells i d ∷ []) ∙ ap (λ (ps : List Part). flat_map (parts_at heads) (take i cells) ++ ps) (append-nil (parts_at heads (get_or cells i d))))

-- what holds of heads into which a row was taken, or wasn't for want of memory
pub heads_came : {E : Type 0} (old new : StoreView (List Part)) (rec : Rec) (row : List Part) (taken : Result ℕ E) → KeepsHeads old → row ≡ row_of rec
    → IfOk taken (λ n. new.now ≡ finmap.insert old.now n row) → OnErr taken (new.now ≡ old.now) → KeepsBase old new → KeepsHeads new
heads_came old new rec row (Ok n) are is more same keeps = heads_more old new n rec are (more ∙ ap (finmap.insert old.now n) is) keeps
heads_came old new rec row (Err e) are is more same keeps = heads_same old new are same keeps

-- one cell more, and at most one part more
pub few_more : (heads : Rows) → AreHeads heads → (c : Cell) (so_far after : List Part) (i : ℕ) → length so_far ≤ i → after ≡ so_far ++ parts_at heads c → length after ≤ i + 1
few_more heads are c so_far after i few is =
    let a = few_parts heads are c in
    let b : length after ≡ length so_far + length (parts_at heads c) = ap length is ∙ length-append so_far (parts_at heads c) in
    omega (arith, a, b, few)
