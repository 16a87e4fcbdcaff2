-- Rows of one cell that stand for records that take part.
use Rattle.std.proofs.Common.{◌≡◌, ◌∙◌, ◌&&◌, ⊎_elim, ℕ, List, [], ◌∷◌, ◌++◌, Bool, true, false, Option, Some, None, is_some, length, map, refl, sym, ap, arith}
use Rattle.std.specs.Prelude.{All}
use Rattle.std.specs.List.{Contains, list_all}
use Rattle.std.specs.FinMap as finmap
use Rattle.std.proofs.lemmas.List.{append-nil}
use Rattle.std.proofs.lemmas.List.Elements.{All-contains, All-cons, All-nil}
use Rattle.plan_facts.specs.declared.record.Rec.{Rec}
use Rattle.plan_rules.specs.declared.row.Part.{Part}
use Rattle.plan_rules.specs.declared.row.Part.TheVariants.{Num}
use Rattle.plan_rules.specs.Bags.{AreDifferent}
use Rattle.plan_rules.specs.Rows as rows
use Rattle.plan_rules.specs.Rows.{Facts, is_placed, row_of}
use Rattle.plan_rules.proofs.RowEquality.{rec_decides, same_rec}
use Rattle.plan_rules.proofs.Sums.{same-sym}
use Rattle.stream_heads.specs.declared.cells.Cell.{Cell}
use Rattle.stream_heads.specs.declared.cells.Cell.TheVariants as cell
use Rattle.stream_heads.specs.Meant.{Extends, IsOneRecord, Rows, is_live, record_at, row_at}
use Rattle.head_changes.specs.Takers.{AreFacts, AreRows, HeadsHold, Takers, takes}
use Rattle.head_changes.proofs.Lists.{first_or_rest, first_there, kept_there, none_there, rest_there, same_there, there_kept}

-- the row is the place of a record of this class that takes part
pub record IsTaker (heads : Rows) (class : ℕ) (nulls : Bool) (row : List Cell) : Type 0 where
  pub place : ℕ
  pub rec : Rec
  pub is : row ≡ cell.Place place ∷ []
  pub there : finmap.get heads place ≡ Some (row_of rec)
  pub classed : rec.class ≡ class
  pub taken : takes nulls rec ≡ true

-- the record that a live place means
pub means_rec : (heads : Rows) (place : ℕ) (rec : Rec) → finmap.get heads place ≡ Some (row_of rec) → row_at heads (cell.Place place ∷ []) ≡ row_of rec
means_rec heads place rec there = rw there refl

module _ {heads : Rows} {class : ℕ} {nulls : Bool} {row : List Cell} (t : IsTaker heads class nulls row) where
  pub taker_means : row_at heads row ≡ row_of t.rec
  taker_means = rw (t.is) (means_rec heads t.place t.rec t.there)

  pub taker_rec : record_at heads row ≡ t.rec
  taker_rec = rw taker_means refl

  pub taker_one : IsOneRecord heads row
  taker_one = record { single = ap length t.is; means = taker_means ∙ ap row_of (sym taker_rec) }

  pub taker_live : list_all (is_live heads) row ≡ true
  taker_live = rw (t.is, t.there) refl

  pub taker_stays : (later : Rows) → Extends heads later → IsTaker later class nulls row
  taker_stays later e = record {
    place = t.place;
    rec = t.rec;
    is = t.is;
    there = e t.place (ap is_some t.there) ∙ t.there;
    classed = t.classed;
    taken = t.taken;
  }

-- a row that stays means the same record
pub rec_stays : {heads : Rows} {class : ℕ} {nulls : Bool} {row : List Cell} → IsTaker heads class nulls row → (later : Rows) → Extends heads later → record_at later row ≡ record_at heads row
unfolding taker_stays
rec_stays t later e = taker_rec (taker_stays t later e) ∙ sym (taker_rec t)

pub mapped_there : {X Y : Type 0} (f : X → Y) (xs : List X) (x : X) → Contains xs x → Contains (map f xs) (f x)
mapped_there f [] x there = absurd (none_there x there)
mapped_there f (y ∷ xs) x there =
    ⊎_elim (λ (same : y ≡ x). rw (← same) (first_there (f y) (map f xs))) (λ later. rest_there (f x) (f y) (map f xs) (mapped_there f xs x later)) (first_or_rest y xs x there)

-- a member that something was made of
pub record MadeOf {X Y : Type 0} (f : X → Y) (xs : List X) (y : Y) : Type 0 where
  pub from : X
  pub there : Contains xs from
  pub is : f from ≡ y

pub there_mapped : {X Y : Type 0} (f : X → Y) (xs : List X) (y : Y) → Contains (map f xs) y → MadeOf f xs y
there_mapped f [] y there = absurd (none_there y there)
there_mapped f (x ∷ xs) y there =
    ⊎_elim (λ (same : f x ≡ y). record { from = x; there = first_there x xs; is = same })
    (λ later. let m = there_mapped f xs y later in record { from = m.from; there = rest_there m.from x xs m.there; is = m.is })
    (first_or_rest (f x) (map f xs) y there)

and-first : (a b : Bool) → (a && b) ≡ true → a ≡ true
and-first true b t = refl
and-first false b t = t

and-second : (a b : Bool) → (a && b) ≡ true → b ≡ true
and-second true b t = t
and-second false b t = absurd (no_true t) where
  no_true : false ≡ true → ⊥
  no_true e = cc

pub all_there : {X : Type 0} (p : X → Bool) (xs : List X) (x : X) → list_all p xs ≡ true → Contains xs x → p x ≡ true
all_there p [] x all there = absurd (none_there x there)
all_there p (y ∷ xs) x all there =
    ⊎_elim (λ (same : y ≡ x). rw (← same) (and-first (p y) (list_all p xs) all)) (λ later. all_there p xs x (and-second (p y) (list_all p xs) all) later) (first_or_rest y xs x there)

pub there_all : {X : Type 0} (p : X → Bool) (xs : List X) → ((x : X) → Contains xs x → p x ≡ true) → list_all p xs ≡ true
there_all p [] each = refl
there_all p (y ∷ xs) each = rw (each y (first_there y xs), there_all p xs (λ x later. each x (rest_there x y xs later))) refl

pub there_each : {X : Type 0} (P : X → Type 0) (xs : List X) → ((x : X) → Contains xs x → P x) → All P xs
there_each P [] each = All-nil P
there_each P (y ∷ xs) each = All-cons P y xs (each y (first_there y xs)) (there_each P xs (λ x later. each x (rest_there x y xs later)))

-- the records that take part are those of the class that do
pub taker_fact : (facts : Facts) (class : ℕ) (nulls : Bool) (rec : Rec) → Contains (rows.takers facts class nulls) rec → Contains (facts class) rec × (takes nulls rec ≡ true)
taker_fact facts class true rec there = (there, refl)
taker_fact facts class false rec there = there_kept is_placed (facts class) rec there

pub fact_taker : (facts : Facts) (class : ℕ) (nulls : Bool) (rec : Rec) → Contains (facts class) rec → takes nulls rec ≡ true → Contains (rows.takers facts class nulls) rec
fact_taker facts class true rec there takes = there
fact_taker facts class false rec there takes = kept_there is_placed (facts class) rec there takes

no_num : (n : _) (rec : Rec) → Num n ∷ [] ≡ row_of rec → ⊥
no_num n rec e = cc

not_live : {R : Type 0} → is_some {T = List Part} None ≡ true → R
not_live e = cc

kept_row : (r : List Part) (rec : Rec) → r ++ [] ≡ row_of rec → r ≡ row_of rec
kept_row r rec e = sym (append-nil r) ∙ e

-- a single row that means one record is the place of it
pub record IsPlaceOf (heads : Rows) (row : List Cell) : Type 0 where
  pub place : ℕ
  pub is : row ≡ cell.Place place ∷ []
  pub there : finmap.get heads place ≡ Some (row_of (record_at heads row))

place_at : (heads : Rows) (n : ℕ) (o : Option (List Part)) → finmap.get heads n ≡ o → is_some o ≡ true → IsOneRecord heads (cell.Place n ∷ []) → IsPlaceOf heads (cell.Place n ∷ [])
place_at heads n None is live one = not_live live
place_at heads n (Some r) is live one =
    let means : row_at heads (cell.Place n ∷ []) ≡ r ++ [] = rw is refl in
    record { place = n; is = refl; there = is ∙ ap Some (kept_row r (record_at heads (cell.Place n ∷ [])) (sym means ∙ one.means)) }

pub one_place : (heads : Rows) (row : List Cell) → IsOneRecord heads row → list_all (is_live heads) row ≡ true → IsPlaceOf heads row
one_place heads [] one live = absurd (no_length one.single) where
  no_length : ◌≡◌ {A = ℕ} 0 1 → ⊥
  no_length e = omega (arith, e)
one_place heads (cell.Num n ∷ []) one live = absurd (no_num n (record_at heads (cell.Num n ∷ [])) one.means)
one_place heads (cell.Place n ∷ []) one live = place_at heads n (finmap.get heads n) refl (and-first (is_some (finmap.get heads n)) true live) one
one_place heads (c ∷ d ∷ rest) one live = absurd (omega (arith, one.single))

module _ (heads : Rows) (takers : Takers) (facts : Facts) (hold : HeadsHold heads takers facts) where
  -- the record of a row is one of the facts
  pub held_fact : (class : ℕ) (nulls : Bool) (row : List Cell) → Contains (takers class nulls) row → Contains (rows.takers facts class nulls) (record_at heads row)
  held_fact class nulls row there =
      same_there same_rec rec_decides (map (record_at heads) (takers class nulls)) (rows.takers facts class nulls) (record_at heads row)
      (hold.mean.same class nulls) (mapped_there (record_at heads) (takers class nulls) row there)

  pub held_taker : AreFacts facts → (class : ℕ) (nulls : Bool) (row : List Cell) → Contains (takers class nulls) row → IsTaker heads class nulls row
  held_taker are class nulls row there =
      let one = All-contains (IsOneRecord heads) (takers class nulls) row (hold.mean.records class nulls) there in
      let live = all_there (λ cells. list_all (is_live heads) cells) (takers class nulls) row (hold.takers_are class nulls).live there in
      let at = one_place heads row one live in
      let fact = taker_fact facts class nulls (record_at heads row) (held_fact class nulls row there) in
      record {
        place = at.place;
        rec = record_at heads row;
        is = at.is;
        there = at.there;
        classed = All-contains (λ (rec : Rec). rec.class ≡ class) (facts class) (record_at heads row) (are.classed class) (fact.0);
        taken = fact.1;
      }

  -- each fact stands at a place
  pub fact_held : AreFacts facts → (class : ℕ) (rec : Rec) → Contains (facts class) rec → (place : ℕ) × (finmap.get heads place ≡ Some (row_of rec))
  fact_held are class rec there =
      let mapped = same_there same_rec rec_decides (rows.takers facts class true) (map (record_at heads) (takers class true)) rec
      (same-sym _ _ (hold.mean.same class true)) (fact_taker facts class true rec there refl) in
      let m = there_mapped (record_at heads) (takers class true) rec mapped in
      let t = held_taker are class true m.from m.there in
      (t.place, t.there ∙ ap (λ (r : Rec). Some (row_of r)) (sym (taker_rec t) ∙ m.is))

-- different rows of records that take part
pub are_rows : (heads : Rows) (class : ℕ) (nulls : Bool) (rows : List (List Cell)) → ((row : List Cell) → Contains rows row → IsTaker heads class nulls row) → AreDifferent rows → AreRows heads 1 rows
are_rows heads class nulls rows each different = record {
  different = different;
  live = there_all (λ cells. list_all (is_live heads) cells) rows (λ row there. taker_live (each row there));
  wide = there_each (λ (row : List Cell). length row ≡ 1) rows (λ row there. ap length (each row there).is);
}
