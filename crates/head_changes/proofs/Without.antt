-- Heads without some of their records.
use Rattle.std.proofs.Common.{◌≡◌, ◌∙◌, ◌+◌, ◌||◌, ⊎_elim, ℕ, List, [], ◌∷◌, ◌++◌, Bool, true, false, cond, not, Option, Some, None, is_some, take, get_or, length, refl, sym, ap, ◌<◌}
use Rattle.std.specs.List.{flat_map}
use Rattle.std.specs.FinMap as finmap
use Rattle.std.specs.FinMap.{get-retain_keys, nat_cmp-IsAntisymmetric}
use Rattle.std.proofs.lemmas.Bool.{cases_eq}
use Rattle.std.proofs.lemmas.Grind.{flat_map-append}
use Rattle.std.proofs.lemmas.List.{append-nil, take_more}
use Rattle.std.proofs.lemmas.List.Folds.{list_any-append}
use Rattle.plan_rules.specs.declared.row.Part.{Part}
use Rattle.tuple_store.proofs.MapLaws.{gone_other, gone_there, same_rows}
use Rattle.stream_heads.specs.declared.cells.Cell.{Cell}
use Rattle.stream_heads.specs.declared.cells.Cell.TheVariants as cell
use Rattle.stream_heads.specs.Equality.{cells_decide, same_cells}
use Rattle.stream_heads.specs.Exact.{is_among}
use Rattle.stream_heads.specs.Meant.{Extends, Rows}
use Rattle.stream_heads.proofs.Among.{among_there, there_among}
use Rattle.head_changes.specs.Takers.{heads_without}
use Rattle.head_changes.specs.Turns.{place_in}
use Rattle.head_changes.proofs.Lists.{first_there, one_cases}

-- what is left at a place
pub left_at : (rows : List (List Cell)) (heads : Rows) (place : ℕ)
    → finmap.get (heads_without rows heads) place ≡ cond (not (is_among rows (cell.Place place ∷ []))) (finmap.get heads place) None
left_at rows heads place =
    let p : ℕ → Bool = λ n. not (is_among rows (cell.Place n ∷ [])) in
    get-retain_keys heads p place (λ x e. ap p (sym (nat_cmp-IsAntisymmetric place x e)))

cond_twice : {X : Type 0} (a b : Bool) (o : Option X) → cond (not a) (cond (not b) o None) None ≡ cond (not (b || a)) o None
cond_twice true true o = refl
cond_twice true false o = refl
cond_twice false true o = refl
cond_twice false false o = refl

-- first without some, then without others
pub without_both : (one other : List (List Cell)) (heads : Rows) → heads_without other (heads_without one heads) ≡ heads_without (one ++ other) heads
without_both one other heads =
    same_rows _ _ (λ place.
    left_at other (heads_without one heads) place
    ∙ ap (λ (o : Option (List Part)). cond (not (is_among other (cell.Place place ∷ []))) o None) (left_at one heads place)
    ∙ cond_twice (is_among other (cell.Place place ∷ [])) (is_among one (cell.Place place ∷ [])) (finmap.get heads place)
    ∙ ap (λ (b : Bool). cond (not b) (finmap.get heads place) None) (sym (list_any-append (same_cells (cell.Place place ∷ [])) one other))
    ∙ sym (left_at (one ++ other) heads place))

pub without_none : (heads : Rows) → heads ≡ heads_without [] heads
without_none heads = same_rows _ _ (λ place. sym (left_at [] heads place))

none_is : {X : Type 0} (o : Option X) → is_some o ≡ false → o ≡ None
none_is None e = refl
none_is (Some x) e = absurd (no e) where
  no : true ≡ false → ⊥
  no e = cc

-- a row that means no live place leaves the heads
pub without_missing : (row : List Cell) (heads : Rows) → ((place : ℕ) → row ≡ cell.Place place ∷ [] → finmap.get heads place ≡ None) → heads ≡ heads_without (row ∷ []) heads
without_missing row heads missing =
    same_rows _ _ (λ place.
    sym (left_at (row ∷ []) heads place
    ∙ elim (same_cells (cell.Place place ∷ []) row) as (λ b. same_cells (cell.Place place ∷ []) row ≡ b → cond (not (b || false)) (finmap.get heads place) None ≡ finmap.get heads place) [
      | true ↦ λ is. sym (missing place (sym ((cells_decide (cell.Place place ∷ []) row).0 is)))
      | false ↦ λ is. refl
    ] refl))

-- and one that does is taken out
pub without_one : (place : ℕ) (heads later : Rows) → later ≡ finmap.remove heads place → later ≡ heads_without ((cell.Place place ∷ []) ∷ []) heads
without_one place heads later is =
    same_rows _ _ (λ q.
    ⊎_elim
    (λ (at : q ≡ place).
    let same : is_among ((cell.Place place ∷ []) ∷ []) (cell.Place q ∷ []) ≡ true = among_there ((cell.Place place ∷ []) ∷ []) (cell.Place q ∷ []) (rw at (first_there (cell.Place place ∷ []) [])) in
    rw at (gone_there heads later place is) ∙ sym (left_at ((cell.Place place ∷ []) ∷ []) heads q ∙ ap (λ (b : Bool). cond (not b) (finmap.get heads q) None) same))
    (λ apart.
    let other : is_among ((cell.Place place ∷ []) ∷ []) (cell.Place q ∷ []) ≡ false = elim (is_among ((cell.Place place ∷ []) ∷ []) (cell.Place q ∷ [])) as (λ b. is_among ((cell.Place place ∷ []) ∷ []) (cell.Place q ∷ []) ≡ b → b ≡ false) [
      | true ↦ λ e. absurd (apart (place_is (sym (one_cases (cell.Place place ∷ []) (cell.Place q ∷ []) (there_among ((cell.Place place ∷ []) ∷ []) (cell.Place q ∷ []) e)))))
      | false ↦ λ e. refl
    ] refl in
    gone_other heads later place is q apart ∙ sym (left_at ((cell.Place place ∷ []) ∷ []) heads q ∙ ap (λ (b : Bool). cond (not b) (finmap.get heads q) None) other))
    (cases_eq q place)) where
      place_is : {p q : ℕ} → ◌≡◌ {A = List Cell} (cell.Place p ∷ []) (cell.Place q ∷ []) → p ≡ q
      place_is e = cc

-- one row more
pub without_more : (rows : List (List Cell)) (i : ℕ) (x : List Cell) (heads now later : Rows) → i < length rows → x ≡ get_or rows i x
    → now ≡ heads_without (take i rows) heads → later ≡ heads_without (x ∷ []) now → later ≡ heads_without (take (i + 1) rows) heads
without_more rows i x heads now later within is so_far more =
    more ∙ ap (heads_without (x ∷ [])) so_far ∙ without_both (take i rows) (x ∷ []) heads
    ∙ ap (λ (y : List Cell). heads_without (take i rows ++ y ∷ []) heads) is
    ∙ ap (λ (rs : List (List Cell)). heads_without rs heads) (sym (take_more rows i x within))

-- the rows of one thing more
pub without_item : {X : Type 0} (f : X → List (List Cell)) (xs : List X) (i : ℕ) (x : X) (heads now later : Rows) → i < length xs → x ≡ get_or xs i x
    → now ≡ heads_without (flat_map f (take i xs)) heads → later ≡ heads_without (f x) now → later ≡ heads_without (flat_map f (take (i + 1) xs)) heads
without_item f xs i x heads now later within is so_far more =
    let longer : flat_map f (take (i + 1) xs) ≡ flat_map f (take i xs) ++ f x =
    ap (flat_map f) (take_more xs i x within) ∙ flat_map-append f (take i xs) (get_or xs i x ∷ []) ∙ ap (λ (rs : List (List Cell)). flat_map f (take i xs) ++ rs) (append-nil (f (get_or xs i x)))
    ∙ ap (λ y. flat_map f (take i xs) ++ f y) (sym is) in
    more ∙ ap (heads_without (f x)) so_far ∙ without_both (flat_map f (take i xs)) (f x) heads
    ∙ ap (λ (rs : List (List Cell)). heads_without rs heads) (sym longer)

-- what is left stands in the heads
pub left_extends : (rows : List (List Cell)) (heads : Rows) → Extends (heads_without rows heads) heads
left_extends rows heads place live =
    elim (is_among rows (cell.Place place ∷ [])) as (λ b. finmap.get (heads_without rows heads) place ≡ cond (not b) (finmap.get heads place) None → finmap.get heads place ≡ finmap.get (heads_without rows heads) place) [
      | true ↦ λ is. absurd (no_some (sym (ap is_some is) ∙ live))
      | false ↦ λ is. sym is
    ] (left_at rows heads place) where
      no_some : is_some {T = List Part} None ≡ true → ⊥
      no_some e = cc

-- what isn't among those that go stays
pub stays_at : (rows : List (List Cell)) (heads : Rows) (place : ℕ) → is_among rows (cell.Place place ∷ []) ≡ false → finmap.get (heads_without rows heads) place ≡ finmap.get heads place
stays_at rows heads place stays = left_at rows heads place ∙ ap (λ (b : Bool). cond (not b) (finmap.get heads place) None) stays

-- what is left wasn't among those that go
pub left_stays : (rows : List (List Cell)) (heads : Rows) (place : ℕ) (row : List Part) → finmap.get (heads_without rows heads) place ≡ Some row → is_among rows (cell.Place place ∷ []) ≡ false
left_stays rows heads place row is =
    elim (is_among rows (cell.Place place ∷ [])) as (λ b. finmap.get (heads_without rows heads) place ≡ cond (not b) (finmap.get heads place) None → b ≡ false) [
      | true ↦ λ e. absurd (none_some (sym e ∙ is))
      | false ↦ λ e. refl
    ] (left_at rows heads place) where
      none_some : None ≡ Some row → ⊥
      none_some e = cc

none_some : {X : Type 0} {x : X} → None ≡ Some x → ⊥
none_some e = cc

some_is : {X : Type 0} {x y : X} → Some x ≡ Some y → x ≡ y
some_is e = cc

single_is : (row : List Cell) (place : ℕ) → Some place ≡ place_in row → row ≡ cell.Place place ∷ []
single_is [] place is = absurd (none_some (sym is))
single_is (cell.Num n ∷ rest) place is = absurd (none_some (sym is))
single_is (cell.Place p ∷ []) place is = ap (λ (q : ℕ). cell.Place q ∷ []) (sym (some_is is))
single_is (cell.Place p ∷ more ∷ rest) place is = absurd (none_some (sym is))

-- a row that is no place leaves the heads
pub without_no_place : (row : List Cell) (heads : Rows) → None ≡ place_in row → heads ≡ heads_without (row ∷ []) heads
without_no_place row heads none = without_missing row heads (λ place is. absurd (none_some (none ∙ ap place_in is)))

-- the place that a row is goes
pub without_single : (row : List Cell) (place : ℕ) (heads later : Rows) → Some place ≡ place_in row → later ≡ finmap.remove heads place → later ≡ heads_without (row ∷ []) heads
without_single row place heads later is gone = rw (single_is row place is) (without_one place heads later gone)

-- a place that isn't live leaves the heads
pub without_dead : (row : List Cell) (place : ℕ) (heads : Rows) → Some place ≡ place_in row → None ≡ finmap.get heads place → heads ≡ heads_without (row ∷ []) heads
without_dead row place heads is dead =
    without_missing row heads (λ p at. ap (finmap.get heads) (some_is (sym (ap place_in at) ∙ sym is)) ∙ sym dead)
