-- Rows keep their meanings while their places live.
use Rattle.std.proofs.Common.{◌≡◌, ◌∙◌, ◌&&◌, ◌∷◌, ◌++◌, ℕ, Bool, true, false, cond, is_some, List, [], Option, None, map, filter, refl, ap, sym, rules, ⊎_elim}
use Rattle.std.specs.Prelude.{unwrap_or}
use Rattle.std.specs.List.{list_all}
use Rattle.std.proofs.lemmas.Bool.{cases_eq}
use Rattle.std.proofs.lemmas.Grind.{flat_map-append}
use Rattle.std.specs.FinMap as finmap
use Rattle.plan_rules.specs.declared.row.Part.{Part}
use Rattle.tuple_store.proofs.MapLaws.{gone_other, gone_there, put_other}
use Rattle.stream_heads.specs.declared.cells.Cell.{Cell}
use Rattle.stream_heads.specs.declared.cells.Cell.TheVariants as cell
use Rattle.stream_heads.specs.Meant.{Extends, Rows, all_live, at_row, is_live, meant, parts_at, row_at}

none_live : {R : Type 0} → is_some {T = List Part} None ≡ true → R
none_live t = search (rules, t)

both-first : (a b : Bool) → (a && b) ≡ true → a ≡ true
both-first true b t = refl
both-first false b t = t

both-second : (a b : Bool) → (a && b) ≡ true → b ≡ true
both-second true b t = t
both-second false b t = search (rules, t)

-- a record that comes under a fresh place leaves the others
pub extends-add : (heads later : Rows) (n : ℕ) (row : List Part) → finmap.get heads n ≡ None → later ≡ finmap.insert heads n row → Extends heads later
extends-add heads later n row fresh is = λ q live.
    ⊎_elim (λ (at : q ≡ n). none_live (sym (ap is_some (ap (finmap.get heads) at ∙ fresh)) ∙ live))
    (λ apart. put_other heads later n row is q apart)
    (cases_eq q n)

-- what is left once a record goes
pub extends-kill : (heads later : Rows) (n : ℕ) → later ≡ finmap.remove heads n → Extends later heads
extends-kill heads later n is = λ q live.
    ⊎_elim (λ (at : q ≡ n). none_live (sym (ap is_some (ap (finmap.get later) at ∙ gone_there heads later n is)) ∙ live))
    (λ apart. sym (gone_other heads later n is q apart))
    (cases_eq q n)

part_stays : (heads later : Rows) → Extends heads later → (c : Cell) → is_live heads c ≡ true → parts_at later c ≡ parts_at heads c
part_stays heads later e (cell.Place n) live = ap (λ (o : Option (List Part)). unwrap_or o []) (e n live)
part_stays heads later e (cell.Num n) live = refl

-- a row keeps its meaning
pub row_stays : (heads later : Rows) → Extends heads later → (cs : List Cell) → list_all (is_live heads) cs ≡ true → row_at later cs ≡ row_at heads cs
row_stays heads later e [] live = refl
row_stays heads later e (c ∷ cs) live =
    let a = part_stays heads later e c (both-first (is_live heads c) _ live) in
    let b = row_stays heads later e cs (both-second (is_live heads c) _ live) in
    rw (a, b) refl

-- and so do all rows
pub rows_stay : (heads later : Rows) → Extends heads later → (rows : List (List Cell)) → all_live heads rows ≡ true → meant later rows ≡ meant heads rows
rows_stay heads later e [] live = refl
rows_stay heads later e (row ∷ rows) live =
    let a = row_stays heads later e row (both-first (list_all (is_live heads) row) _ live) in
    let b = rows_stay heads later e rows (both-second (list_all (is_live heads) row) _ live) in
    rw (a, b) refl

-- rows that pass a test of what they mean
pub filter_stays : (test : List Part → Bool) (heads later : Rows) → Extends heads later → (rows : List (List Cell)) → all_live heads rows ≡ true → filter (at_row later test) rows ≡ filter (at_row heads test) rows
filter_stays test heads later e [] live = refl
filter_stays test heads later e (row ∷ rows) live =
    ap (λ (r : List Part). cond (test r) (row ∷ filter (at_row later test) rows) (filter (at_row later test) rows)) (row_stays heads later e row (both-first _ _ live))
    ∙ ap (λ (rest : List (List Cell)). cond (test (row_at heads row)) (row ∷ rest) rest) (filter_stays test heads later e rows (both-second (list_all (is_live heads) row) _ live))

-- a test of what is made of each
pub map-filter : {X Y : Type 0} (f : X → Y) (p : Y → Bool) (xs : List X) → map f (filter (λ x. p (f x)) xs) ≡ filter p (map f xs)
map-filter f p [] = refl
map-filter f p (x ∷ xs) = elim (p (f x)) as (λ b. map f (cond b (x ∷ filter (λ x. p (f x)) xs) (filter (λ x. p (f x)) xs)) ≡ cond b (f x ∷ filter p (map f xs)) (filter p (map f xs))) [
  | true ↦ ap (λ (zs : List _). f x ∷ zs) (map-filter f p xs)
  | false ↦ map-filter f p xs
]

-- rows that are joined mean what both mean
pub joined_means : (heads : Rows) (one other : List Cell) → row_at heads (one ++ other) ≡ row_at heads one ++ row_at heads other
joined_means heads one other = flat_map-append (parts_at heads) one other
