-- The row that was read last.
use Rattle.std.proofs.Common.{◌≡◌, ◌∙◌, ◌++◌, ◌∷◌, ℕ, List, [], Option, Some, length, take, drop, refl, ap, sym, arith}
use Rattle.std.specs.Prelude.{unwrap_or}
use Rattle.std.specs.FinMap as finmap
use Rattle.std.proofs.lemmas.List.{append-nil}
use Rattle.plan_rules.specs.declared.row.Part.{Part}
use Rattle.stream_heads.specs.declared.cells.Cell.TheVariants.{Place}
use Rattle.stream_heads.specs.declared.last.Pair.{Pair}
use Rattle.stream_heads.specs.Last.{IsOfPair}
use Rattle.stream_heads.specs.Meant.{Rows, parts_at}

-- the first of two parts
take_one : (one other : List Part) → length one ≡ 1 → take 1 (one ++ other) ≡ one
take_one [] other is = absurd (omega (arith, is))
take_one (a ∷ []) other is = refl
take_one (a ∷ b ∷ rest) other is = absurd (omega (arith, is))

-- what stands behind it
drop_one : (one other : List Part) → length one ≡ 1 → drop 1 (one ++ other) ≡ other
drop_one [] other is = absurd (omega (arith, is))
drop_one (a ∷ []) other is = refl
drop_one (a ∷ b ∷ rest) other is = absurd (omega (arith, is))

-- the parts of a live place
parts_there : (heads : Rows) (place : ℕ) (head : List Part) → finmap.get heads place ≡ Some head → parts_at heads (Place place) ≡ head
parts_there heads place head there = ap (λ (o : Option (List Part)). unwrap_or o []) there

-- the second part alone is another one
pub second_put : (heads : Rows) (last pair : Pair) (old new head : List Part) → IsOfPair heads last old → last.first ≡ pair.first
    → finmap.get heads pair.second ≡ Some head → length head ≡ 1 → new ≡ take 1 old ++ head → IsOfPair heads pair new
second_put heads last pair old new head is same there single put =
    let second = parts_there heads pair.second head there in
    let first : parts_at heads (Place last.first) ≡ parts_at heads (Place pair.first) = ap (λ n. parts_at heads (Place n)) same in
    let stays : take 1 old ≡ parts_at heads (Place pair.first) = ap (take 1) is.means ∙ take_one _ _ is.first ∙ first in
    record {
      first = sym (ap length first) ∙ is.first;
      second = ap length second ∙ single;
      means = put ∙ ap (λ (ps : List Part). ps ++ head) stays ∙ ap (λ (ps : List Part). parts_at heads (Place pair.first) ++ ps) (sym (append-nil _ ∙ second));
    }

-- the first part alone is another one
pub first_put : (heads : Rows) (last pair : Pair) (old new head : List Part) → IsOfPair heads last old → last.second ≡ pair.second
    → finmap.get heads pair.first ≡ Some head → length head ≡ 1 → new ≡ head ++ drop 1 old → IsOfPair heads pair new
first_put heads last pair old new head is same there single put =
    let first = parts_there heads pair.first head there in
    let second : parts_at heads (Place last.second) ≡ parts_at heads (Place pair.second) = ap (λ n. parts_at heads (Place n)) same in
    let stays : drop 1 old ≡ parts_at heads (Place pair.second) ++ [] = ap (drop 1) is.means ∙ drop_one _ _ is.first ∙ ap (λ (ps : List Part). ps ++ []) second in
    record {
      first = ap length first ∙ single;
      second = sym (ap length second) ∙ is.second;
      means = put ∙ ap (λ (ps : List Part). head ++ ps) stays ∙ ap (λ (ps : List Part). ps ++ (parts_at heads (Place pair.second) ++ [])) (sym first);
    }
