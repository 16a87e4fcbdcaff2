-- The sets that give an entity its values, one after the other.
use Rattle.std.proofs.Common.{◌≡◌, ◌∙◌, ◌<◌, ◌+◌, ℕ, Option, None, List, [], ◌∷◌, ◌++◌, length, fold, take, get_or, ap, sym, arith}
use Rattle.std.specs.List.{enumerate_from}
use Rattle.std.proofs.lemmas.List.{length-map, take_more, get_or-map}
use Rattle.std.proofs.lemmas.List.FromFn.{length-enumerate_from, get_or-enumerate_from}
use Rattle.std.proofs.lemmas.List.Sums.{fold-append}
use Rattle.plan_moves.specs.declared.edit.Set.{Set}
use Rattle.plan_moves.specs.Edits.{with_new, edit_of, sets_of}

-- the set that gives a variable of an entity a value
abbrev set_at : ℕ → ℕ → ℕ → Option ℕ → Set
set_at class id var value = record { class = class; id = id; var = var; value = value }

pub length-sets_of : (class id : ℕ) (values : List (Option ℕ)) → length (sets_of class id values) ≡ length values
length-sets_of class id values = length-map (enumerate_from 0 values) (λ (numbered : ℕ × Option ℕ). set_at class id numbered.0 numbered.1) ∙ length-enumerate_from 0 values

-- the edit once one more variable has its value
pub sets_more : (base : List Set) (class id var : ℕ) (values : List (Option ℕ)) (value : Option ℕ) → var < length values → value ≡ get_or values var None →
    fold with_new base (take (var + 1) (sets_of class id values)) ≡ with_new (fold with_new base (take var (sets_of class id values))) (set_at class id var value)
sets_more base class id var values value within is =
    let no_set : Set = set_at 0 0 0 None in
    let long = length-enumerate_from 0 values in
    let whole = length-sets_of class id values in
    let here : get_or (sets_of class id values) var no_set ≡ set_at class id var value =
    get_or-map (λ (numbered : ℕ × Option ℕ). set_at class id numbered.0 numbered.1) (enumerate_from 0 values) var (0, None) no_set (omega arith)
    ∙ ap (λ (numbered : ℕ × Option ℕ). set_at class id numbered.0 numbered.1) (get_or-enumerate_from 0 values var (0, None) within)
    ∙ (let sum : 0 + var ≡ var = omega arith in ap (λ (v : ℕ). set_at class id v (get_or values var None)) sum)
    ∙ ap (set_at class id var) (sym is) in
    ap (fold with_new base) (take_more (sets_of class id values) var no_set (omega arith))
    ∙ fold-append with_new base (take var (sets_of class id values)) (get_or (sets_of class id values) var no_set ∷ [])
    ∙ ap (with_new (fold with_new base (take var (sets_of class id values)))) here

-- the first set of an edit
pub with_new-first : (set : Set) → with_new [] set ≡ set ∷ []
unfolding with_new
with_new-first set = λ i. set ∷ []

-- an edit that got one list of sets and then another
pub edit_of_two : (first more edit both : List Set) → edit ≡ fold with_new [] first → both ≡ fold with_new edit more → both ≡ edit_of (first ++ more)
unfolding edit_of
edit_of_two first more edit both one two = two ∙ ap (λ (e : List Set). fold with_new e more) one ∙ sym (fold-append with_new [] first more)
