-- Edits made of a list of sets.
use Rattle.std.proofs.Common.{◌≡◌, ◌∙◌, ◌<◌, ◌+◌, ℕ, Bool, true, false, not, cond, List, [], ◌∷◌, ◌++◌, append-nil, append_assoc, length, fold, take, get_or, refl, sym, ap, subst, All}
use Rattle.std.proofs.lemmas.List.{take_more}
use Rattle.std.proofs.lemmas.List.Elements.{All-nil}
use Rattle.std.proofs.lemmas.List.Sums.{fold-append}
use Rattle.plan_moves.specs.declared.edit.Set.{Set}
use Rattle.plan_moves.specs.Edits.{AreInOrder, IsBefore, is_set_in, with_set, with_new, edit_of}
use Rattle.plan_moves.proofs.Order.{before_last, with_set_put, not_set_put}

-- what `put` leaves is the edit with one more set
pub put_new : (old new : List Set) (set : Set) (put : Bool) → put ≡ not (is_set_in old set) → new ≡ cond put (with_set old set) old → new ≡ with_new old set
unfolding with_new
put_new old new set put answer now =
    now ∙ ap (λ (p : Bool). cond p (with_set old set) old) answer ∙ elim (is_set_in old set) as (λ (there : Bool). cond (not there) (with_set old set) old ≡ cond there old (with_set old set)) [ true ↦ refl | false ↦ refl ]

-- the edit of two lists of sets, one after the other
pub edit_of-append : (first more : List Set) → edit_of (first ++ more) ≡ fold with_new (edit_of first) more
unfolding edit_of
edit_of-append first more = fold-append with_new [] first more

-- one more set
pub edit_of-more : (sets : List Set) (place : ℕ) (set d : Set) → place < length sets → set ≡ get_or sets place d → edit_of (take (place + 1) sets) ≡ with_new (edit_of (take place sets)) set
edit_of-more sets place set d within here =
    ap edit_of (take_more sets place d within)
    ∙ edit_of-append (take place sets) (get_or sets place d ∷ [])
    ∙ ap (with_new (edit_of (take place sets))) (sym here)

-- a set that comes last is put at the end
with_new-last : (front rest : List Set) (set : Set) → AreInOrder (front ++ set ∷ rest) → with_new front set ≡ front ++ set ∷ []
unfolding with_new
with_new-last front rest set order =
    let before = before_last front rest set order in
    let none : All (IsBefore set) [] = All-nil (IsBefore set) in
    let whole : front ++ [] ≡ front = append-nil front in
    let new : is_set_in front set ≡ false = ap (λ (sets : List Set). is_set_in sets set) (sym whole) ∙ not_set_put front [] set before none in
    ap (λ (there : Bool). cond there front (with_set front set)) new ∙ ap (λ (sets : List Set). with_set sets set) (sym whole) ∙ with_set_put front [] set before none

fold-in_order : (front sets : List Set) → AreInOrder (front ++ sets) → fold with_new front sets ≡ front ++ sets
fold-in_order front [] order = sym (append-nil front)
fold-in_order front (set ∷ sets) order =
    let regroup : (front ++ set ∷ []) ++ sets ≡ front ++ set ∷ sets = append_assoc front (set ∷ []) sets in
    ap (λ (edit : List Set). fold with_new edit sets) (with_new-last front sets set order)
    ∙ fold-in_order (front ++ set ∷ []) sets (subst AreInOrder (sym regroup) order)
    ∙ regroup

-- sets in order are an edit as they are
pub order_kept : (sets : List Set) → AreInOrder sets → edit_of sets ≡ sets
unfolding edit_of
order_kept sets order = fold-in_order [] sets order
