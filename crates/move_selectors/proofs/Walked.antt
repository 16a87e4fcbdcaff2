-- Pillars that are gone through member by member.
use Rattle.std.proofs.Common.{◌≡◌, ◌∙◌, ◌<◌, ◌≤◌, ℕ, Bool, true, false, cond, List, [], ◌∷◌, length, fold, get_or, ap, sym, arith}
use Rattle.plan_facts.specs.declared.record.Raw.{Raw}
use Rattle.plan_moves.specs.declared.edit.Set.{Set}
use Rattle.plan_moves.specs.Edits.{with_new, edit_of}
use Rattle.move_selectors.specs.declared.values.Choice.{Choice}
use Rattle.move_selectors.specs.Pillars.{same_values, is_settled}
use Rattle.move_selectors.specs.Links.{no_record, IsHead, IsNext, values_at, is_same_at, is_settled_at}
use Rattle.move_selectors.specs.Candidates.{chosen_set, pillar_edit_of}
use Rattle.move_selectors.proofs.SameValues.{same_is}
use Rattle.move_selectors.proofs.Pillared.{edit_upto, edit-first, edit-next, edit-whole, map-filter}

-- what is made of an entity: one that holds what the head does is set
abbrev pub set_members : List Raw → ℕ → ℕ → Choice → Raw → List Set
set_members entities head class choice raw =
    cond (same_values raw.values (values_at entities head)) (chosen_set class choice raw.id ∷ []) []

module _ (nullables : List Bool) (entities : List Raw) (head : ℕ) (is_head : IsHead nullables entities head) where
  -- a member holds what the head does
  member_is : (at : ℕ) → is_same_at entities at head ≡ true → values_at entities at ≡ values_at entities head
  member_is at same = same_is (values_at entities at) (values_at entities head) same

  -- a member is settled
  pub member_settled : (at : ℕ) → is_same_at entities at head ≡ true → is_settled_at nullables entities at ≡ true
  member_settled at same = ap (is_settled nullables) (member_is at same) ∙ is_head.settled

  -- the next member is one of the head's
  pub next_same : (at next : ℕ) → is_same_at entities at head ≡ true → IsNext entities at next → next < length entities → is_same_at entities next head ≡ true
  next_same at next same link within = ap (same_values (values_at entities next)) (sym (member_is at same)) ∙ link.same within

  -- none between is a member
  pub between_apart : (at next between : ℕ) → is_same_at entities at head ≡ true → IsNext entities at next → at < between → between < next → is_same_at entities between head ≡ false
  between_apart at next between same link above below = ap (same_values (values_at entities between)) (sym (member_is at same)) ∙ link.none between above below

  module _ (class : ℕ) (choice : Choice) where
    quiet_at : (at : ℕ) → is_same_at entities at head ≡ false → (set_members entities head class choice) (get_or entities at no_record) ≡ []
    quiet_at at apart = ap (λ (b : Bool). cond b (chosen_set class choice (get_or entities at no_record).id ∷ []) []) apart

    -- nothing is set before the head
    pub change-first : [] ≡ edit_upto (set_members entities head class choice) entities head
    change-first = let within = is_head.within in edit-first (set_members entities head class choice) entities head (omega arith) (λ at above below. quiet_at at (is_head.first at below))

    -- a member is set, and then the next one comes
    pub change-next : (at next : ℕ) → at < length entities → is_same_at entities at head ≡ true → IsNext entities at next → with_new (edit_upto (set_members entities head class choice) entities at) (chosen_set class choice (get_or entities at no_record).id) ≡ edit_upto (set_members entities head class choice) entities next
    change-next at next within same link =
        let set : Set = chosen_set class choice (get_or entities at no_record).id in
        let made : (set_members entities head class choice) (get_or entities at no_record) ≡ set ∷ [] = ap (λ (b : Bool). cond b (set ∷ []) []) same in
        sym (ap (fold with_new (edit_upto (set_members entities head class choice) entities at)) made)
        ∙ edit-next (set_members entities head class choice) entities at next link.later link.within
        (λ between above below. quiet_at between (between_apart at next between same link (omega arith) below))

    -- all members are set
    pub change-whole : (at : ℕ) → length entities ≤ at → edit_upto (set_members entities head class choice) entities at ≡ pillar_edit_of class entities (values_at entities head) choice
    unfolding pillar_edit_of
    change-whole at past =
        edit-whole (set_members entities head class choice) entities at past
        ∙ ap edit_of (sym (map-filter (λ (raw : Raw). same_values raw.values (values_at entities head)) (λ (raw : Raw). chosen_set class choice raw.id) entities))
