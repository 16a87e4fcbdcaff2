-- Two pillars that are gone through side by side, and get each other's values.
use Rattle.std.proofs.Common.{◌≡◌, ◌∙◌, ◌<◌, ◌≤◌, ◌⊎◌, ℕ, Bool, true, false, cond, min, Option, Some, None, List, [], length, fold, get_or, inl, inr, ap, sym, subst, arith}
use Rattle.std.proofs.lemmas.Bool.{cases_lt}
use Rattle.plan_facts.specs.declared.record.Raw.{Raw}
use Rattle.plan_moves.specs.declared.edit.Set.{Set}
use Rattle.plan_moves.specs.Edits.{with_new, edit_of, sets_of}
use Rattle.move_selectors.specs.Pillars.{same_values}
use Rattle.move_selectors.specs.Links.{no_record, IsHead, IsNext, values_at, is_same_at}
use Rattle.std.specs.List.{flat_map}
use Rattle.move_selectors.specs.Candidates.{exchanged_sets, pillar_exchange_of}
use Rattle.move_selectors.specs.Exchanged.{exchanged_edit}
use Rattle.move_selectors.proofs.SameValues.{same_is, same_itself, same_flipped}
use Rattle.move_selectors.proofs.Pillared.{edit_upto, edit-first, edit-next, edit-whole}
use Rattle.move_selectors.proofs.Walked.{next_same, between_apart}

-- what is made of an entity: a member of one pillar gets the other's values
abbrev pub made_of : ℕ → List Raw → ℕ → ℕ → Raw → List Set
made_of class entities one other = exchanged_sets class (values_at entities one) (values_at entities other)

-- no member of a pillar stands from one place up to another
abbrev pub HasNoneOf : List Raw → ℕ → ℕ → ℕ → Type 0
HasNoneOf entities head from upto = (at : ℕ) → from ≤ at → at < upto → is_same_at entities at head ≡ false

-- how far two pillars were gone through: the members before the nearer place are exchanged
pub record IsExchanged (class : ℕ) (entities : List Raw) (one other first second : ℕ) (into : List Set) : Type 0 where
  pub first_within : first ≤ length entities
  pub second_within : second ≤ length entities
  pub first_member : first < length entities → is_same_at entities first one ≡ true
  pub second_member : second < length entities → is_same_at entities second other ≡ true
  pub first_next : HasNoneOf entities one (min first second) first
  pub second_next : HasNoneOf entities other (min first second) second
  pub so_far : into ≡ edit_upto (made_of class entities one other) entities (min first second)

module _ (class : ℕ) (nullables : List Bool) (entities : List Raw) (one other : ℕ) (is_one : IsHead nullables entities one) (is_other : IsHead nullables entities other) (apart : is_same_at entities one other ≡ false) where
  nothing_made : (at : ℕ) → is_same_at entities at one ≡ false → is_same_at entities at other ≡ false → made_of class entities one other (get_or entities at no_record) ≡ []
  unfolding exchanged_sets
  nothing_made at not_one not_other =
      let raw : Raw = get_or entities at no_record in
      ap (λ (b : Bool). cond b (sets_of class raw.id (values_at entities other)) (cond (is_same_at entities at other) (sets_of class raw.id (values_at entities one)) [])) not_one
      ∙ ap (λ (b : Bool). cond b (sets_of class raw.id (values_at entities one)) []) not_other

  made_one : (at : ℕ) → is_same_at entities at one ≡ true → made_of class entities one other (get_or entities at no_record) ≡ sets_of class (get_or entities at no_record).id (values_at entities other)
  unfolding exchanged_sets
  made_one at same =
      let raw : Raw = get_or entities at no_record in
      ap (λ (b : Bool). cond b (sets_of class raw.id (values_at entities other)) (cond (is_same_at entities at other) (sets_of class raw.id (values_at entities one)) [])) same

  -- a member of the one pillar is none of the other
  not_both : (at : ℕ) → is_same_at entities at other ≡ true → is_same_at entities at one ≡ false
  not_both at same =
      ap (λ (v : List (Option ℕ)). same_values v (values_at entities one)) (same_is (values_at entities at) (values_at entities other) same)
      ∙ same_flipped (values_at entities other) (values_at entities one)
      ∙ apart

  made_other : (at : ℕ) → is_same_at entities at other ≡ true → made_of class entities one other (get_or entities at no_record) ≡ sets_of class (get_or entities at no_record).id (values_at entities one)
  unfolding exchanged_sets
  made_other at same =
      let raw : Raw = get_or entities at no_record in
      ap (λ (b : Bool). cond b (sets_of class raw.id (values_at entities other)) (cond (is_same_at entities at other) (sets_of class raw.id (values_at entities one)) [])) (not_both at same)
      ∙ ap (λ (b : Bool). cond b (sets_of class raw.id (values_at entities one)) []) same

  -- nothing is exchanged before the first heads
  pub exchange-first : IsExchanged class entities one other one other []
  exchange-first = record {
    first_within = let h = is_one.within in omega arith;
    second_within = let h = is_other.within in omega arith;
    first_member = λ there. same_itself (values_at entities one);
    second_member = λ there. same_itself (values_at entities other);
    first_next = λ at above below. is_one.first at below;
    second_next = λ at above below. is_other.first at below;
    so_far =
        let h = is_one.within in
        edit-first (made_of class entities one other) entities (min one other) (omega arith)
        (λ at above below. nothing_made at (is_one.first at (omega arith)) (is_other.first at (omega arith)));
  }

  module _ (first second : ℕ) (old : List Set) (was : IsExchanged class entities one other first second old) where
    -- the next member of the one pillar comes before that of the other
    pub exchange-one : (next : ℕ) (new : List Set) → first < second → IsNext entities first next
        → new ≡ fold with_new old (sets_of class (get_or entities first no_record).id (values_at entities other)) → IsExchanged class entities one other next second new
    exchange-one next new before link is =
        let there : first < length entities = (let h = was.second_within in omega arith) in
        let same = was.first_member there in
        let near : min first second ≡ first = omega arith in
        let later = link.later in
        let inside = link.within in
        record {
          first_within = link.within;
          second_within = was.second_within;
          first_member = next_same nullables entities one is_one first next same link;
          second_member = was.second_member;
          first_next = λ at above below. between_apart nullables entities one is_one first next at same link (omega arith) below;
          second_next = λ at above below. was.second_next at (omega arith) below;
          so_far =
              is
              ∙ ap (fold with_new old) (sym (made_one first same))
              ∙ ap (λ (edit : List Set). fold with_new edit (made_of class entities one other (get_or entities first no_record))) (was.so_far ∙ ap (edit_upto (made_of class entities one other) entities) near)
              ∙ edit-next (made_of class entities one other) entities first (min next second) (omega arith) (omega arith)
              (λ at above below. nothing_made at (between_apart nullables entities one is_one first next at same link (omega arith) (omega arith)) (was.second_next at (omega arith) (omega arith)));
        }

    -- where it doesn't, the other's comes before
    other_before : second ≤ first → (first < length entities) ⊎ (second < length entities) → second < first
    other_before near some =
        elim (cases_lt second first) [
          | inl less ↦ less
          | inr past ↦
              let e : first ≡ second = omega arith in
              let there : second < length entities = elim some [ inl less ↦ omega arith | inr less ↦ less ] in
              let both : is_same_at entities second one ≡ true = subst (λ (n : ℕ). is_same_at entities n one ≡ true) e (was.first_member (omega arith)) in
              absurd (let wrong : true ≡ false = sym both ∙ not_both second (was.second_member there) in cc)
        ]

    pub other_there : second ≤ first → (first < length entities) ⊎ (second < length entities) → second < length entities
    other_there near some = let less = other_before near some in let h = was.first_within in omega arith

    pub exchange-other : (next : ℕ) (new : List Set) → second ≤ first → (first < length entities) ⊎ (second < length entities) → IsNext entities second next
        → new ≡ fold with_new old (sets_of class (get_or entities second no_record).id (values_at entities one)) → IsExchanged class entities one other first next new
    exchange-other next new near some link is =
        let less = other_before near some in
        let there = other_there near some in
        let same = was.second_member there in
        let nearer : min first second ≡ second = omega arith in
        let later = link.later in
        let inside = link.within in
        record {
          first_within = was.first_within;
          second_within = link.within;
          first_member = was.first_member;
          second_member = next_same nullables entities other is_other second next same link;
          first_next = λ at above below. was.first_next at (omega arith) below;
          second_next = λ at above below. between_apart nullables entities other is_other second next at same link (omega arith) below;
          so_far =
              is
              ∙ ap (fold with_new old) (sym (made_other second same))
              ∙ ap (λ (edit : List Set). fold with_new edit (made_of class entities one other (get_or entities second no_record))) (was.so_far ∙ ap (edit_upto (made_of class entities one other) entities) nearer)
              ∙ edit-next (made_of class entities one other) entities second (min first next) (omega arith) (let h = was.first_within in omega arith)
              (λ at above below. nothing_made at (was.first_next at (omega arith) (omega arith)) (between_apart nullables entities other is_other second next at same link (omega arith) (omega arith)));
        }

    -- all members are exchanged
    pub exchange-whole : length entities ≤ first → length entities ≤ second → old ≡ exchanged_edit class entities one other
    exchange-whole past both = was.so_far ∙ edit-whole (made_of class entities one other) entities (min first second) (omega arith)

-- two pillars that are one aren't exchanged
pub exchange-none : (class : ℕ) (entities : List Raw) (one other : List (Option ℕ)) → same_values one other ≡ true → pillar_exchange_of class entities one other ≡ None
unfolding pillar_exchange_of
exchange-none class entities one other same = ap (λ (b : Bool). cond b None (Some (edit_of (flat_map (exchanged_sets class one other) entities)))) same

-- two that differ are
pub exchange-some : (class : ℕ) (entities : List Raw) (one other : List (Option ℕ)) → same_values one other ≡ false → pillar_exchange_of class entities one other ≡ Some (edit_of (flat_map (exchanged_sets class one other) entities))
unfolding pillar_exchange_of
exchange-some class entities one other apart = ap (λ (b : Bool). cond b None (Some (edit_of (flat_map (exchanged_sets class one other) entities)))) apart
