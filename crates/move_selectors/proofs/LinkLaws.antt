-- Links, entity by entity.
use Rattle.std.proofs.Common.{◌≡◌, ◌≢◌, ◌∙◌, ◌<◌, ◌≤◌, ◌+◌, ℕ, Bool, true, false, cond, Option, Some, None, List, [], ◌∷◌, ◌++◌, length, length-append, length-set, get_or, set, inl, inr, refl, ap, sym, subst, arith}
use Rattle.std.proofs.lemmas.Bool.{cases_lt, cases_eq}
use Rattle.std.proofs.lemmas.List.{take_all, get_or_append_left, map-append, get_or-set_same, get_or-set_other}
use Rattle.std.proofs.Math.Seq.{get_or-append_seam}
use Rattle.std.proofs.lemmas.List.Elements.{All-append, All-cons, All-nil}
use Rattle.plan_facts.specs.declared.record.Raw.{Raw}
use Rattle.move_selectors.specs.Pillars.{same_values, is_settled, pillars_of}
use Rattle.move_selectors.specs.Links.{LinksView, AreLinksOf, IsHead, values_at, is_same_at, is_settled_at}
use Rattle.move_selectors.specs.Linked.{Key, key_of, is_key, IsLink, HoldNot, IsLastAt, IsLast, IsLinked}
use Rattle.move_selectors.proofs.SameValues.{same_is, is_same, same_flipped, settled_apart, key_same}
use Rattle.move_selectors.proofs.Distinct.{pillars-open, pillars-settled, none_upto, some_upto}

module _ (nullables : List Bool) (entities : List Raw) (at : ℕ) (within : at < length entities) where
  -- a link stays, where the next entity holds something else or comes after the link
  link_stays : (from next : ℕ) → IsLink entities at from next → (at < next → is_same_at entities at from ≡ false) → IsLink entities (at + 1) from next
  link_stays from next link apart = record {
    later = link.later;
    same = λ before. elim (cases_lt next at) [
      | inl less ↦ link.same less
      | inr past ↦ let whole = link.past past in absurd (omega arith)
    ];
    past = λ past. link.past (omega arith);
    none = λ between above below before. elim (cases_lt between at) [
      | inl less ↦ link.none between above below less
      | inr past ↦ let e : at ≡ between = omega arith in subst (λ (n : ℕ). is_same_at entities n from ≡ false) e (apart (omega arith))
    ];
  }

  -- the new entity has no next one yet
  new_link : IsLink entities (at + 1) at (length entities)
  new_link = record {
    later = within;
    same = λ before. absurd (omega arith);
    past = λ past. refl;
    none = λ between above below before. absurd (omega arith);
  }

  -- none holds the values, where the next entity doesn't either
  none_stays : (values : List (Option ℕ)) (from : ℕ) → HoldNot entities values from at → same_values (values_at entities at) values ≡ false → HoldNot entities values from (at + 1)
  none_stays values from none apart k above before =
      elim (cases_lt k at) [
        | inl less ↦ none k above less
        | inr past ↦ let e : at ≡ k = omega arith in subst (λ (n : ℕ). same_values (values_at entities n) values ≡ false) e apart
      ]

  -- the last one that holds the values stays so
  last_stays : (values : List (Option ℕ)) (last : Option ℕ) → IsLast entities at values last → same_values (values_at entities at) values ≡ false → IsLast entities (at + 1) values last
  last_stays values None none apart = none_stays values 0 none apart
  last_stays values (Some b) last apart = record {
    within = let h = last.within in omega arith;
    same = last.same;
    none = none_stays values (b + 1) last.none apart;
  }

  -- or it is the next entity
  new_last : (values : List (Option ℕ)) → same_values (values_at entities at) values ≡ true → IsLast entities (at + 1) values (Some at)
  new_last values same = record {
    within = omega arith;
    same = same;
    none = λ k above before. absurd (omega arith);
  }

  -- what is noted once the next entity is
  lasts_after : (last noted : List (Option ℕ) → Option ℕ)
      → ((values : List (Option ℕ)) → length values ≡ length nullables → is_settled nullables values ≡ true → IsLast entities at values (last values))
      → ((values : List (Option ℕ)) → length values ≡ length nullables → noted values ≡ cond (same_values (values_at entities at) values) (Some at) (last values))
      → (values : List (Option ℕ)) → length values ≡ length nullables → is_settled nullables values ≡ true → IsLast entities (at + 1) values (noted values)
  lasts_after last noted was now values long settled =
      elim (same_values (values_at entities at) values) as (λ (b : Bool). same_values (values_at entities at) values ≡ b → IsLast entities (at + 1) values (noted values)) [
        | true ↦ λ same. subst (IsLast entities (at + 1) values) (sym (now values long ∙ ap (λ (b : Bool). cond b (Some at) (last values)) same)) (new_last values same)
        | false ↦ λ apart. subst (IsLast entities (at + 1) values) (sym (now values long ∙ ap (λ (b : Bool). cond b (Some at) (last values)) apart)) (last_stays values (last values) (was values long settled) apart)
      ] refl

  -- the links so far once one more is pushed
  module _ (next : List ℕ) (long : length next ≡ at) where
    pushed_before : (k : ℕ) → k < at → get_or (next ++ length entities ∷ []) k 0 ≡ get_or next k 0
    pushed_before k before = get_or_append_left next (length entities ∷ []) 0 k (omega arith)

    pushed_here : get_or (next ++ length entities ∷ []) at 0 ≡ length entities
    pushed_here = ap (λ (n : ℕ). get_or (next ++ length entities ∷ []) n 0) (sym long) ∙ get_or-append_seam next (length entities) [] 0

    pushed_long : length (next ++ length entities ∷ []) ≡ at + 1
    pushed_long = length-append next (length entities ∷ []) ∙ ap (λ (n : ℕ). n + 1) long

  -- the entity isn't settled
  pub linked_unsettled : (heads next : List ℕ) (last : List (Option ℕ) → Option ℕ) → IsLinked nullables entities at heads next last → is_settled_at nullables entities at ≡ false → IsLinked nullables entities (at + 1) heads (next ++ length entities ∷ []) last
  linked_unsettled heads next last was unsettled = record {
    long = pushed_long next was.long;
    links = λ k before settled. elim (cases_lt k at) [
      | inl less ↦ subst (IsLink entities (at + 1) k) (sym (pushed_before next was.long k less)) (link_stays k (get_or next k 0) (was.links k less settled) (λ after. settled_apart nullables (values_at entities at) (values_at entities k) unsettled settled))
      | inr past ↦ let e : k ≡ at = omega arith in absurd (let wrong : true ≡ false = sym settled ∙ ap (is_settled_at nullables entities) e ∙ unsettled in cc)
    ];
    lasts = λ values long settled. last_stays values (last values) (was.lasts values long settled) (settled_apart nullables (values_at entities at) values unsettled settled);
    pillars = was.pillars ∙ sym (pillars-open nullables entities at within unsettled);
    firsts = was.firsts;
    few = let h = was.few in omega arith;
  }

  -- the entity is the first that holds what it does
  pub linked_new : (heads next : List ℕ) (last noted : List (Option ℕ) → Option ℕ) → IsLinked nullables entities at heads next last → is_settled_at nullables entities at ≡ true → length (values_at entities at) ≡ length nullables
      → last (values_at entities at) ≡ None
      → ((values : List (Option ℕ)) → length values ≡ length nullables → noted values ≡ cond (same_values (values_at entities at) values) (Some at) (last values))
      → IsLinked nullables entities (at + 1) (heads ++ at ∷ []) (next ++ length entities ∷ []) noted
  linked_new heads next last noted was settled short new now =
      let values = values_at entities at in
      let none : HoldNot entities values 0 at = subst (IsLast entities at values) new (was.lasts values short settled) in
      let apart : (k : ℕ) → k < at → is_same_at entities k at ≡ false = λ k before. none k (omega arith) before in
      record {
        long = pushed_long next was.long;
        links = λ k before settled_k. elim (cases_lt k at) [
          | inl less ↦ subst (IsLink entities (at + 1) k) (sym (pushed_before next was.long k less)) (link_stays k (get_or next k 0) (was.links k less settled_k) (λ after. same_flipped values (values_at entities k) ∙ apart k less))
          | inr past ↦ let e : at ≡ k = omega arith in subst (λ (n : ℕ). IsLink entities (at + 1) n (get_or (next ++ length entities ∷ []) n 0)) e (subst (IsLink entities (at + 1) at) (sym (pushed_here next was.long)) new_link)
        ];
        lasts = lasts_after last noted was.lasts now;
        pillars =
            map-append (values_at entities) heads (at ∷ [])
            ∙ ap (λ (front : List (List (Option ℕ))). front ++ values ∷ []) was.pillars
            ∙ sym (pillars-settled nullables entities at false within settled (none_upto entities at values (omega arith) (λ k before. apart k before)));
        firsts = All-append (IsHead nullables entities) heads (at ∷ []) was.firsts (All-cons (IsHead nullables entities) at [] (record { within = within; settled = settled; first = apart }) (All-nil (IsHead nullables entities)));
        few = let h = was.few in let longer = length-append heads (at ∷ []) in omega arith;
      }

  -- the entity comes after another that holds what it does
  pub linked_again : (heads next : List ℕ) (last noted : List (Option ℕ) → Option ℕ) (b : ℕ) → IsLinked nullables entities at heads next last → is_settled_at nullables entities at ≡ true → length (values_at entities at) ≡ length nullables
      → last (values_at entities at) ≡ Some b
      → ((values : List (Option ℕ)) → length values ≡ length nullables → noted values ≡ cond (same_values (values_at entities at) values) (Some at) (last values))
      → IsLinked nullables entities (at + 1) heads (set (next ++ length entities ∷ []) b at) noted
  linked_again heads next last noted b was settled short again now =
      let values = values_at entities at in
      let before : IsLastAt entities at values b = subst (IsLast entities at values) again (was.lasts values short settled) in
      let less_b = before.within in
      let b_is : values_at entities b ≡ values = same_is (values_at entities b) values before.same in
      let pushed = next ++ length entities ∷ [] in
      let long = pushed_long next was.long in
      let to_b : IsLink entities (at + 1) b at = record {
        later = less_b;
        same = λ there. same_flipped values (values_at entities b) ∙ before.same;
        past = λ past. absurd (omega arith);
        none = λ between above below upto. subst (λ (v : List (Option ℕ)). same_values (values_at entities between) v ≡ false) (sym b_is) (before.none between (omega arith) below);
      } in
      let apart : (k : ℕ) → k < at → k ≢ b → is_settled_at nullables entities k ≡ true → at < get_or next k 0 → is_same_at entities at k ≡ false = λ k less other settled_k after.
      (elim (same_values values (values_at entities k)) as (λ (s : Bool). same_values values (values_at entities k) ≡ s → s ≡ false) [
        | false ↦ λ e. refl
        | true ↦ λ same.
            let k_is : values_at entities k ≡ values = sym (same_is values (values_at entities k) same) in
            elim (cases_lt k b) [
              | inl below ↦ sym (is_same (values_at entities b) (values_at entities k) (b_is ∙ sym k_is)) ∙ (was.links k less settled_k).none b below (omega arith) less_b
              | inr above ↦ sym (is_same (values_at entities k) values k_is) ∙ before.none k (omega (arith, other)) less
            ]
      ] refl) in
      record {
        long = length-set pushed b at ∙ long;
        links = λ k upto settled_k. elim (cases_eq k b) [
          | inl e ↦ subst (λ (n : ℕ). IsLink entities (at + 1) n (get_or (set pushed b at) n 0)) (sym e) (subst (IsLink entities (at + 1) b) (sym (get_or-set_same pushed b at 0 (omega arith))) to_b)
          | inr other ↦ subst (IsLink entities (at + 1) k) (sym (get_or-set_other pushed b k at 0 other)) (elim (cases_lt k at) [
            | inl less ↦ subst (IsLink entities (at + 1) k) (sym (pushed_before next was.long k less)) (link_stays k (get_or next k 0) (was.links k less settled_k) (apart k less other settled_k))
            | inr past ↦ let e : at ≡ k = omega arith in subst (λ (n : ℕ). IsLink entities (at + 1) n (get_or pushed n 0)) e (subst (IsLink entities (at + 1) at) (sym (pushed_here next was.long)) new_link)
          ])
        ];
        lasts = lasts_after last noted was.lasts now;
        pillars = was.pillars ∙ sym (pillars-settled nullables entities at true within settled (some_upto entities at b values (omega arith) less_b before.same));
        firsts = was.firsts;
        few = let h = was.few in omega arith;
      }

-- what is noted under keys, by the values that they are made of
pub noted_values : (nullables : List Bool) (values : List (Option ℕ)) (at : ℕ) (key : Key) (old new : Key → Option ℕ) → length nullables ≤ 2 → length values ≡ length nullables → key ≡ key_of values
    → ((q : Key) → new q ≡ cond (is_key key q) (Some at) (old q))
    → (other : List (Option ℕ)) → length other ≡ length nullables → new (key_of other) ≡ cond (same_values values other) (Some at) (old (key_of other))
noted_values nullables values at key old new few short is noted other long =
    noted (key_of other)
    ∙ ap (λ (b : Bool). cond b (Some at) (old (key_of other)))
    (ap (λ (k : Key). is_key k (key_of other)) is ∙ key_same values other (short ∙ sym long) (omega arith))

-- nothing is linked yet
pub none_linked : (nullables : List Bool) (entities : List Raw) (last : List (Option ℕ) → Option ℕ) → ((values : List (Option ℕ)) → last values ≡ None) → IsLinked nullables entities 0 [] [] last
unfolding pillars_of
none_linked nullables entities last empty = record {
  long = refl;
  links = λ at before settled. absurd (omega arith);
  lasts = λ values long settled. subst (IsLast entities 0 values) (sym (empty values)) (λ at above before. absurd (omega arith));
  pillars = refl;
  firsts = All-nil (IsHead nullables entities);
  few = omega arith;
}

-- all are linked
pub all_linked : (nullables : List Bool) (entities : List Raw) (upto : ℕ) (links : LinksView) (last : List (Option ℕ) → Option ℕ) → IsLinked nullables entities upto links.heads links.next last → upto ≡ length entities → AreLinksOf nullables entities links
all_linked nullables entities upto links last linked whole = record {
  long = linked.long ∙ whole;
  next = λ at within settled.
      let link = linked.links at (omega arith) settled in
      record {
        later = link.later;
        within = elim (cases_lt (get_or links.next at 0) upto) [ inl less ↦ omega arith | inr past ↦ let e = link.past past in omega arith ];
        same = λ before. link.same (omega arith);
        none = λ between above below. elim (cases_lt between upto) [
          | inl less ↦ link.none between above below less
          | inr past ↦ let e = link.past (omega arith) in absurd (omega arith)
        ];
      };
  heads = linked.pillars ∙ ap (pillars_of nullables) (take_all upto entities (omega arith));
  firsts = linked.firsts;
  few = let h = linked.few in omega arith;
}
