-- The first best of a list, member by member.
use Rattle.std.proofs.Common.{◌≡◌, ◌∙◌, Bool, true, false, cond, Some, None, List, [], ◌∷◌, ◌++◌, append_assoc, append-nil, fold, refl, sym, ap, subst, All, IsTrue}
use Rattle.std.specs.Ordering.{is_lt, is_gt, is_ge, ordering_reverse}
use Rattle.std.specs.declared.cmp.Ordering.{Ordering}
use Rattle.std.specs.declared.cmp.Ordering.TheVariants.{Less, Equal, Greater}
use Rattle.std.proofs.lemmas.List.Elements.{All-nil, All-cons, All-append, All-weaker}
use Rattle.std.proofs.lemmas.List.Sums.{fold-append}
use Rattle.plan_scores.specs.declared.plan_score.PlanScore.{PlanScore}
use Rattle.plan_scores.specs.Order.{plan_score_cmp, is_better_plan, is_worse_plan, is_no_worse_plan}
use Rattle.plan_scores.specs.Total.{plan_score_cmp_total}
use Rattle.plan_scores.specs.Best.{better_of, first_best, or_better, IsFirstBest, FirstBestIsFirst}

-- the first best of a list and one more member
pub first_best-push : {A : Type 0} (score : A → PlanScore) (xs : List A) (x : A) → first_best score (xs ++ x ∷ []) ≡ Some (or_better score (first_best score xs) x)
first_best-push score [] x = refl
first_best-push score (first ∷ rest) x = ap (λ best. Some best) (fold-append _ first rest (x ∷ []))

is_lt_less : (o : Ordering) → is_lt o ≡ true → o ≡ Less
is_lt_less Less e = refl
is_lt_less Equal e = cc
is_lt_less Greater e = cc

worse_back : (o : Ordering) → is_gt o ≡ true → is_lt (ordering_reverse o) ≡ true
worse_back Less e = cc
worse_back Equal e = cc
worse_back Greater e = refl

no_worse_back : (o : Ordering) → is_gt o ≡ false → is_ge (ordering_reverse o) ≡ true
no_worse_back Less e = refl
no_worse_back Equal e = refl
no_worse_back Greater e = cc

-- the worse of two, from the better one
better_back : (a b : PlanScore) → is_better_plan a b ≡ true → is_worse_plan b a ≡ true
better_back a b better = ap is_lt (plan_score_cmp_total.antisymm b a) ∙ worse_back (plan_score_cmp a b) better

not_better_back : (a b : PlanScore) → is_better_plan a b ≡ false → is_no_worse_plan b a ≡ true
not_better_back a b better = ap is_ge (plan_score_cmp_total.antisymm b a) ∙ no_worse_back (plan_score_cmp a b) better

worse_trans : (a b c : PlanScore) → is_worse_plan a b ≡ true → is_worse_plan b c ≡ true → is_worse_plan a c ≡ true
worse_trans a b c ab bc = ap is_lt (plan_score_cmp_total.trans a b c (is_lt_less _ ab) (is_lt_less _ bc))

no_better : (o : Ordering) → is_ge o ≡ true → is_lt o ≡ false
no_better Less e = cc
no_better Equal e = refl
no_better Greater e = refl

-- what is no better than one that is worse is worse
worse_than : (o p q : Ordering) → o ≡ ordering_reverse p → is_ge p ≡ true → (is_lt o ≡ true → is_lt q ≡ true) → (o ≡ Equal → q ≡ Less) → is_lt q ≡ true
worse_than o Less q is ge less equal = cc
worse_than o Equal q is ge less equal = ap is_lt (equal is)
worse_than o Greater q is ge less equal = less (ap is_lt is)

below_worse : (a b c : PlanScore) → is_no_worse_plan b a ≡ true → is_worse_plan b c ≡ true → is_worse_plan a c ≡ true
below_worse a b c ge bc =
    worse_than (plan_score_cmp a b) (plan_score_cmp b a) (plan_score_cmp a c) (plan_score_cmp_total.antisymm a b) ge
    (λ ab. worse_trans a b c ab bc)
    (λ tied. plan_score_cmp_total.congr a b c tied ∙ is_lt_less _ bc)

module _ {A : Type 0} (score : A → PlanScore) where
  -- one alone
  one_alone : (x : A) → IsFirstBest score (x ∷ []) x
  one_alone x = record { place = record { before = []; after = []; is = refl }; better = All-nil _; as_good = All-nil _ }

  -- a better member behind a list
  push_better : (xs : List A) (best x : A) → IsFirstBest score xs best → is_better_plan (score x) (score best) ≡ true → IsFirstBest score (xs ++ x ∷ []) x
  push_better xs best x was better =
      let P : A → Type 0 = λ other. IsTrue (is_worse_plan (score other) (score x)) in
      let less = better_back (score x) (score best) better in
      let before : All P was.place.before = All-weaker (λ other. IsTrue (is_worse_plan (score other) (score best))) P (λ other h. worse_trans (score other) (score best) (score x) h less) was.place.before was.better in
      let after : All P was.place.after = All-weaker (λ other. IsTrue (is_no_worse_plan (score best) (score other))) P (λ other h. below_worse (score other) (score best) (score x) h less) was.place.after was.as_good in
      record {
        place = record { before = xs; after = []; is = refl };
        better = subst (All P) was.place.is (All-append P was.place.before (best ∷ was.place.after) before (All-cons P best was.place.after less after));
        as_good = All-nil _;
      }

  -- a member that is no better behind a list
  push_other : (xs : List A) (best x : A) → IsFirstBest score xs best → is_better_plan (score x) (score best) ≡ false → IsFirstBest score (xs ++ x ∷ []) best
  push_other xs best x was better =
      let P : A → Type 0 = λ other. IsTrue (is_no_worse_plan (score best) (score other)) in
      record {
        place = record {
          before = was.place.before;
          after = was.place.after ++ x ∷ [];
          is = sym (append_assoc was.place.before (best ∷ was.place.after) (x ∷ [])) ∙ ap (λ (all : List A). all ++ x ∷ []) was.place.is;
        };
        better = was.better;
        as_good = All-append P was.place.after (x ∷ []) was.as_good (All-cons P x [] (not_better_back (score x) (score best) better) (All-nil P));
      }

  push_any : (xs : List A) (best x : A) → IsFirstBest score xs best → IsFirstBest score (xs ++ x ∷ []) (better_of score best x)
  push_any xs best x was =
      elim (is_better_plan (score x) (score best)) as (λ (b : Bool). is_better_plan (score x) (score best) ≡ b → IsFirstBest score (xs ++ x ∷ []) (cond b x best)) [
        | true ↦ λ better. push_better xs best x was better
        | false ↦ λ other. push_other xs best x was other
      ] refl

  best_from : (xs : List A) (best : A) (rest : List A) → IsFirstBest score xs best → IsFirstBest score (xs ++ rest) (fold (better_of score) best rest)
  best_from xs best [] was = subst (λ (all : List A). IsFirstBest score all best) (sym (append-nil xs)) was
  best_from xs best (x ∷ rest) was =
      subst (λ (all : List A). IsFirstBest score all (fold (better_of score) (better_of score best x) rest)) (append_assoc xs (x ∷ []) rest)
      (best_from (xs ++ x ∷ []) (better_of score best x) rest (push_any xs best x was))

-- the first best of a list is its first best member
pub first_best_first : (A : Type 0) → FirstBestIsFirst A
first_best_first A score [] one is = absurd (let e : None ≡ Some one = is in cc)
first_best_first A score (first ∷ rest) one is =
    let same : fold (better_of score) first rest ≡ one = cc in
    subst (IsFirstBest score (first ∷ rest)) same (best_from score (first ∷ []) first rest (one_alone score first))
