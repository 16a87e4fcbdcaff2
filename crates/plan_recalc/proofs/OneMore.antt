-- The matches and the score of all rules, one rule after the other.
use Rattle.std.proofs.Common.{◌≡◌, ◌∙◌, ℕ, ◌+◌, ◌*◌, ◌<◌, ◌≤◌, List, [], ◌∷◌, ◌++◌, map, drop, get_or, length, ap, sym, subst, arith}
use Rattle.std.specs.List.{flat_map}
use Rattle.std.proofs.Math.Nat.{mul-le-mul_right}
use Rattle.std.proofs.lemmas.List.{drop_more, drop_all, get_or-map, length-append, length-map, length_push, map_push, append_assoc, append-nil}
use Rattle.std.proofs.lemmas.List.Sums.{sum_by-cons, sum_by_push}
use Rattle.plan_scores.specs.declared.score.Score.{Score}
use Rattle.plan_scores.specs.Sum.{IsWithin, add_scores, sum_of, zero_score}
use Rattle.plan_scores.proofs.Summed.{sum_of-append, add_scores_assoc, add_scores-zero, zero-add_scores, IsWithin-add_scores}
use Rattle.plan_rules.specs.declared.row.Match.{Match}
use Rattle.plan_rules.specs.declared.row.Part.{Part}
use Rattle.plan_rules.specs.declared.rule.RuleDef.{RuleDef}
use Rattle.plan_rules.specs.Limits.{score_limit}
use Rattle.plan_rules.specs.Meaning.{Meaning}
use Rattle.plan_rules.specs.Rows.{Facts, rule_rows}
use Rattle.plan_rules.specs.Range.{AreWithin, Capped, cap_of, rule_bound, impact_bound, score_bound, weighed}
use Rattle.plan_rules.specs.Totals.{matches_of, all_matches, impacts_of, impact_sum, score_of}
use Rattle.plan_rules.proofs.Lengths.{length-rule_rows-le}
use Rattle.plan_recalc.specs.RulesFrom.{AreTotals, LeavesRoom, bound_from, matches_from, score_from}
use Rattle.plan_recalc.specs.Size.{all_sizes, impact_sizes, row_size, rule_size}
use Rattle.plan_recalc.specs.Totals.{match_of}
use Rattle.plan_recalc.proofs.Sizes.{sum_within}

-- the first of the rules from a place on, and those after it
pub next_matches : (m : Meaning) (f : Facts) (defs : List RuleDef) (weights : List ℕ) (k weight : ℕ) (rule : RuleDef) (ms : List Match) → k < length defs → k < length weights → rule ≡ get_or defs k rule → weight ≡ get_or weights k 0 →
    ms ≡ matches_of m f rule weight → matches_from m f defs weights k ≡ ms ∷ matches_from m f defs weights (k + 1)
next_matches m f defs weights k weight rule ms there there' read weighed is =
    let later = matches_from m f defs weights (k + 1) in
    (λ i. all_matches m f (drop_more defs k rule there i) (drop_more weights k 0 there' i))
    ∙ ap (λ (first : List Match). first ∷ later) (sym (is ∙ (λ i. matches_of m f (read i) (weighed i))))

-- the matches after one more rule
pub matches_more : (all so_far later later' : List (List Match)) (ms : List Match) → all ≡ so_far ++ later → later ≡ ms ∷ later' → all ≡ (so_far ++ ms ∷ []) ++ later'
matches_more all so_far later later' ms before next =
    before ∙ ap (λ (rest : List (List Match)). so_far ++ rest) next ∙ sym (append_assoc so_far (ms ∷ []) later')

pub matches_end : (m : Meaning) (f : Facts) (defs : List RuleDef) (weights : List ℕ) (k : ℕ) (all so_far : List (List Match)) → length defs ≤ k → all ≡ so_far ++ matches_from m f defs weights k → so_far ≡ all
matches_end m f defs weights k all so_far end before =
    sym (before ∙ ap (λ (rest : List RuleDef). so_far ++ all_matches m f rest (drop k weights)) (drop_all k defs end) ∙ append-nil so_far)

-- the score after one more rule
pub score_more : (m : Meaning) (f : Facts) (defs : List RuleDef) (weights : List ℕ) (k : ℕ) (ms : List Match) (total so_far : Score) → matches_from m f defs weights k ≡ ms ∷ matches_from m f defs weights (k + 1) →
    total ≡ add_scores so_far (score_from m f defs weights k) → total ≡ add_scores (add_scores so_far (impact_sum ms)) (score_from m f defs weights (k + 1))
unfolding score_of
score_more m f defs weights k ms total so_far next before =
    let later = matches_from m f defs weights (k + 1) in
    before ∙ ap (λ (matches : List (List Match)). add_scores so_far (sum_of (flat_map impacts_of matches))) next
    ∙ ap (add_scores so_far) (sum_of-append (impacts_of ms) (flat_map impacts_of later))
    ∙ sym (add_scores_assoc so_far (impact_sum ms) (sum_of (flat_map impacts_of later)))

pub score_end : (m : Meaning) (f : Facts) (defs : List RuleDef) (weights : List ℕ) (k : ℕ) (total so_far : Score) → length defs ≤ k → total ≡ add_scores so_far (score_from m f defs weights k) → so_far ≡ total
unfolding score_of
score_end m f defs weights k total so_far end before =
    sym (before ∙ ap (λ (rest : List RuleDef). add_scores so_far (score_of m f rest (drop k weights))) (drop_all k defs end) ∙ add_scores-zero so_far)

-- the bound of the rules from a place on is that of the first and of those after it
pub bound_from-more : (ws : List Capped) (defs : List RuleDef) (caps weights sizes : List ℕ) (k weight : ℕ) (rule : RuleDef) → caps ≡ map (cap_of ws) defs → k < length defs → k < length weights → rule ≡ get_or defs k rule → weight ≡ get_or weights k 0 →
    bound_from defs caps weights sizes k ≡ rule_size sizes ws rule weight + bound_from defs caps weights sizes (k + 1)
bound_from-more ws defs caps weights sizes k weight rule are there there' read weighs =
    let count : length caps ≡ length defs = ap (λ (cs : List ℕ). length cs) are ∙ length-map defs (cap_of ws) in
    let there'' : k < length caps = rw count there in
    let cap : get_or caps k 0 ≡ cap_of ws rule = ap (λ (cs : List ℕ). get_or cs k 0) are ∙ get_or-map (cap_of ws) defs k rule 0 there ∙ ap (cap_of ws) (sym read) in
    let later = bound_from defs caps weights sizes (k + 1) in
    (λ i. score_bound sizes (weighed (drop_more defs k rule there i) (drop_more weights k 0 there' i) (drop_more caps k 0 there'' i)))
    ∙ sum_by-cons (impact_bound sizes) (record { rule = get_or defs k rule; weight = get_or weights k 0; cap = get_or caps k 0 }) (weighed (drop (k + 1) defs) (drop (k + 1) weights) (drop (k + 1) caps))
    ∙ (λ i. rule_bound sizes (sym read i) * sym weighs i * cap i + later)

-- where there is room for impacts, they are small enough
pub small_impacts : (bound : ℕ) (score : Score) (ms : List Match) → LeavesRoom bound score → impact_sizes ms ≤ bound → impact_sizes ms ≤ score_limit
small_impacts bound score ms room few = omega (arith, room.few, few)

-- there is room for less
pub room_for_less : (bound size : ℕ) (score : Score) → size ≤ bound → LeavesRoom bound score → LeavesRoom size score
room_for_less bound size score less room = record { most = room.most; within = room.within; few = omega (arith, room.few) }

-- and after matches for which there is room, there is room for what more there was room for
pub room_after : (bound later : ℕ) (score : Score) (ms : List Match) → impact_sizes ms + later ≤ bound → LeavesRoom bound score → LeavesRoom later (add_scores score (impact_sum ms))
room_after bound later score ms less room = record {
  most = room.most + impact_sizes ms;
  within = IsWithin-add_scores room.most (impact_sizes ms) score (impact_sum ms) room.within (sum_within ms);
  few = omega (arith, room.few, less);
}

-- before the first rule nothing is found
pub no_totals : (m : Meaning) (f : Facts) (defs : List RuleDef) (caps weights sizes : List ℕ) (found : List (List Match)) (sums : List Score) (total : Score) → found ≡ [] → sums ≡ [] → total ≡ zero_score → bound_from defs caps weights sizes 0 ≤ score_limit → AreTotals m f defs caps weights sizes 0 found sums total
no_totals m f defs caps weights sizes found sums total none none' zero few =
    let size : all_sizes found ≡ 0 = ap all_sizes none in
    let nothing : IsWithin 0 zero_score = record { hard = omega arith; medium = omega arith; soft = omega arith } in
    record {
      count = ap (λ (all : List (List Match)). length all) none;
      matches = ap (λ (all : List (List Match)). all ++ matches_from m f defs weights 0) (sym none);
      score = sym (ap (λ (s : Score). add_scores s (score_from m f defs weights 0)) zero ∙ zero-add_scores (score_from m f defs weights 0));
      room = record { most = 0; within = subst (IsWithin 0) (sym zero) nothing; few = omega (arith, few) };
      small = omega (arith, size, few);
      impacts = none' ∙ ap (map impact_sum) (sym none);
    }

-- what lists have at the same place, where the same is made of both
at_same_place : {X Y Z : Type 0} (made : X → Y) (asked : Z → Y) (before rest : List X) (x : X) (zs : List Z) (z : Z) → map made (before ++ x ∷ rest) ≡ map asked zs → z ≡ get_or zs (length before) z → made x ≡ asked z
at_same_place made asked [] rest x [] z same read = cc
at_same_place made asked [] rest x (y ∷ zs) z same read =
    let first : made x ≡ asked y = cc in first ∙ ap asked (sym read)
at_same_place made asked (b ∷ before) rest x [] z same read = cc
at_same_place made asked (b ∷ before) rest x (y ∷ zs) z same read =
    let later : map made (before ++ x ∷ rest) ≡ map asked zs = cc in at_same_place made asked before rest x zs z later read

-- where the same is made of both, they are as long
as_long : {X Y Z : Type 0} (made : X → Y) (asked : Z → Y) (xs before rest : List X) (zs : List Z) → map made xs ≡ map asked zs → xs ≡ before ++ rest → length before + length rest ≡ length zs
as_long made asked xs before rest zs same split =
    sym (ap (λ (ys : List _). length ys) split ∙ length-append before rest) ∙ sym (length-map xs made) ∙ ap (λ (ys : List _). length ys) same ∙ length-map zs asked

-- at the end nothing is left
pub all_before : {X Y Z : Type 0} (made : X → Y) (asked : Z → Y) (xs before rest : List X) (zs : List Z) → map made xs ≡ map asked zs → xs ≡ before ++ rest → length rest ≡ 0 → length zs ≤ length before
all_before made asked xs before rest zs same split none = omega (arith, as_long made asked xs before rest zs same split, none)

-- the rule at a place with its weight and its rows
pub record IsRuleAt (m : Meaning) (f : Facts) (defs : List RuleDef) (weights : List ℕ) (k weight : ℕ) (rule : RuleDef) (rows : List (List Part)) : Type 0 where
  pub there : k < length defs
  pub there' : k < length weights
  pub read : rule ≡ get_or defs k rule
  pub weighs : weight ≡ get_or weights k 0
  pub rows_are : rows ≡ rule_rows m f rule

-- it is that whose rows are next
pub rule_at : {X : Type 0} (made : X → List (List Part)) (m : Meaning) (f : Facts) (defs slice : List RuleDef) (weights : List ℕ) (place : ℕ) (rule : RuleDef) (all before rest : List X) (x : X) → map made all ≡ map (rule_rows m f) defs → all ≡ before ++ x ∷ rest →
    length weights ≡ length defs → place ≡ length before → slice ≡ defs → rule ≡ get_or slice place rule → IsRuleAt m f defs weights (length before) (get_or weights place 0) rule (made x)
rule_at made m f defs slice weights place rule all before rest x same split each at is read =
    let long : length before + length (x ∷ rest) ≡ length defs = as_long made (rule_rows m f) all before (x ∷ rest) defs same split in
    let read' : rule ≡ get_or defs (length before) rule = read ∙ (λ i. get_or (is i) (at i) rule) in
    record {
      there = omega (arith, long);
      there' = omega (arith, long, each);
      read = read';
      weighs = ap (λ (n : ℕ). get_or weights n 0) at;
      rows_are = at_same_place made (rule_rows m f) before rest x defs rule (sym (ap (map made) split) ∙ same) read';
    }

module _ (m : Meaning) (f : Facts) (defs : List RuleDef) (ws : List Capped) (caps weights sizes : List ℕ) (k weight : ℕ) (rule : RuleDef) (rows : List (List Part)) (found : List (List Match)) (sums : List Score) (total : Score)
    (are : caps ≡ map (cap_of ws) defs) (few : AreWithin sizes f) (here : IsRuleAt m f defs weights k weight rule rows) (so_far : AreTotals m f defs caps weights sizes k found sums total) where
  -- what the rule's rows can add up to is within what it can
  within_bound : length rows * row_size ws rule weight + bound_from defs caps weights sizes (k + 1) ≤ bound_from defs caps weights sizes k
  within_bound =
      let rows_few : length rows ≤ rule_bound sizes rule = rw (here.rows_are) (length-rule_rows-le m f sizes rule few) in
      omega (arith, mul-le-mul_right (weight * cap_of ws rule) rows_few, bound_from-more ws defs caps weights sizes k weight rule are here.there here.there' here.read here.weighs)

  -- there is room for its impacts
  pub room_here : LeavesRoom (length rows * row_size ws rule weight) total
  room_here = room_for_less (bound_from defs caps weights sizes k) (length rows * row_size ws rule weight) total (omega (arith, within_bound)) so_far.room

  -- and these are the totals after it
  pub totals_more : (ms : List Match) (impact grown : Score) (found' : List (List Match)) (sums' : List Score) → ms ≡ map (match_of m rule weight) rows → impact_sizes ms ≤ length rows * row_size ws rule weight → impact ≡ impact_sum ms → grown ≡ add_scores total impact →
      found' ≡ found ++ ms ∷ [] → sums' ≡ sums ++ impact ∷ [] → AreTotals m f defs caps weights sizes (k + 1) found' sums' grown
  totals_more ms impact grown found' sums' ms_are small summed added pushed pushed' =
      let later = bound_from defs caps weights sizes (k + 1) in
      let less : impact_sizes ms + later ≤ bound_from defs caps weights sizes k = omega (arith, small, within_bound) in
      let next = next_matches m f defs weights k weight rule ms here.there here.there' here.read here.weighs (ms_are ∙ ap (map (match_of m rule weight)) here.rows_are) in
      let grown_is : grown ≡ add_scores total (impact_sum ms) = added ∙ ap (add_scores total) summed in
      let size : all_sizes found' ≡ all_sizes found + impact_sizes ms = ap all_sizes pushed ∙ sum_by_push impact_sizes found ms in
      record {
        count = ap (λ (all : List (List Match)). length all) pushed ∙ length_push found ms ∙ ap (λ (n : ℕ). n + 1) so_far.count;
        matches = matches_more (all_matches m f defs weights) found (matches_from m f defs weights k) (matches_from m f defs weights (k + 1)) ms so_far.matches next
            ∙ ap (λ (all : List (List Match)). all ++ matches_from m f defs weights (k + 1)) (sym pushed);
        score = score_more m f defs weights k ms (score_of m f defs weights) total next so_far.score
            ∙ ap (λ (s : Score). add_scores s (score_from m f defs weights (k + 1))) (sym grown_is);
        room = subst (LeavesRoom later) (sym grown_is) (room_after (bound_from defs caps weights sizes k) later total ms less so_far.room);
        small = omega (arith, size, less, so_far.small);
        impacts = pushed' ∙ (λ i. so_far.impacts i ++ summed i ∷ []) ∙ sym (map_push impact_sum found ms) ∙ ap (map impact_sum) (sym pushed);
      }
