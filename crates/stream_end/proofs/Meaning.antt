-- An end stands for rows by what they mean.
use Rattle.std.proofs.Common.{◌≡◌, ◌∙◌, ℕ, List, [], ◌∷◌, Option, refl, ap, sym, subst}
use Rattle.std.specs.Option.{option_map_or}
use Rattle.plan_rules.specs.declared.row.Part.{Part}
use Rattle.plan_rules.specs.Bags.{AreSame}
use Rattle.plan_rules.specs.Meaning.{Meaning}
use Rattle.stream_heads.specs.declared.cells.Cell.{Cell}
use Rattle.stream_heads.specs.declared.member.Member.{Member}
use Rattle.stream_heads.specs.Meant.{Rows, meant, row_at}
use Rattle.stream_heads.specs.Sides.{all_numbered}
use Rattle.stream_end.specs.Ends.{IsWeighed}
use Rattle.stream_end.specs.Weights.{kept_sum, weighed, weights_at}
use Rattle.stream_end.proofs.Leading.{kept_weights}

first_same : {X : Type 0} {a b : X} {xs ys : List X} → (a ∷ xs) ≡ (b ∷ ys) → a ≡ b
first_same e = cc

rest_same : {X : Type 0} {a b : X} {xs ys : List X} → (a ∷ xs) ≡ (b ∷ ys) → xs ≡ ys
rest_same e = cc

-- rows that mean the same weigh the same
numbered_same : (m : Meaning) (heads later : Rows) (weigher : Option ℕ) (rows : List (List Cell)) → meant heads rows ≡ meant later rows
    → all_numbered (weights_at m heads weigher) rows ≡ all_numbered (weights_at m later weigher) rows
numbered_same m heads later weigher [] same = refl
numbered_same m heads later weigher (row ∷ rows) same =
    ap (λ (r : List Part). weighed row (option_map_or (λ number. m.weight_of number r) weigher 1) ∷ all_numbered (weights_at m heads weigher) rows) (first_same same)
    ∙ ap (λ (ms : List Member). weighed row (option_map_or (λ number. m.weight_of number (row_at later row)) weigher 1) ∷ ms) (numbered_same m heads later weigher rows (rest_same same))

-- so an end that stands for them does so still
pub weighed_still : (m : Meaning) (heads later : Rows) (weigher : Option ℕ) (rows : List (List Cell)) (kept : List Member) (total : ℕ)
    → meant heads rows ≡ meant later rows → IsWeighed m heads weigher rows kept total → IsWeighed m later weigher rows kept total
weighed_still m heads later weigher rows kept total same stands =
    let numbered = numbered_same m heads later weigher rows same in
    record {
      members = subst (λ (ms : List Member). AreSame kept ms) numbered stands.members;
      fit = stands.fit;
      few = stands.few;
      sum = stands.sum ∙ sym (kept_weights m heads weigher rows) ∙ ap kept_sum numbered ∙ kept_weights m later weigher rows;
    }
