-- What the rows at a rule's end add up to, and that an end stands for them by what they mean.
use Rattle.std.specs.Prelude.{◌≡◌, ℕ, List, Option, sum_by}
use Rattle.plan_rules.specs.declared.rule.RuleDef.{RuleDef}
use Rattle.plan_rules.specs.Meaning.{Meaning}
use Rattle.plan_rules.specs.Totals.{match_weight}
use Rattle.stream_heads.specs.declared.cells.Cell.{Cell}
use Rattle.stream_heads.specs.declared.member.Member.{Member}
use Rattle.stream_heads.specs.Meant.{Rows, meant}
use Rattle.stream_end.specs.Ends.{IsWeighed}
use Rattle.stream_end.specs.Weights.{weight_sum}

-- rows at a rule's end add up to the match weights of what they mean
abbrev pub EndSumsAreMatchWeights : Type 0
EndSumsAreMatchWeights = (m : Meaning) (heads : Rows) (rule : RuleDef) (rows : List (List Cell))
    → weight_sum m heads rule.weigh rows ≡ sum_by (match_weight m rule) (meant heads rows)

-- where heads change, and rows mean what they meant, an end that stood for them still does
abbrev pub EndsStandByMeaning : Type 0
EndsStandByMeaning = (m : Meaning) (heads later : Rows) (weigher : Option ℕ) (rows : List (List Cell))
    (kept : List Member) (total : ℕ) → meant heads rows ≡ meant later rows
    → IsWeighed m heads weigher rows kept total → IsWeighed m later weigher rows kept total
