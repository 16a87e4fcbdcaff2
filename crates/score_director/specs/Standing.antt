-- What a network stands for from call to call.
use Rattle.std.specs.Prelude.{◌≡◌, ℕ, false, List, map}
use Rattle.std.specs.List.{AllZip}
use Rattle.plan_rules.specs.declared.row.Part.{Part}
use Rattle.plan_rules.specs.declared.rule.RuleDef.{RuleDef}
use Rattle.plan_rules.specs.Bags.{AreSame}
use Rattle.plan_rules.specs.Faults.{lacks_room}
use Rattle.plan_rules.specs.Meaning.{Meaning}
use Rattle.plan_rules.specs.Named.{head_parts}
use Rattle.plan_rules.specs.Rows.{Facts}
use Rattle.stream_heads.specs.Meant.{Rows, meant}
use Rattle.stream_end.specs.Weights.{cells_of}
use Rattle.score_director.specs.declared.rule.RuleNet.{RuleNet}
use Rattle.score_director.specs.Net.{NetView, StandsForFacts}
use Rattle.score_director.specs.Rule.{HasRolledBack}

-- a network stands for facts
abbrev pub NetStands : Meaning → List RuleDef → NetView → Facts → Type 0
NetStands m defs net facts = StandsForFacts m defs net.heads.now net.rules facts

-- what a rollback brings back stands for facts
abbrev pub StoodBefore : Meaning → List RuleDef → NetView → Facts → Type 0
StoodBefore m defs net facts =
    (nets : List RuleNet) → AllZip HasRolledBack net.rules nets → StandsForFacts m defs net.heads.base nets facts

-- there is room for each record that a rule puts beside a row
abbrev pub HasRoomBeside : RuleDef → Type 0
HasRoomBeside def = lacks_room (head_parts def.head) def.nodes ≡ false

-- what the matches of each rule weigh together by its end
abbrev pub totals_of : List RuleNet → List ℕ
totals_of nets = map (λ net. net.end.total) nets

-- what the rows at the end of a rule mean, in the order in which they are kept
abbrev pub rows_kept : Rows → RuleNet → List (List Part)
rows_kept heads net = meant heads (cells_of net.end.now)

-- these are the rows kept at the end of a rule, in any order
abbrev pub AreRowsKept : Rows → RuleNet → List (List Part) → Type 0
AreRowsKept heads net rows = AreSame rows (rows_kept heads net)
