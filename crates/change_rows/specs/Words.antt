-- What tests call that which is wrong with a line.
use Rattle.std.specs.Prelude.{ℕ, List, codes}
use Rattle.plan_changes.specs.declared.line.Spot.{Spot}
use Rattle.plan_changes.specs.declared.line.Spot.TheVariants as spot

-- the words of what is wrong with a line
abbrev pub spot_words : Spot → List ℕ
spot_words spot.Json = codes "syntax json"
spot_words spot.Object = codes "syntax object"
spot_words spot.Do = codes "syntax do"
spot_words spot.Class = codes "syntax class"
spot_words spot.Id = codes "syntax id"
spot_words spot.Fields = codes "syntax fields"
spot_words spot.Values = codes "syntax values"
spot_words spot.Rule = codes "syntax rule"
spot_words spot.Weight = codes "syntax weight"
spot_words spot.Member = codes "syntax member"
