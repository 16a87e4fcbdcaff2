-- What the restaurant's closures answer at a row, and its rules.
use Rattle.std.specs.Prelude.{◌==◌, ℕ, ℤ, pos, codes, Bool, false, List, [], ◌∷◌, Option, if◌then◌else◌}
use Rattle.plan_scores.specs.declared.level.Level.TheVariants.{Hard, Soft}
use Rattle.plan_rules.specs.Meaning.{Meaning}
use Rattle.plan_rules.specs.declared.row.Part.{Part}
use Rattle.plan_rules.specs.declared.rule.Head.TheVariants.{ForEach, Pairs}
use Rattle.plan_rules.specs.declared.rule.Node.TheVariants.{Filter}
use Rattle.plan_rules.specs.declared.rule.RuleDef.{RuleDef}
use Rattle.domain_words.specs.Numbers.{both, excess_weight, is_above, key_or_zero, weight_cap}
use Rattle.domain_words.specs.Read.{field_at, held_field_at, held_id_at}
use Rattle.domain_words.specs.Tables.{penalty, same_key, weighed_penalty}
use Rattle.uses.specs.Classes.{party}

-- how many guests the party that begins the row has: its second field
abbrev pub guests_at : List Part → Option ℤ
guests_at row = field_at row 0 party 1

-- how many seats its table has: the first field of what its variable holds
abbrev pub seats_at : List Part → Option ℤ
seats_at row = held_field_at row 0 party 0 0

-- a test: more guests come than the party's table has seats
abbrev pub lacks_seats : List Part → Bool
lacks_seats row = both is_above (guests_at row) (seats_at row)

-- a key: the id of the party's table
abbrev pub table_of : List Part → ℤ
table_of row = key_or_zero (held_id_at row 0 party 0)

-- a weigher: how many guests of the party have no seat, and the most that it counts
abbrev pub guests_standing : List Part → ℕ
guests_standing row = excess_weight (guests_at row) (seats_at row)

abbrev pub most_standing : ℕ
most_standing = weight_cap

-- the numbers of the closures, each kind by itself
abbrev pub test_lacks_seats : ℕ
test_lacks_seats = 0

abbrev pub key_table : ℕ
key_table = 0

abbrev pub weigh_standing : ℕ
weigh_standing = 0

-- the book: what the closure of each kind with a number answers; false or 0 where there is none
abbrev pub restaurant_meaning : Meaning
restaurant_meaning = record {
  test_of = λ number row. if number == test_lacks_seats then lacks_seats row else false;
  key_of = λ number row. if number == key_table then table_of row else pos 0;
  weight_of = λ number row. if number == weigh_standing then guests_standing row else 0;
}

-- two parties at one table
abbrev pub shared : RuleDef
shared = penalty (codes "shared") Hard (Pairs party (same_key key_table ∷ [])) []

-- a party with more guests than its table has seats, once for each guest who stands
abbrev pub standing : RuleDef
standing =
    weighed_penalty (codes "standing") Soft weigh_standing (ForEach party) (Filter test_lacks_seats ∷ [])

-- the rules in order
abbrev pub restaurant_rules : List RuleDef
restaurant_rules = shared ∷ standing ∷ []
