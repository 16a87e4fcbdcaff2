-- The keys by which harder entities are placed first.
use Rattle.std.specs.Prelude.{◌==◌, ℕ, ℤ, pos, List, Option, find, option_map}
use Rattle.std.specs.Option.{option_map_or}
use Rattle.plan_facts.specs.declared.record.Rec.{Rec}
use Rattle.plan_rules.specs.declared.rule.Harder.{Harder}
use Rattle.plan_rules.specs.Meaning.{Meaning}
use Rattle.plan_rules.specs.Rows.{row_of}

-- the number of a class's harder key; none where no member names the class
abbrev pub harder_key : List Harder → ℕ → Option ℕ
harder_key harder class = option_map (λ one. one.key) (find (λ one. one.class == class) harder)

-- how hard a record of a class is to place: its class's harder key on its row, or 0 where the class has none
abbrev pub difficulty_of : Meaning → List Harder → ℕ → Rec → ℤ
difficulty_of m harder class rec = option_map_or (λ key. m.key_of key (row_of rec)) (harder_key harder class) (pos 0)
