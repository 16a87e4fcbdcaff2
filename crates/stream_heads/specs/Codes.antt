-- How the values of heads are kept.
use Rattle.std.specs.Prelude.{◌≡◌, ℕ, ℤ, pos, List, [], ◌∷◌, Option, refl}
use Rattle.std.specs.Coded.{Coded, code_by, coded×, coded_list, coded_option, coded_ℕ, coded_ℤ}
use Rattle.tuple_store.specs.View.{StoreView, view_code}
use Rattle.plan_facts.specs.declared.record.Rec.{Rec}
use Rattle.plan_facts.specs.declared.record.Value.{Value}
use Rattle.plan_rules.specs.declared.row.Part.{Part}
use Rattle.plan_rules.specs.declared.row.Part.TheVariants.{Fact, Num}

-- a value is kept as the pair of its fields
abbrev pub value_code : Coded Value
value_code =
    code_by
    (ℕ × List ℤ)
    (coded× coded_ℕ (coded_list coded_ℤ))
    (λ v. (v.id, v.fields))
    (λ p. record { id = p.0; fields = p.1 })
    (λ _. refl)

-- a record is kept as the tuple of its fields
abbrev pub rec_code : Coded Rec
rec_code =
    code_by
    (ℕ × (ℕ × (List ℤ × List (Option Value))))
    (coded× coded_ℕ (coded× coded_ℕ (coded× (coded_list coded_ℤ) (coded_list (coded_option value_code)))))
    (λ r. (r.class, (r.id, (r.fields, r.planned))))
    (λ p. record { class = p.0; id = p.1.0; fields = p.1.1.0; planned = p.1.1.1 })
    (λ _. refl)

-- a part is a record or a number
abbrev pub part_from : List Rec × ℤ → Part
part_from ([], n) = Num n
part_from (rec ∷ rest, n) = Fact rec

-- and the other way round
abbrev pub part_to : Part → List Rec × ℤ
part_to (Fact rec) = (rec ∷ [], pos 0)
part_to (Num n) = ([], n)

pub part_back : (part : Part) → part_from (part_to part) ≡ part
part_back (Fact rec) = refl
part_back (Num n) = refl

-- a part is kept as a record or a number
abbrev pub part_code : Coded Part
part_code = code_by (List Rec × ℤ) (coded× (coded_list rec_code) coded_ℤ) part_to part_from part_back

-- rows under places, with trials
abbrev pub heads_code : Coded (StoreView (List Part))
heads_code = view_code (coded_list part_code)
