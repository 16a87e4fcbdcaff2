-- Records that are looked up by their class and id.
use Rattle.std.proofs.Common.{◌≡◌, ◌∙◌, ◌==◌, ◌&&◌, ℕ, pos, List, [], ◌∷◌, Bool, true, false, Option, Some, None, refl, sym, ap}
use Rattle.std.specs.Option.{option_and_then}
use Rattle.std.specs.FinMap as finmap
use Rattle.std.proofs.lemmas.Bool.Decides.{Decides-eqb}
use Rattle.plan_facts.specs.declared.record.Rec.{Rec}
use Rattle.plan_moves.specs.declared.edit.Touch.{Touch}
use Rattle.plan_rules.specs.declared.row.Part.{Part}
use Rattle.plan_rules.specs.declared.row.Part.TheVariants.{Fact, Num}
use Rattle.stream_heads.specs.Meant.{Rows}
use Rattle.stream_heads.specs.Numbers.{head_numbers}
use Rattle.head_changes.specs.Turns.{fact_at, fact_in, has_key}

-- a record with this key stands at the place
pub record KeyAt (heads : Rows) (key : Touch) (place : ℕ) : Type 0 where
  pub row : List Part
  pub rec : Rec
  pub there : finmap.get heads place ≡ Some row
  pub is : fact_in row ≡ Some rec
  pub class : rec.class ≡ key.class
  pub id : rec.id ≡ key.id
  pub numbers : head_numbers row ≡ pos key.class ∷ pos key.id ∷ []

true_false : false ≡ true → ⊥
true_false e = cc

and-first : (a b : Bool) → (a && b) ≡ true → a ≡ true
and-first true b t = refl
and-first false b t = t

and-second : (a b : Bool) → (a && b) ≡ true → b ≡ true
and-second true b t = t
and-second false b t = absurd (true_false t)

at_row : (heads : Rows) (key : Touch) (place : ℕ) (row : List Part) → finmap.get heads place ≡ Some row → has_key key (fact_in row) ≡ true → KeyAt heads key place
at_row heads key place [] there is = absurd (true_false is)
at_row heads key place (Num n ∷ rest) there is = absurd (true_false is)
at_row heads key place (Fact rec ∷ rest) there is =
    let class : rec.class ≡ key.class = (Decides-eqb rec.class key.class).0 (and-first (rec.class == key.class) (rec.id == key.id) is) in
    let id : rec.id ≡ key.id = (Decides-eqb rec.id key.id).0 (and-second (rec.class == key.class) (rec.id == key.id) is) in
    record { row = Fact rec ∷ rest; rec = rec; there = there; is = refl; class = class; id = id; numbers = rw (class, id) refl }

pub key_at : (heads : Rows) (key : Touch) (place : ℕ) → has_key key (fact_at heads place) ≡ true → KeyAt heads key place
key_at heads key place is =
    elim (finmap.get heads place) as (λ o. finmap.get heads place ≡ o → KeyAt heads key place) [
      | None ↦ λ got. absurd (true_false (sym (ap (λ (o : Option (List Part)). has_key key (option_and_then fact_in o)) got) ∙ is))
      | Some row ↦ λ got. at_row heads key place row got (sym (ap (λ (o : Option (List Part)). has_key key (option_and_then fact_in o)) got) ∙ is)
    ] refl

-- what stands at the place, as it is looked up
pub fact_there : (heads : Rows) (place : ℕ) (row : List Part) (rec : Rec) → finmap.get heads place ≡ Some row → fact_in row ≡ Some rec → fact_at heads place ≡ Some rec
fact_there heads place row rec there is = ap (option_and_then fact_in) there ∙ is
