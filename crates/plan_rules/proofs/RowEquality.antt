-- Rows can be told apart.
use Rattle.std.proofs.Common.{◌≡◌, List, Bool, true, false, Option, Some, None, refl, sym, ap, ◌&&◌, ◌==◌}
use Rattle.std.specs.Bool.{Decides}
use Rattle.std.specs.Option.{option_eq, is_some}
use Rattle.std.specs.Ordering.{int_eq}
use Rattle.std.specs.Cmp.{signed_Decides, unsigned_Decides}
use Rattle.std.specs.Cmp.Rules.{signed_items}
use Rattle.std.specs.Cmp.Lexicographic.{pointwise, pointwise_decides}
use Rattle.plan_facts.specs.declared.record.Rec.{Rec}
use Rattle.plan_facts.specs.declared.record.Value.{Value}
use Rattle.plan_rules.specs.declared.row.Part.{Part}
use Rattle.plan_rules.specs.declared.row.Part.TheVariants.{Fact, Num}
use Rattle.plan_rules.specs.Laws.{SameAreRearranged}
use Rattle.plan_rules.proofs.Rearranged.{permutation_from_same, same_from_permutation}

-- two tests decide two facts together
both : {P Q : Type 0} (p q : Bool) → Decides p P → Decides q Q → Decides (p && q) (P × Q)
both true q one other = (λ is. (one.0 refl, other.0 is), λ w. other.1 (w.1))
both false q one other = (λ is. cc, λ w. one.1 (w.0))

-- a test decides what is so just where another fact is
instead : {P Q : Type 0} (p : Bool) → Decides p P → (P → Q) → (Q → P) → Decides p Q
instead p one to from = (λ is. to (one.0 is), λ q. one.1 (from q))

-- the same id and fields
abbrev pub same_value : Value → Value → Bool
same_value one other = (one.id == other.id) && pointwise int_eq one.fields other.fields

value_decides : (one other : Value) → Decides (same_value one other) (one ≡ other)
value_decides one other =
    instead (same_value one other) (both (one.id == other.id) (pointwise int_eq one.fields other.fields) (unsigned_Decides one.id other.id) (signed_items one.fields other.fields))
    (λ w i. record { id = (w.0) i; fields = (w.1) i }) (λ e. (λ i. (e i).id, λ i. (e i).fields))

held_decides : (one other : Option Value) → Decides (option_eq same_value one other) (one ≡ other)
held_decides None None = (λ is. refl, λ e. refl)
held_decides None (Some v) = (λ is. cc, λ e. ap is_some e)
held_decides (Some v) None = (λ is. cc, λ e. sym (ap is_some e))
held_decides (Some v) (Some w) = instead (same_value v w) (value_decides v w) (ap Some) (λ e. cc)

-- the same class, id and fields, and the same in each variable
abbrev pub same_rec : Rec → Rec → Bool
same_rec one other = (one.class == other.class) && ((one.id == other.id) && (pointwise int_eq one.fields other.fields && pointwise (option_eq same_value) one.planned other.planned))

pub rec_decides : (one other : Rec) → Decides (same_rec one other) (one ≡ other)
rec_decides one other =
    let fields = both _ _ (signed_items one.fields other.fields) (pointwise_decides held_decides one.planned other.planned) in
    let all = both _ _ (unsigned_Decides one.class other.class) (both _ _ (unsigned_Decides one.id other.id) fields) in
    instead (same_rec one other) all (λ w i. record { class = (w.0) i; id = (w.1.0) i; fields = (w.1.1.0) i; planned = (w.1.1.1) i }) (λ e. (λ i. (e i).class, (λ i. (e i).id, (λ i. (e i).fields, λ i. (e i).planned))))

-- the same record, or the same number
abbrev pub same_part : Part → Part → Bool
same_part (Fact one) (Fact other) = same_rec one other
same_part (Fact one) (Num n) = false
same_part (Num n) (Fact other) = false
same_part (Num one) (Num other) = int_eq one other

part_decides : (one other : Part) → Decides (same_part one other) (one ≡ other)
part_decides (Fact one) (Fact other) = instead (same_rec one other) (rec_decides one other) (ap Fact) (λ e. cc)
part_decides (Fact one) (Num n) = (λ is. cc, λ e. cc)
part_decides (Num n) (Fact other) = (λ is. cc, λ e. cc)
part_decides (Num one) (Num other) = instead (int_eq one other) (signed_Decides one other) (ap Num) (λ e. cc)

-- the same parts
abbrev pub same_row : List Part → List Part → Bool
same_row one other = pointwise same_part one other

pub row_decides : (one other : List Part) → Decides (same_row one other) (one ≡ other)
row_decides one other = pointwise_decides part_decides one other

pub same_are_rearranged : SameAreRearranged
same_are_rearranged rows others = (permutation_from_same same_row row_decides rows others, same_from_permutation rows others)
