-- What the deeds of changes are about.
use Rattle.std.specs.Prelude.{Bool, true, false}
use Rattle.plan_changes.specs.declared.change.Deed.{Deed}
use Rattle.plan_changes.specs.declared.change.Deed.TheVariants.{Add, Remove, Alter, Assign, Weight}

-- the deed makes a fact
abbrev pub is_add : Deed → Bool
is_add Add = true
is_add Remove = false
is_add Alter = false
is_add Assign = false
is_add Weight = false

-- the deed gives a rule another weight
abbrev pub is_weight : Deed → Bool
is_weight Add = false
is_weight Remove = false
is_weight Alter = false
is_weight Assign = false
is_weight Weight = true

-- the deed gives fields of a fact what they hold
abbrev pub gives_fields : Deed → Bool
gives_fields Add = true
gives_fields Remove = false
gives_fields Alter = true
gives_fields Assign = false
gives_fields Weight = false
