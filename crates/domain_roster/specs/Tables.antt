-- The roster's classes and rules.
use Rattle.std.specs.Prelude.{codes, Bool, true, false, List, [], ◌∷◌, ◌++◌}
use Rattle.plan_facts.specs.declared.record.FieldDef.{FieldDef}
use Rattle.plan_facts.specs.declared.record.ClassDef.{ClassDef}
use Rattle.plan_scores.specs.declared.level.Level.TheVariants.{Hard, Medium, Soft}
use Rattle.plan_rules.specs.declared.rule.Joiner.{Joiner}
use Rattle.plan_rules.specs.declared.rule.Joiner.TheVariants.{Equal, Less, Greater, Filtering}
use Rattle.plan_rules.specs.declared.rule.Collect.TheVariants.{Count, CountDistinct, Sum, Min, Max}
use Rattle.plan_rules.specs.declared.rule.Head.TheVariants.{ForEach, ForEachNulls, Pairs}
use Rattle.plan_rules.specs.declared.rule.Node.{Node}
use Rattle.plan_rules.specs.declared.rule.Node.TheVariants.{Filter, Join, IfExists, IfNotExists, GroupBy}
use Rattle.plan_rules.specs.declared.rule.RuleDef.{RuleDef}
use Rattle.plan_rules.specs.declared.rule.Harder.{Harder}
use Rattle.domain_words.specs.Tables.{class, number_field, name_field, variable}
use Rattle.domain_words.specs.Tables.{same_key, penalty, weighed_penalty, reward}
use Rattle.domain_roster.specs.Names.{employee, shift, leave, wish}
use Rattle.domain_roster.specs.Names.{by_worker, by_day, by_next_day, by_start, by_end, by_minutes, by_duration}
use Rattle.domain_roster.specs.Names.{by_employee, by_asking_employee, by_asked_day, by_first_number}
use Rattle.domain_roster.specs.Names.{skills_differ, rest_is_short, shifts_are_too_many, days_are_too_many}
use Rattle.domain_roster.specs.Names.{minutes_are_too_many, begins_early, ends_late, has_no_worker}
use Rattle.domain_roster.specs.Names.{by_shifts_too_many, by_days_too_many, by_minutes_too_many}

-- one who works
abbrev pub employee_class : ClassDef
employee_class = class (codes "employee") (name_field (codes "skill") ∷ number_field (codes "max") ∷ []) []

-- what is given of a shift
abbrev pub shift_fields : List FieldDef
shift_fields =
    number_field (codes "day") ∷ number_field (codes "start") ∷ number_field (codes "end")
    ∷ name_field (codes "skill") ∷ []

-- a shift, whose worker is planned, and may stay null or not
abbrev pub shift_class : Bool → ClassDef
shift_class nullable = class (codes "shift") shift_fields (variable (codes "worker") employee nullable ∷ [])

-- what an employee asks for, and on which day
abbrev pub asking_fields : List FieldDef
asking_fields = number_field (codes "employee") ∷ number_field (codes "day") ∷ []

-- a day on which an employee is on leave
abbrev pub leave_class : ClassDef
leave_class = class (codes "leave") asking_fields []

-- a day on which an employee wishes to work
abbrev pub wish_class : ClassDef
wish_class = class (codes "wish") asking_fields []

-- the classes, where the worker of a shift may stay null or not
abbrev pub classes_where : Bool → List ClassDef
classes_where nullable = employee_class ∷ shift_class nullable ∷ leave_class ∷ wish_class ∷ []

-- the classes of the roster
abbrev pub roster_classes : List ClassDef
roster_classes = classes_where false

-- the classes of the roster whose shifts may stay open
abbrev pub open_classes : List ClassDef
open_classes = classes_where true

-- two shifts of one worker on one day that overlap
abbrev pub overlapping : List Joiner
overlapping = same_key by_worker ∷ same_key by_day ∷ Less by_start by_end ∷ Greater by_end by_start ∷ []

-- a leave or wish of a shift's worker on its day
abbrev pub asked_then : List Joiner
asked_then = Equal by_worker by_asking_employee ∷ Equal by_day by_asked_day ∷ []

-- a shift of the same worker on the next day, with too short a rest before it
abbrev pub too_soon : List Joiner
too_soon = same_key by_worker ∷ Equal by_next_day by_day ∷ Filtering rest_is_short ∷ []

-- a shift whose worker hasn't its skill
abbrev pub skill : RuleDef
skill = penalty (codes "skill") Hard (ForEach shift) (Filter skills_differ ∷ [])

-- two shifts of one worker on one day that overlap
abbrev pub overlap : RuleDef
overlap = penalty (codes "overlap") Hard (Pairs shift overlapping) []

-- a shift on a day on which its worker is on leave
abbrev pub leave_taken : RuleDef
leave_taken = penalty (codes "leave") Hard (ForEach shift) (IfExists leave false asked_then ∷ [])

-- a shift and one of the same worker on the next day with too short a rest between
abbrev pub rest : RuleDef
rest = penalty (codes "rest") Hard (ForEach shift) (Join shift false too_soon ∷ [])

-- the workers with how many shifts they have, of those who have more than the employee may
abbrev pub loaded : List Node
loaded =
    GroupBy (by_worker ∷ []) Count
    ∷ Join employee false (Equal by_first_number by_employee ∷ []) ∷ Filter shifts_are_too_many ∷ []

-- a worker with more shifts than the employee may have, once for each shift too many
abbrev pub load : RuleDef
load = weighed_penalty (codes "load") Medium by_shifts_too_many (ForEach shift) loaded

-- the workers with how many days they work, of those who work on more than 5
abbrev pub many_days : List Node
many_days = GroupBy (by_worker ∷ []) (CountDistinct by_day) ∷ Filter days_are_too_many ∷ []

-- a worker on more than 5 days, once for each day too many
abbrev pub days : RuleDef
days = weighed_penalty (codes "days") Soft by_days_too_many (ForEach shift) many_days

-- the workers with how many minutes they work, of those who work more than 2400
abbrev pub many_minutes : List Node
many_minutes = GroupBy (by_worker ∷ []) (Sum by_minutes) ∷ Filter minutes_are_too_many ∷ []

-- a worker with more than 2400 minutes, once for each minute too many
abbrev pub hours : RuleDef
hours = weighed_penalty (codes "hours") Soft by_minutes_too_many (ForEach shift) many_minutes

-- the days of workers that begin before minute 360, with that minute
abbrev pub early_days : List Node
early_days = GroupBy (by_worker ∷ by_day ∷ []) (Min by_start) ∷ Filter begins_early ∷ []

-- a worker's day that begins before minute 360
abbrev pub early : RuleDef
early = penalty (codes "early") Soft (ForEach shift) early_days

-- the days of workers that end after minute 1320, with that minute
abbrev pub late_days : List Node
late_days = GroupBy (by_worker ∷ by_day ∷ []) (Max by_end) ∷ Filter ends_late ∷ []

-- a worker's day that ends after minute 1320
abbrev pub late : RuleDef
late = penalty (codes "late") Soft (ForEach shift) late_days

-- an employee without a shift
abbrev pub idle : RuleDef
idle =
    penalty (codes "idle") Soft (ForEach employee) (IfNotExists shift false (Equal by_employee by_worker ∷ []) ∷ [])

-- a shift on a day on which its worker wishes to work
abbrev pub wish_met : RuleDef
wish_met = reward (codes "wish") Soft (ForEach shift) (Join wish false asked_then ∷ [])

-- the rules of the roster
abbrev pub roster_rules : List RuleDef
roster_rules =
    skill ∷ overlap ∷ leave_taken ∷ rest ∷ load ∷ days ∷ hours ∷ early ∷ late ∷ idle ∷ wish_met ∷ []

-- a shift that stays open
abbrev pub unassigned : RuleDef
unassigned = penalty (codes "unassigned") Medium (ForEachNulls shift) (Filter has_no_worker ∷ [])

-- the rules of the roster whose shifts may stay open: those of the roster, and one for such shifts
abbrev pub open_rules : List RuleDef
open_rules = roster_rules ++ unassigned ∷ []

-- the keys by which harder entities are placed first: shifts by how many minutes they last
abbrev pub roster_harder : List Harder
roster_harder = record { class = shift; key = by_duration } ∷ []
