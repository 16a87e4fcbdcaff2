-- The timetable's classes and rules.
use Rattle.std.specs.Prelude.{codes, List, [], ◌∷◌, false}
use Rattle.plan_facts.specs.declared.record.FieldDef.{FieldDef}
use Rattle.plan_facts.specs.declared.record.VarDef.{VarDef}
use Rattle.plan_facts.specs.declared.record.ClassDef.{ClassDef}
use Rattle.plan_scores.specs.declared.level.Level.TheVariants.{Hard, Medium, Soft}
use Rattle.plan_rules.specs.declared.rule.Joiner.{Joiner}
use Rattle.plan_rules.specs.declared.rule.Joiner.TheVariants.{Equal, Filtering}
use Rattle.plan_rules.specs.declared.rule.Collect.TheVariants.{Count}
use Rattle.plan_rules.specs.declared.rule.Head.TheVariants.{ForEach, Pairs}
use Rattle.plan_rules.specs.declared.rule.Node.{Node}
use Rattle.plan_rules.specs.declared.rule.Node.TheVariants.{Filter, Join, IfExists, GroupBy}
use Rattle.plan_rules.specs.declared.rule.RuleDef.{RuleDef}
use Rattle.plan_rules.specs.declared.rule.Harder.{Harder}
use Rattle.domain_words.specs.Tables.{class, number_field, name_field, variable}
use Rattle.domain_words.specs.Tables.{same_key, penalty, weighed_penalty, reward}
use Rattle.domain_timetable.specs.Names.{timeslot, room, lesson, block}
use Rattle.domain_timetable.specs.Names.{by_slot, by_room, by_teacher, by_group, by_day, by_subject, by_size}
use Rattle.domain_timetable.specs.Names.{by_away_teacher, by_away_day, by_missing_seats, by_lessons_too_many}
use Rattle.domain_timetable.specs.Names.{room_is_too_small, rooms_differ, follows_soon, day_is_too_full}

-- an hour at which a lesson may be
abbrev pub timeslot_fields : List FieldDef
timeslot_fields = number_field (codes "day") ∷ number_field (codes "start") ∷ number_field (codes "end") ∷ []

abbrev pub timeslot_class : ClassDef
timeslot_class = class (codes "timeslot") timeslot_fields []

-- a room that a lesson may be in
abbrev pub room_class : ClassDef
room_class = class (codes "room") (number_field (codes "capacity") ∷ []) []

-- a lesson, whose slot and room are planned
abbrev pub lesson_fields : List FieldDef
lesson_fields =
    name_field (codes "subject") ∷ name_field (codes "teacher") ∷ name_field (codes "group")
    ∷ number_field (codes "size") ∷ []

abbrev pub lesson_vars : List VarDef
lesson_vars = variable (codes "slot") timeslot false ∷ variable (codes "room") room false ∷ []

abbrev pub lesson_class : ClassDef
lesson_class = class (codes "lesson") lesson_fields lesson_vars

-- a day on which a teacher is away
abbrev pub block_class : ClassDef
block_class = class (codes "block") (name_field (codes "teacher") ∷ number_field (codes "day") ∷ []) []

-- the classes
abbrev pub timetable_classes : List ClassDef
timetable_classes = timeslot_class ∷ room_class ∷ lesson_class ∷ block_class ∷ []

-- a block of the lesson's teacher on its day
abbrev pub away_then : List Joiner
away_then = Equal by_teacher by_away_teacher ∷ Equal by_day by_away_day ∷ []

-- a lesson of the same day that follows soon
abbrev pub soon_after : List Joiner
soon_after = same_key by_day ∷ Filtering follows_soon ∷ []

-- two lessons at one time in one room
abbrev pub room_conflict : RuleDef
room_conflict = penalty (codes "room_conflict") Hard (Pairs lesson (same_key by_slot ∷ same_key by_room ∷ [])) []

-- two lessons at one time with one teacher
abbrev pub teacher_conflict : RuleDef
teacher_conflict =
    penalty (codes "teacher_conflict") Hard (Pairs lesson (same_key by_slot ∷ same_key by_teacher ∷ [])) []

-- two lessons at one time for one group
abbrev pub group_conflict : RuleDef
group_conflict = penalty (codes "group_conflict") Hard (Pairs lesson (same_key by_slot ∷ same_key by_group ∷ [])) []

-- a lesson for more than its room holds, once for each seat that is missing
abbrev pub room_size : RuleDef
room_size =
    weighed_penalty (codes "room_size") Hard by_missing_seats (ForEach lesson) (Filter room_is_too_small ∷ [])

-- a lesson on a day on which its teacher is away
abbrev pub teacher_away : RuleDef
teacher_away = penalty (codes "teacher_away") Hard (ForEach lesson) (IfExists block false away_then ∷ [])

-- a group's day with more than six lessons
abbrev pub full_days : List Node
full_days = GroupBy (by_group ∷ by_day ∷ []) Count ∷ Filter day_is_too_full ∷ []

-- the same, once for each lesson above six
abbrev pub group_load : RuleDef
group_load = weighed_penalty (codes "group_load") Medium by_lessons_too_many (ForEach lesson) full_days

-- two lessons of one teacher in different rooms
abbrev pub teacher_room : RuleDef
teacher_room =
    penalty (codes "teacher_room") Soft (Pairs lesson (same_key by_teacher ∷ [])) (Filter rooms_differ ∷ [])

-- a lesson and one of the same teacher that follows it soon on its day
abbrev pub teacher_chain : RuleDef
teacher_chain =
    reward (codes "teacher_chain") Soft (ForEach lesson) (Join lesson false (same_key by_teacher ∷ soon_after) ∷ [])

-- a lesson of the same group and subject that follows soon on the day
abbrev pub repeats : List Joiner
repeats = same_key by_group ∷ same_key by_subject ∷ soon_after

-- a lesson and one that repeats it
abbrev pub subject_repeat : RuleDef
subject_repeat = penalty (codes "subject_repeat") Soft (ForEach lesson) (Join lesson false repeats ∷ [])

-- the rules
abbrev pub timetable_rules : List RuleDef
timetable_rules =
    room_conflict ∷ teacher_conflict ∷ group_conflict ∷ room_size ∷ teacher_away ∷ group_load
    ∷ teacher_room ∷ teacher_chain ∷ subject_repeat ∷ []

-- the keys by which harder entities are placed first: lessons by how many take part
abbrev pub timetable_harder : List Harder
timetable_harder = record { class = lesson; key = by_size } ∷ []
