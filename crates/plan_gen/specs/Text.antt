-- The text of a generated problem: compact JSON, the members of each object in byte order.
use Rattle.std.specs.Prelude.{ℕ, ◌*◌, List, [], ◌∷◌, ◌++◌, map, codes, decimal, if◌then◌else◌, ◌==◌}
use Rattle.std.specs.List.{join_with_byte}
use Rattle.plan_gen.specs.Problem.{timeslots, rooms, lessons}
use Rattle.plan_gen.specs.declared.facts.Timeslot.{Timeslot}
use Rattle.plan_gen.specs.declared.facts.Room.{Room}
use Rattle.plan_gen.specs.declared.facts.Lesson.{Lesson}

-- the byte of a comma, which stands between the members of an object and the items of an array
abbrev pub comma : ℕ
comma = 44

-- what stands before the item at a place
abbrev pub separator : ℕ → List ℕ
separator place = if place == 0 then [] else comma ∷ []

-- a text in quotation marks
unfoldable pub quoted : List ℕ → List ℕ
quoted text = codes "\"" ++ text ++ codes "\""

-- a member of an object: its name in quotation marks, a colon, its value
unfoldable pub member : List ℕ → List ℕ → List ℕ
member name value = quoted name ++ codes ":" ++ value

-- an object of these members
unfoldable pub object : List (List ℕ) → List ℕ
object members = codes "{" ++ join_with_byte comma members ++ codes "}"

-- an array of these items
unfoldable pub array : List (List ℕ) → List ℕ
array items = codes "[" ++ join_with_byte comma items ++ codes "]"

-- a timeslot as an object of its four numbers
abbrev pub timeslot_text : Timeslot → List ℕ
timeslot_text t = object (
    member (codes "day") (decimal t.day)
    ∷ member (codes "end") (decimal t.end)
    ∷ member (codes "id") (decimal t.id)
    ∷ member (codes "start") (decimal t.start)
    ∷ [])

-- a room as an object of its two numbers
abbrev pub room_text : Room → List ℕ
room_text r = object (
    member (codes "capacity") (decimal r.capacity)
    ∷ member (codes "id") (decimal r.id)
    ∷ [])

-- a lesson as an object; a name is a letter and a number
abbrev pub lesson_text : Lesson → List ℕ
lesson_text l = object (
    member (codes "group") (quoted (codes "G" ++ decimal l.group))
    ∷ member (codes "id") (decimal l.id)
    ∷ member (codes "size") (decimal l.size)
    ∷ member (codes "subject") (quoted (codes "S" ++ decimal l.subject))
    ∷ member (codes "teacher") (quoted (codes "T" ++ decimal l.teacher))
    ∷ [])

-- the facts as an object with an array for each class
unfoldable pub facts_text : ℕ → ℕ → List ℕ
facts_text number size = object (
    member (codes "lesson") (array (map lesson_text (lessons number size)))
    ∷ member (codes "room") (array (map room_text (rooms size)))
    ∷ member (codes "timeslot") (array (map timeslot_text (timeslots size)))
    ∷ [])

-- the settings as an object: the number is the seed, and there are five steps for each lesson
unfoldable pub settings_text : ℕ → ℕ → List ℕ
settings_text number size = object (
    member (codes "seed") (decimal number)
    ∷ member (codes "steps") (decimal (5 * size))
    ∷ [])

-- the whole problem: domain, facts, format and settings
abbrev pub problem_text : ℕ → ℕ → List ℕ
problem_text number size = object (
    member (codes "domain") (quoted (codes "timetable"))
    ∷ member (codes "facts") (facts_text number size)
    ∷ member (codes "format") (codes "1")
    ∷ member (codes "settings") (settings_text number size)
    ∷ [])
