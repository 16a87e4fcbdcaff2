-- The words of a refusal.
use Rattle.std.specs.Prelude.{ℕ, List, [], ◌++◌, codes, decimal}
use Rattle.plan_settings.specs.declared.setting.Setting.{Setting}
use Rattle.plan_settings.specs.declared.setting.Setting.TheVariants.{Seed, Steps, SelectLimit, AcceptedLimit, PickEarly, Acceptor, LateSize, TabuSize, StepCountSize, Selectors, Construction}
use Rattle.problem_faults.specs.declared.fault.ProblemFault.{ProblemFault}
use Rattle.problem_faults.specs.declared.fault.ProblemFault.TheVariants.{Memory, TooLong, Json, Shape, UnknownDomain, BadSetting, TooManyFacts, DoubleId, BadField, BadValue, RangeProduct, RowsBound, ScoreRange}

-- the name that a problem's text has for a setting
abbrev pub setting_name : Setting → List ℕ
setting_name Seed = codes "seed"
setting_name Steps = codes "steps"
setting_name SelectLimit = codes "select_limit"
setting_name AcceptedLimit = codes "accepted_limit"
setting_name PickEarly = codes "pick_early"
setting_name Acceptor = codes "acceptor"
setting_name LateSize = codes "late_size"
setting_name TabuSize = codes "tabu_size"
setting_name StepCountSize = codes "step_count_size"
setting_name Selectors = codes "selectors"
setting_name Construction = codes "construction"

-- a record: its class and id, as in lesson#1
abbrev pub record_text : List ℕ → ℕ → List ℕ
record_text class id = class ++ codes "#" ++ decimal id

-- a field or a variable of a record, as in lesson#1 room
abbrev pub place_text : List ℕ → ℕ → List ℕ → List ℕ
place_text class id name = record_text class id ++ codes " " ++ name

-- the words of a refusal; want of memory has none
abbrev pub fault_words : ProblemFault → List ℕ
fault_words Memory = []
fault_words TooLong = codes "too_long"
fault_words Json = codes "json"
fault_words (Shape path) = codes "shape " ++ path
fault_words UnknownDomain = codes "domain"
fault_words (BadSetting setting) = codes "setting " ++ setting_name setting
fault_words TooManyFacts = codes "too_many_facts"
fault_words (DoubleId class id) = codes "double_id " ++ record_text class id
fault_words (BadField class id field) = codes "bad_field " ++ place_text class id field
fault_words (BadValue class id var) = codes "bad_value " ++ place_text class id var
fault_words (RangeProduct class) = codes "range_product " ++ class
fault_words (RowsBound rule) = codes "rows_bound " ++ rule
fault_words ScoreRange = codes "score_range"

-- the line that says a problem is refused, with its line feed
abbrev pub refusal_line : ProblemFault → List ℕ
refusal_line fault = codes "refused problem " ++ fault_words fault ++ codes "\n"
