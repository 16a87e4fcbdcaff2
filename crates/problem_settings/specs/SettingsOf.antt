-- The settings of a problem, by its member `settings`; there may be no such member.
use Rattle.std.specs.Prelude.{ℕ, Bool, false, ◌&&◌, not, List, length, take, Option, codes, find, map, option_map, option_and_then, is_some, unwrap_or}
use Rattle.std.specs.List.{list_all, filter_map}
use Rattle.std.specs.Option.{option_map_or, option_or}
use Rattle.serde_json.specs.Data.{Data}
use Rattle.serde_json.specs.Find.{get, as_number, as_u64}
use Rattle.json_values.specs.Values.{number_within, items_of, has_other}
use Rattle.plan_settings.specs.Settings.{usual_settings, all_settings, is_selector_count}
use Rattle.plan_settings.specs.declared.settings.Settings.{Settings}
use Rattle.plan_settings.specs.declared.settings.TheConstants.{STEP_LIMIT, SIZE_LIMIT}
use Rattle.plan_settings.specs.declared.setting.Setting.{Setting}
use Rattle.plan_settings.specs.declared.setting.Setting.TheVariants.{Seed, Steps, SelectLimit, AcceptedLimit, PickEarly, Acceptor, LateSize, TabuSize, StepCountSize, Selectors, Construction}
use Rattle.plan_settings.specs.declared.setting.Selector.{Selector}
use Rattle.plan_facts.specs.First.{fault_where}
use Rattle.problem_faults.specs.Words.{setting_name}
use Rattle.problem_faults.specs.declared.fault.ProblemFault.{ProblemFault}
use Rattle.problem_faults.specs.declared.fault.ProblemFault.TheVariants.{Shape, BadSetting}
use Rattle.problem_settings.specs.Words.{early_of, acceptor_of, selector_of, construction_of}
use Rattle.problem_settings.specs.declared.root.Format.{Format}
use Rattle.problem_settings.specs.declared.root.Format.TheVariants.{One, Two}

-- a seed: a whole number from 0 to 2^64 - 1
abbrev pub seed_of : Data → Option ℕ
seed_of value = option_and_then as_u64 (as_number value)

-- a number of steps
abbrev pub steps_of : Data → Option ℕ
steps_of value = number_within 0 STEP_LIMIT value

-- a limit or a size
abbrev pub size_of : Data → Option ℕ
size_of value = number_within 1 SIZE_LIMIT value

-- values that are neither too few nor too many, each of which names a selector
abbrev pub are_selectors : List Data → Bool
are_selectors values = is_selector_count (length values) && list_all (λ value. is_some (selector_of value)) values

-- the value is of the kind and in the range of the setting
abbrev pub is_right : Setting → Data → Bool
is_right Seed value = is_some (seed_of value)
is_right Steps value = is_some (steps_of value)
is_right SelectLimit value = is_some (size_of value)
is_right AcceptedLimit value = is_some (size_of value)
is_right PickEarly value = is_some (early_of value)
is_right Acceptor value = is_some (acceptor_of value)
is_right LateSize value = is_some (size_of value)
is_right TabuSize value = is_some (size_of value)
is_right StepCountSize value = is_some (size_of value)
is_right Selectors value = option_map_or are_selectors (items_of value) false
is_right Construction value = is_some (construction_of value)

-- the value that is given for a setting; none where there is none
abbrev pub given : Setting → Option Data → Option Data
given setting settings = option_and_then (get (setting_name setting)) settings

-- a value is given for the setting, and isn't right
abbrev pub is_bad : Option Data → Setting → Bool
is_bad settings setting = option_map_or (λ value. not (is_right setting value)) (given setting settings) false

-- the settings of a format, in the order in which they are looked at: format 1 has all but the last one
abbrev pub known_settings : Format → List Setting
known_settings One = take 10 all_settings
known_settings Two = all_settings

-- there is a member that is no setting of the format
abbrev pub has_unknown : Format → Option Data → Bool
has_unknown format settings = option_map_or (has_other (map setting_name (known_settings format))) settings false

-- the fault of the settings: the first bad setting of the format, else that there is another member
abbrev pub settings_fault_of : Format → Option Data → Option ProblemFault
settings_fault_of format settings =
    option_or (option_map (λ setting. BadSetting setting) (find (is_bad settings) (known_settings format)))
    (fault_where (has_unknown format settings) (Shape (codes "/settings")))

-- what is read of the value that is given for a setting; the usual one where none is given or it isn't right
abbrev pub given_or : {A : Type 0} → (Data → Option A) → Setting → A → Option Data → A
given_or read setting usual settings = unwrap_or (option_and_then read (given setting settings)) usual

-- the selectors that the items of an array name
abbrev pub selectors_of : Data → Option (List Selector)
selectors_of value = option_map (filter_map selector_of) (items_of value)

-- the settings: what is given, and the usual value of each setting for which nothing is given
abbrev pub settings_of : Option Data → Settings
settings_of settings = record {
  seed = given_or seed_of Seed usual_settings.seed settings;
  steps = given_or steps_of Steps usual_settings.steps settings;
  select_limit = given_or size_of SelectLimit usual_settings.select_limit settings;
  accepted_limit = given_or size_of AcceptedLimit usual_settings.accepted_limit settings;
  pick_early = given_or early_of PickEarly usual_settings.pick_early settings;
  acceptor = given_or acceptor_of Acceptor usual_settings.acceptor settings;
  late_size = given_or size_of LateSize usual_settings.late_size settings;
  tabu_size = given_or size_of TabuSize usual_settings.tabu_size settings;
  step_count_size = given_or size_of StepCountSize usual_settings.step_count_size settings;
  selectors = given_or selectors_of Selectors usual_settings.selectors settings;
  construction = given_or construction_of Construction usual_settings.construction settings;
}
