-- The settings' ranges and usual values.
use Rattle.std.specs.Prelude.{ℕ, ◌≤◌, Bool, true, ◌&&◌, not, nat_le, List, [], ◌∷◌, Option, length, find}
use Rattle.plan_settings.specs.declared.settings.Settings.{Settings}
use Rattle.plan_settings.specs.declared.settings.TheConstants.{STEP_LIMIT, SIZE_LIMIT, SELECTOR_LIMIT}
use Rattle.plan_settings.specs.declared.setting.Early.TheVariants.{Never}
use Rattle.plan_settings.specs.declared.setting.AcceptorKind.TheVariants.{Late}
use Rattle.plan_settings.specs.declared.setting.Selector.TheVariants.{Change, Swap}
use Rattle.plan_settings.specs.declared.setting.Construction.TheVariants.{FirstFit}
use Rattle.plan_settings.specs.declared.setting.Setting.{Setting}
use Rattle.plan_settings.specs.declared.setting.Setting.TheVariants.{Seed, Steps, SelectLimit, AcceptedLimit, PickEarly, Acceptor, LateSize, TabuSize, StepCountSize, Selectors, Construction}

-- the settings of a problem that names none
abbrev pub usual_settings : Settings
usual_settings = record {
  seed = 0;
  steps = 1000;
  select_limit = 1000;
  accepted_limit = 1;
  pick_early = Never;
  acceptor = Late;
  late_size = 400;
  tabu_size = 7;
  step_count_size = 400;
  selectors = Change ∷ Swap ∷ [];
  construction = FirstFit;
}

-- a number of steps
abbrev pub is_step_count : ℕ → Bool
is_step_count n = nat_le n STEP_LIMIT

-- a limit or a size
abbrev pub is_size : ℕ → Bool
is_size n = nat_le 1 n && nat_le n SIZE_LIMIT

-- a number of selectors
abbrev pub is_selector_count : ℕ → Bool
is_selector_count n = nat_le 1 n && nat_le n SELECTOR_LIMIT

-- the setting is in its range
abbrev pub is_in_range : Settings → Setting → Bool
is_in_range s Seed = true
is_in_range s Steps = is_step_count s.steps
is_in_range s SelectLimit = is_size s.select_limit
is_in_range s AcceptedLimit = is_size s.accepted_limit
is_in_range s PickEarly = true
is_in_range s Acceptor = true
is_in_range s LateSize = is_size s.late_size
is_in_range s TabuSize = is_size s.tabu_size
is_in_range s StepCountSize = is_size s.step_count_size
is_in_range s Selectors = is_selector_count (length s.selectors)
is_in_range s Construction = true

-- all settings, in the order in which they are looked at
abbrev pub all_settings : List Setting
all_settings =
    Seed ∷ Steps ∷ SelectLimit ∷ AcceptedLimit ∷ PickEarly ∷ Acceptor ∷ LateSize ∷ TabuSize ∷ StepCountSize ∷ Selectors
    ∷ Construction ∷ []

-- the first setting that is out of its range
abbrev pub settings_fault : Settings → Option Setting
settings_fault s = find (λ setting. not (is_in_range s setting)) all_settings

-- a limit or a size: from 1 on
pub record IsSize (n : ℕ) : Type 0 where
  pub least : 1 ≤ n
  pub most : n ≤ SIZE_LIMIT

-- every setting is in its range
pub record IsInRange (s : Settings) : Type 0 where
  pub steps : s.steps ≤ STEP_LIMIT
  pub select_limit : IsSize s.select_limit
  pub accepted_limit : IsSize s.accepted_limit
  pub late_size : IsSize s.late_size
  pub tabu_size : IsSize s.tabu_size
  pub step_count_size : IsSize s.step_count_size
  pub some_selector : 1 ≤ length s.selectors
  pub few_selectors : length s.selectors ≤ SELECTOR_LIMIT
