-- The words of settings.
use Rattle.std.specs.Prelude.{ℕ, List, [], ◌∷◌, Option, find, codes, option_and_then}
use Rattle.std.specs.Str.{bytes_eq}
use Rattle.serde_json.specs.Data.{Data}
use Rattle.serde_json.specs.Find.{as_str}
use Rattle.plan_settings.specs.declared.setting.Early.{Early}
use Rattle.plan_settings.specs.declared.setting.Early.TheVariants.{Never, Best, Last}
use Rattle.plan_settings.specs.declared.setting.AcceptorKind.{AcceptorKind}
use Rattle.plan_settings.specs.declared.setting.AcceptorKind.TheVariants.{Hill, Late, Tabu, StepCount}
use Rattle.plan_settings.specs.declared.setting.Selector.{Selector}
use Rattle.plan_settings.specs.declared.setting.Selector.TheVariants.{Change, Swap, PillarChange, PillarSwap, Own}
use Rattle.plan_settings.specs.declared.setting.Construction.{Construction}
use Rattle.plan_settings.specs.declared.setting.Construction.TheVariants.{FirstFit, Decreasing}

-- the word of each kind of early end
abbrev pub early_word : Early → List ℕ
early_word Never = codes "never"
early_word Best = codes "best"
early_word Last = codes "last"

-- the word of each acceptor
abbrev pub acceptor_word : AcceptorKind → List ℕ
acceptor_word Hill = codes "hill"
acceptor_word Late = codes "late"
acceptor_word Tabu = codes "tabu"
acceptor_word StepCount = codes "step_count"

-- the word of each selector
abbrev pub selector_word : Selector → List ℕ
selector_word Change = codes "change"
selector_word Swap = codes "swap"
selector_word PillarChange = codes "pillar_change"
selector_word PillarSwap = codes "pillar_swap"
selector_word Own = codes "own"

-- the word of each order of placing
abbrev pub construction_word : Construction → List ℕ
construction_word FirstFit = codes "first_fit"
construction_word Decreasing = codes "first_fit_decreasing"

-- the one of some choices that has the word; none where none has
abbrev pub chosen : {A : Type 0} → (A → List ℕ) → List A → List ℕ → Option A
chosen word_of choices word = find (λ choice. bytes_eq word (word_of choice)) choices

-- the early end that has the word
abbrev pub early_named : List ℕ → Option Early
early_named word = chosen early_word (Never ∷ Best ∷ Last ∷ []) word

-- the acceptor that has the word
abbrev pub acceptor_named : List ℕ → Option AcceptorKind
acceptor_named word = chosen acceptor_word (Hill ∷ Late ∷ Tabu ∷ StepCount ∷ []) word

-- the selector that has the word
abbrev pub selector_named : List ℕ → Option Selector
selector_named word = chosen selector_word (Change ∷ Swap ∷ PillarChange ∷ PillarSwap ∷ Own ∷ []) word

-- the order of placing that has the word
abbrev pub construction_named : List ℕ → Option Construction
construction_named word = chosen construction_word (FirstFit ∷ Decreasing ∷ []) word

-- the early end that a value names; none where it is no text or another one
abbrev pub early_of : Data → Option Early
early_of value = option_and_then early_named (as_str value)

-- the acceptor that a value names; none where it is no text or another one
abbrev pub acceptor_of : Data → Option AcceptorKind
acceptor_of value = option_and_then acceptor_named (as_str value)

-- the selector that a value names; none where it is no text or another one
abbrev pub selector_of : Data → Option Selector
selector_of value = option_and_then selector_named (as_str value)

-- the order of placing that a value names; none where it is no text or another one
abbrev pub construction_of : Data → Option Construction
construction_of value = option_and_then construction_named (as_str value)
