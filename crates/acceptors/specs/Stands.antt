-- What an acceptor keeps of a leg, and what it stands for.
use Rattle.std.specs.Prelude.{◌≡◌, ◌+◌, ◌^◌, ◌<◌, ℕ, Bool, List, length}
use Rattle.circular_buffer.specs.Buffer.{keep_last}
use Rattle.plan_scores.specs.declared.plan_score.PlanScore.{PlanScore}
use Rattle.plan_settings.specs.declared.setting.AcceptorKind.{AcceptorKind}
use Rattle.plan_settings.specs.declared.setting.AcceptorKind.TheVariants.{Late, Tabu}
use Rattle.plan_moves.specs.declared.edit.Touch.{Touch}
use Rattle.acceptors.specs.Recent.{Notes, step_in, last_touch}
use Rattle.acceptors.specs.History.{History, went, step_scores, last_score, best_score}
use Rattle.acceptors.specs.Accept.{is_accepted, threshold}

-- a kind and a size, and what is kept of a leg for them
pub record Kept : Type 0 where
  pub kind : AcceptorKind
  pub size : ℕ
  pub steps : ℕ
  pub start : PlanScore
  pub last : PlanScore
  pub best : PlanScore
  pub threshold : PlanScore
  pub late : List PlanScore
  pub touched : Notes

-- what is kept is that of a leg's history
pub record StandsFor (kept : Kept) (h : History) : Type 0 where
  pub start : kept.start ≡ h.start
  pub steps : kept.steps ≡ length h.steps
  pub last : kept.last ≡ last_score h
  pub best : kept.best ≡ best_score h
  pub threshold : kept.threshold ≡ threshold kept.size h
  pub late : kept.kind ≡ Late → kept.late ≡ keep_last kept.size (step_scores h)
  pub touched : kept.kind ≡ Tabu → (touch : Touch) → step_in kept.touched touch ≡ last_touch touch h.steps

-- there is room for one more step: fewer than 2^32 - 1 are kept
abbrev pub HasRoom : Kept → Type 0
HasRoom kept = kept.steps + 1 < 2 ^ 32

-- the kind and the size stay
abbrev pub SameSettings : Kept → Kept → Type 0
SameSettings old new = (new.kind ≡ old.kind) × (new.size ≡ old.size)

-- one step more is kept, which ended with this score and touched these entities
abbrev pub GoesOn : Kept → PlanScore → List Touch → Kept → Type 0
GoesOn old score touched new = (h : History) → StandsFor old h → StandsFor new (went h score touched)

-- it stands for what it stood for
abbrev pub StandsStill : Kept → Kept → Type 0
StandsStill old new = (h : History) → StandsFor old h → StandsFor new h

-- whether an acceptor of this kind and size accepts a candidate after this history
abbrev pub accepts : Kept → History → PlanScore → List Touch → Bool
accepts kept h score touched = is_accepted kept.kind kept.size h score touched
