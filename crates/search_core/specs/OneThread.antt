-- The events that one thread makes, the newest first.
use Rattle.std.specs.Prelude.{◌≡◌, ℕ, zero, suc, ◌+◌, ◌<◌, ◌≤◌, List, ◌∷◌, Option, Some, None, option_map}
use Rattle.std.specs.Option.{option_and_then}
use Rattle.foragers.specs.Forage.{number_of}
use Rattle.plan_search.specs.Judging.{winning}
use Rattle.acceptors.specs.History.{History}
use Rattle.plan_search.specs.declared.found.Found.{Found}
use Rattle.search_core.specs.declared.machine.Phase.TheVariants.{Idle, Waits, Open}
use Rattle.search_core.specs.declared.event.Event.{Event}
use Rattle.search_core.specs.declared.event.Event.TheVariants.{Claim, Judge, Choose}
use Rattle.search_core.specs.declared.event.Reply.{Reply}
use Rattle.search_core.specs.declared.event.Reply.TheVariants.{More}
use Rattle.search_core.specs.declared.machine.Core.{Core}
use Rattle.search_core.specs.ByNumber.{AreSame, nothing}
use Rattle.search_core.specs.Desk.{Desk, Terms, after_found, choose_reply, desk, first_asked}
use Rattle.search_core.specs.Keeps.{StandsFor}

-- worker 0 claims and judges so many numbers of a step in order, from the first one on
abbrev pub judge_events : ℕ → (ℕ → Option Found) → ℕ → ℕ → List Event → List Event
judge_events k found first zero before = before
judge_events k found first (suc count) before =
    Judge 0 k (first + count) (found (first + count)) ∷ Claim 0 k (first + count)
    ∷ judge_events k found first count before

-- where more numbers are asked it goes on with these, else it is chosen
abbrev pub after_reply : (ℕ → ℕ → List Event) → List Event → Reply → List Event
after_reply go_on chosen (More first count) = go_on first count
after_reply go_on chosen reply = chosen

-- a step from where so many numbers are asked from the first one on: they are judged and it is to be decided, and where more
-- are asked it goes on with these; at most so many times
abbrev pub batch_events : Terms → ℕ → (ℕ → Option Found) → ℕ → ℕ → ℕ → List Event → List Event
batch_events t k found zero first count before = before
batch_events t k found (suc left) first count before =
    let judged = judge_events k found first count before in
    after_reply (λ next more. batch_events t k found left next more (Choose k ∷ judged)) (Choose k ∷ judged)
    (choose_reply t (desk t judged))

-- a whole step
abbrev pub step_events : Terms → ℕ → (ℕ → Option Found) → List Event → List Event
step_events t k found before = batch_events t k found t.settings.select_limit 0 (first_asked t) before

-- the number of a step's winner, if it has one
abbrev pub winner_number : Terms → History → (ℕ → Option Found) → Option ℕ
winner_number t h found = option_map number_of (winning t.settings h found)

-- the history after a step, by what was found of its winner, if it has one
abbrev pub won_history : Terms → History → (ℕ → Option Found) → History
won_history t h found = after_found h (option_and_then found (winner_number t h found))

-- the first numbers are asked, and none is claimed or judged
pub record IsFresh (t : Terms) (d : Desk) : Type 0 where
  pub asked : d.asked ≡ first_asked t
  pub claims : AreSame d.claims nothing
  pub verdicts : AreSame d.verdicts nothing

-- step k begins in a leg with this history
pub record BeginsStep (t : Terms) (d : Desk) (k : ℕ) (h : History) : Type 0 where
  pub phase : d.phase ≡ Open
  pub cuts : d.cuts ≡ k
  pub chosen : d.chosen + 1 ≡ k
  pub history : d.history ≡ h
  pub fresh : IsFresh t d

-- k steps are chosen and boundary k is to be cut, after so many posts, in a leg with this history
pub record EndsStep (t : Terms) (d : Desk) (k since : ℕ) (h : History) : Type 0 where
  pub phase : d.phase ≡ Idle
  pub cuts : d.cuts ≡ k
  pub chosen : d.chosen ≡ k
  pub posts : d.posts ≡ since
  pub history : d.history ≡ h
  pub fresh : IsFresh t d

-- a leg waits to start at boundary k
pub record WaitsAt (t : Terms) (d : Desk) (k : ℕ) : Type 0 where
  pub phase : d.phase ≡ Waits
  pub cuts : d.cuts ≡ k + 1
  pub chosen : d.chosen ≡ k
  pub posts : d.posts ≡ 0
  pub fresh : IsFresh t d

-- step k is in course in a leg with this history; so many numbers are asked, and those below one of them are judged by what is found,
-- the others not claimed
pub record InStep (d : Desk) (k : ℕ) (h : History) (found : ℕ → Option Found) (limit since first : ℕ) : Type 0 where
  pub phase : d.phase ≡ Open
  pub cuts : d.cuts ≡ k
  pub chosen : d.chosen + 1 ≡ k
  pub history : d.history ≡ h
  pub asked : d.asked ≡ limit
  pub posts : d.posts ≡ since
  pub unclaimed : (n : ℕ) → first ≤ n → d.claims n ≡ None
  pub judged : (n : ℕ) → n < first → d.verdicts n ≡ Some (found n)
  pub unjudged : (n : ℕ) → first ≤ n → d.verdicts n ≡ None

-- a core stands for events after which step k begins
pub record BeginsAt (core : Core) (k : ℕ) : Type 0 where
  pub terms : Terms
  pub events : List Event
  pub history : History
  pub stands : StandsFor terms core events
  pub begins : BeginsStep terms (desk terms events) k history

-- a core stands for events after which step k is in course, where one thread judged the numbers below this one
pub record JudgesAt (core : Core) (k number : ℕ) : Type 0 where
  pub terms : Terms
  pub events : List Event
  pub history : History
  pub found : ℕ → Option Found
  pub asked : ℕ
  pub since : ℕ
  pub stands : StandsFor terms core events
  pub inside : InStep (desk terms events) k history found asked since number

-- the same where it judged all asked numbers
pub record DecidesAt (core : Core) (k : ℕ) : Type 0 where
  pub terms : Terms
  pub events : List Event
  pub history : History
  pub found : ℕ → Option Found
  pub asked : ℕ
  pub since : ℕ
  pub stands : StandsFor terms core events
  pub inside : InStep (desk terms events) k history found asked since asked

-- whatever events it stands for there, the core then stands for those with a number's Claim and Judge
abbrev pub StandsWithFound : Core → ℕ → ℕ → Option Found → Core → Type 0
StandsWithFound core k number found new =
    (at : JudgesAt core k number) → StandsFor at.terms new (Judge 0 k number found ∷ Claim 0 k number ∷ at.events)

-- this is the reply that is due to a Choose
abbrev pub RepliesAsDesk : Core → ℕ → Reply → Type 0
RepliesAsDesk core k reply = (at : DecidesAt core k) → reply ≡ choose_reply at.terms (desk at.terms at.events)

-- the core then stands for the events with the Choose
abbrev pub StandsDecided : Core → ℕ → Core → Type 0
StandsDecided core k new = (at : DecidesAt core k) → StandsFor at.terms new (Choose k ∷ at.events)
