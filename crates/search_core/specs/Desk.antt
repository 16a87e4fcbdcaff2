-- The core as a machine: what a list of events leaves, and how the next event is answered.
use Rattle.std.specs.Prelude.{ℕ, ◌+◌, ◌-◌, Bool, true, false, ◌==◌, ◌&&◌, ◌||◌, not, min, if◌then◌else◌, nat_lt, nat_le, is_none, is_some, List, [], ◌∷◌, Option, Some, None, Result, Ok, Err, find, option_map}
use Rattle.std.specs.List.{range_with_len}
use Rattle.std.specs.Option.{option_and_then, option_map_or}
use Rattle.plan_scores.specs.declared.plan_score.PlanScore.{PlanScore}
use Rattle.plan_scores.specs.Sum.{zero_score}
use Rattle.plan_settings.specs.declared.settings.Settings.{Settings}
use Rattle.foragers.specs.declared.Seen.{Seen}
use Rattle.foragers.specs.Forage.{is_ended, number_of, winner_of}
use Rattle.acceptors.specs.History.{History, begun, last_score, went}
use Rattle.plan_search.specs.declared.found.Found.{Found}
use Rattle.plan_search.specs.Judging.{judged_from, limits_at}
use Rattle.search_core.specs.declared.machine.Phase.{Phase}
use Rattle.search_core.specs.declared.machine.Phase.TheVariants.{Idle, Waits, Open}
use Rattle.search_core.specs.declared.event.Event.{Event}
use Rattle.search_core.specs.declared.event.Event.TheVariants.{Post, Cut, Start, Claim, Judge, Choose}
use Rattle.search_core.specs.declared.event.Reply.{Reply}
use Rattle.search_core.specs.declared.event.Reply.TheVariants.{Noted, Leg, More, Chosen}
use Rattle.search_core.specs.declared.event.CoreFault.{CoreFault}
use Rattle.search_core.specs.declared.event.CoreFault.TheVariants.{BadBoundary, NoLeg, BadStep, Taken, NotClaimed, Unjudged}
use Rattle.search_core.specs.ByNumber.{nothing, with_value}

-- how a search is to go: its settings, and how many candidates are asked at once
pub record Terms : Type 0 where
  pub settings : Settings
  pub buffer : ℕ

-- what a list of events leaves: the numbers of Cuts, of Posts since the last one and of steps chosen, how the search stands, how many
-- numbers of the step are asked, the leg's history, who claimed a number in the step, and what was found of each number judged
pub record Desk : Type 0 where
  pub cuts : ℕ
  pub posts : ℕ
  pub chosen : ℕ
  pub phase : Phase
  pub asked : ℕ
  pub history : History
  pub claims : ℕ → Option ℕ
  pub verdicts : ℕ → Option (Option Found)

-- how many numbers a step asks at first
abbrev pub first_asked : Terms → ℕ
first_asked t = min t.buffer t.settings.select_limit

-- the score of nothing
abbrev pub no_score : PlanScore
no_score = record { unplaced = 0; score = zero_score }

-- before any event
abbrev pub empty_desk : Terms → Desk
empty_desk t = record {
  cuts = 0;
  posts = 0;
  chosen = 0;
  phase = Idle;
  asked = first_asked t;
  history = begun no_score;
  claims = nothing;
  verdicts = nothing;
}

-- a leg waits to start
abbrev pub is_waiting : Phase → Bool
is_waiting Idle = false
is_waiting Waits = true
is_waiting Open = false

-- a step is in course
abbrev pub is_open : Phase → Bool
is_open Idle = false
is_open Waits = false
is_open Open = true

-- after so many Cuts the next step is in course, up to the step limit
abbrev pub phase_after : Terms → ℕ → Phase
phase_after t cuts = if nat_le cuts t.settings.steps then Open else Idle

-- a Cut at the boundary begins a leg where it is the first, or where there are posts
abbrev pub begins_leg : ℕ → ℕ → Bool
begins_leg boundary posts = boundary == 0 || nat_lt 0 posts

-- why a Cut isn't taken
abbrev pub cut_fault : Terms → Desk → ℕ → Option CoreFault
cut_fault t d boundary =
    if not (boundary == d.cuts) || nat_lt t.settings.steps d.cuts then Some (BadBoundary d.cuts)
    else if is_waiting d.phase then Some NoLeg
    else if is_open d.phase then Some (BadStep d.cuts)
    else None

-- why a Start isn't taken
abbrev pub start_fault : Desk → Option CoreFault
start_fault d = if is_waiting d.phase then None else Some NoLeg

-- why an event of a step isn't taken, whatever it says of the step
abbrev pub step_fault : Desk → ℕ → Option CoreFault
step_fault d step =
    if d.cuts == 0 || is_waiting d.phase then Some NoLeg
    else if is_open d.phase && step == d.chosen + 1 then None
    else Some (BadStep (d.chosen + 1))

-- this fault, or else the next one
abbrev pub fault_or : Option CoreFault → Option CoreFault → Option CoreFault
fault_or None next = next
fault_or (Some fault) next = Some fault

-- why a Claim isn't taken
abbrev pub claim_fault : Desk → ℕ → ℕ → Option CoreFault
claim_fault d step number =
    fault_or (step_fault d step) (if is_some (d.claims number) then Some (Taken number) else None)

-- the worker claimed a number, and it isn't judged
abbrev pub may_judge : Desk → ℕ → ℕ → Bool
may_judge d worker number =
    option_map_or (λ claimer. claimer == worker) (d.claims number) false && is_none (d.verdicts number)

-- why a Judge isn't taken
abbrev pub judge_fault : Desk → ℕ → ℕ → ℕ → Option CoreFault
judge_fault d worker step number =
    fault_or (step_fault d step) (if may_judge d worker number then None else Some (NotClaimed number))

-- the lowest asked number that isn't judged
abbrev pub unjudged : Desk → Option ℕ
unjudged d = find (λ number. is_none (d.verdicts number)) (range_with_len 0 d.asked)

-- why a Choose isn't taken
abbrev pub choose_fault : Desk → ℕ → Option CoreFault
choose_fault d step = fault_or (step_fault d step) (option_map Unjudged (unjudged d))

-- why an event isn't taken: the first fault that applies, if any
abbrev pub fault_of : Terms → Desk → Event → Option CoreFault
fault_of t d (Post seat number) = None
fault_of t d (Cut boundary) = cut_fault t d boundary
fault_of t d (Start score) = start_fault d
fault_of t d (Claim worker step number) = claim_fault d step number
fault_of t d (Judge worker step number found) = judge_fault d worker step number
fault_of t d (Choose step) = choose_fault d step

-- what was found of a number that was judged; none where its candidate can't be made
abbrev pub found_in : (ℕ → Option (Option Found)) → ℕ → Option Found
found_in verdicts number = option_and_then (λ found. found) (verdicts number)

-- what was found of a number of the step
abbrev pub found_on : Desk → ℕ → Option Found
found_on d number = found_in d.verdicts number

-- the candidates among the asked numbers, in order of number
abbrev pub entries_on : Terms → Desk → List Seen
entries_on t d = judged_from t.settings d.history (found_on d) 0 d.asked

-- a limit or an early pick ends the step, or all numbers are asked
abbrev pub is_decided : Terms → Desk → Bool
is_decided t d =
    is_ended (limits_at t.settings d.history) (entries_on t d) || d.asked == t.settings.select_limit

-- the number of the winner among the asked numbers, if any
abbrev pub choice_on : Terms → Desk → Option ℕ
choice_on t d = option_map number_of (winner_of (limits_at t.settings d.history) (entries_on t d))

-- how many more numbers are asked
abbrev pub more_count : Terms → Desk → ℕ
more_count t d = min t.buffer (t.settings.select_limit - d.asked)

-- the reply to a Cut
abbrev pub cut_reply : Desk → ℕ → Reply
cut_reply d boundary = if begins_leg boundary d.posts then Leg d.posts else Noted

-- the reply to a Choose
abbrev pub choose_reply : Terms → Desk → Reply
choose_reply t d = if is_decided t d then Chosen (choice_on t d) else More d.asked (more_count t d)

-- the reply to an event that is taken
abbrev pub reply_to : Terms → Desk → Event → Reply
reply_to t d (Post seat number) = Noted
reply_to t d (Cut boundary) = cut_reply d boundary
reply_to t d (Start score) = Noted
reply_to t d (Claim worker step number) = Noted
reply_to t d (Judge worker step number found) = Noted
reply_to t d (Choose step) = choose_reply t d

-- the history after a step, by what was found of its winner, if it has one
abbrev pub after_found : History → Option Found → History
after_found h found = option_map_or (λ f. went h f.score f.touched) found (went h (last_score h) [])

-- what was found of a winner, if there is one
abbrev pub found_of_winner : Desk → Option ℕ → Option Found
found_of_winner d winner = option_and_then (found_on d) winner

-- after a Cut
abbrev pub after_cut : Terms → Desk → ℕ → Desk
after_cut t d boundary = record d {
  cuts = d.cuts + 1;
  posts = 0;
  phase = if begins_leg boundary d.posts then Waits else phase_after t (d.cuts + 1);
}

-- after a step that this number won, if any
abbrev pub after_step : Terms → Desk → Option ℕ → Desk
after_step t d winner = record d {
  phase = Idle;
  chosen = d.chosen + 1;
  asked = first_asked t;
  history = after_found d.history (found_of_winner d winner);
  claims = nothing;
  verdicts = nothing;
}

-- where more numbers are asked
abbrev pub with_more : Terms → Desk → Desk
with_more t d = record d { asked = d.asked + more_count t d }

-- after a Choose
abbrev pub after_choose : Terms → Desk → Desk
after_choose t d = if is_decided t d then after_step t d (choice_on t d) else with_more t d

-- what an event leaves that is taken
abbrev pub next_desk : Terms → Desk → Event → Desk
next_desk t d (Post seat number) = record d { posts = d.posts + 1 }
next_desk t d (Cut boundary) = after_cut t d boundary
next_desk t d (Start score) = record d { phase = phase_after t d.cuts; history = begun score }
next_desk t d (Claim worker step number) = record d { claims = with_value d.claims number worker }
next_desk t d (Judge worker step number found) = record d { verdicts = with_value d.verdicts number found }
next_desk t d (Choose step) = after_choose t d

-- what a list of events leaves, the newest first
abbrev pub desk : Terms → List Event → Desk
desk t [] = empty_desk t
desk t (event ∷ older) = next_desk t (desk t older) event

-- after worker 0 claimed a number and judged it
abbrev pub judged_by_one : Desk → ℕ → Option Found → Desk
judged_by_one d number found = record d {
  claims = with_value d.claims number 0;
  verdicts = with_value d.verdicts number found;
}

-- how an event is answered: by its fault, or else its reply
abbrev pub answer : Terms → Desk → Event → Result Reply CoreFault
answer t d event = option_map_or (λ fault. Err fault) (fault_of t d event) (Ok (reply_to t d event))
