-- What a core keeps, and for which events it stands.
use Rattle.std.specs.Prelude.{◌≡◌, ℕ, ◌+◌, ◌<◌, ◌^◌, IsSome, List, ◌∷◌, None, Result, MatchResult}
use Rattle.plan_facts.specs.Refusal.{IsRefusal}
use Rattle.acceptors.specs.Stands.{StandsFor as AcceptorStandsFor}
use Rattle.foragers.specs.Forages.{Forages}
use Rattle.plan_search.specs.Judging.{judged_from, limits_at}
use Rattle.search_core.specs.declared.event.Event.{Event}
use Rattle.search_core.specs.declared.event.Event.TheVariants.{Post}
use Rattle.search_core.specs.declared.event.Reply.{Reply}
use Rattle.search_core.specs.declared.event.CoreFault.{CoreFault}
use Rattle.search_core.specs.declared.event.CoreFault.TheVariants.{Memory}
use Rattle.search_core.specs.declared.machine.Core.{Core}
use Rattle.search_core.specs.ByNumber.{AreSame, value_at}
use Rattle.search_core.specs.Desk.{Terms, Desk, desk, fault_of, found_on, next_desk, reply_to}

-- a core's terms
abbrev pub terms_of : Core → Terms
terms_of core = record { settings = core.settings; buffer = core.buffer }

-- a core keeps a desk; the numbers that it has looked at are judged, and its forager saw their entries
pub record Keeps (core : Core) (d : Desk) : Type 0 where
  pub cuts : core.cuts ≡ d.cuts
  pub posts : core.posts ≡ d.posts
  pub chosen : core.chosen ≡ d.chosen
  pub phase : core.phase ≡ d.phase
  pub asked : core.asked ≡ d.asked
  pub history : AcceptorStandsFor core.acceptor d.history
  pub claims : AreSame (value_at core.claims) d.claims
  pub verdicts : AreSame (value_at core.verdicts) d.verdicts
  pub looked : (n : ℕ) → n < core.looked → IsSome (d.verdicts n)
  pub forages : (let entries = judged_from core.settings d.history (found_on d) 0 core.looked in
      Forages (limits_at core.settings d.history) entries core.forager)

-- every desk that the one core keeps is kept by the other
abbrev pub KeepsOn : Core → Core → Type 0
KeepsOn old new = (d : Desk) → Keeps old d → Keeps new d

-- every desk that the one core keeps is kept by the other after this change
abbrev pub KeepsAfter : Core → (Terms → Desk → Desk) → Core → Type 0
KeepsAfter old change new = (d : Desk) → Keeps old d → Keeps new (change (terms_of old) d)

-- an event is taken: its fault is none, the reply is this, and the core goes on
pub record Takes (old : Core) (d : Desk) (event : Event) (reply : Reply) (new : Core) : Type 0 where
  pub taken : fault_of (terms_of old) d event ≡ None
  pub replied : reply ≡ reply_to (terms_of old) d event
  pub keeps : Keeps new (next_desk (terms_of old) d event)

-- an event isn't taken: for want of memory, or for its fault; the core stays
pub record Refuses (old : Core) (d : Desk) (event : Event) (fault : CoreFault) (new : Core) : Type 0 where
  pub refused : IsRefusal Memory (fault_of (terms_of old) d event) fault
  pub keeps : Keeps new d

-- an event is taken whatever desk is kept
abbrev pub TakesAny : Core → Event → Reply → Core → Type 0
TakesAny old event reply new = (d : Desk) → Keeps old d → Takes old d event reply new

-- an event isn't taken whatever desk is kept
abbrev pub RefusesAny : Core → Event → CoreFault → Core → Type 0
RefusesAny old event fault new = (d : Desk) → Keeps old d → Refuses old d event fault new

-- how an event is answered whatever desk is kept
abbrev pub Answers : Core → Event → Result Reply CoreFault → Core → Type 0
Answers old event result new =
    MatchResult result (λ reply. TakesAny old event reply new) (λ fault. RefusesAny old event fault new)

-- a core with these terms stands for a list of events, the newest first
pub record StandsFor (t : Terms) (core : Core) (events : List Event) : Type 0 where
  pub terms : terms_of core ≡ t
  pub keeps : Keeps core (desk t events)

-- what an event was answered by where a core stood for a list, and that it then stands for the list with the event
pub record GoesOnAfter (t : Terms) (events : List Event) (event : Event) (reply : Reply) (new : Core) : Type 0 where
  pub taken : fault_of t (desk t events) event ≡ None
  pub replied : reply ≡ reply_to t (desk t events) event
  pub stands : StandsFor t new (event ∷ events)

-- why an event wasn't taken where a core stood for a list, and that it still stands for it
pub record StaysAt (t : Terms) (events : List Event) (event : Event) (fault : CoreFault) (new : Core) : Type 0 where
  pub refused : IsRefusal Memory (fault_of t (desk t events) event) fault
  pub stands : StandsFor t new events

-- whatever a core stands for, it goes on with the event
abbrev pub GoesOn : Core → Event → Reply → Core → Type 0
GoesOn old event reply new =
    (t : Terms) (events : List Event) → StandsFor t old events → GoesOnAfter t events event reply new

-- whatever a core stands for, it stays there
abbrev pub Stays : Core → Event → CoreFault → Core → Type 0
Stays old event fault new =
    (t : Terms) (events : List Event) → StandsFor t old events → StaysAt t events event fault new

-- a Post may be taken: there were fewer than 2^32 - 1 since the last Cut
abbrev pub HasRoomFor : Core → Event → Type 0
HasRoomFor core (Post seat number) = core.posts + 1 < 2 ^ 32
HasRoomFor core event = Unit {0}

-- a core stands for events after which an event has no fault
pub record HasNoFault (core : Core) (event : Event) : Type 0 where
  pub terms : Terms
  pub events : List Event
  pub stands : StandsFor terms core events
  pub none : fault_of terms (desk terms events) event ≡ None
