-- How many posts a core was told that is told an event more.
use Rattle.std.proofs.Common.{◌≡◌, ◌≤◌, ◌+◌, ◌<◌, ℕ, Bool, true, false, if◌then◌else◌, ◌∷◌, Result, Ok, Err, IfOk, refl, arith}
use Rattle.std.specs.Prelude.{IfErr}
use Rattle.search_core.specs.declared.event.Event.{Event}
use Rattle.search_core.specs.declared.event.Event.TheVariants.{Post, Cut, Start, Claim, Judge, Choose}
use Rattle.search_core.specs.declared.event.Reply.{Reply}
use Rattle.search_core.specs.declared.event.CoreFault.{CoreFault}
use Rattle.search_core.specs.declared.machine.Core.{Core}
use Rattle.search_core.specs.Desk.{Desk, Terms, after_step, choice_on, desk, is_decided, next_desk, with_more}
use Rattle.search_core.specs.Keeps.{GoesOn, HasRoomFor, Stays}
use Rattle.search_core.proofs.HasRoom.{has_room}
use Rattle.search_rows.specs.Posted.{HasFewPosts}

either_posts : (b : Bool) (one other : Desk) (n : ℕ) → one.posts ≡ n → other.posts ≡ n → (if b then one else other).posts ≡ n
either_posts true one other n first second = first
either_posts false one other n first second = second

-- an event adds one post at most
next_posts : (t : Terms) (d : Desk) (event : Event) → (next_desk t d event).posts ≤ d.posts + 1
next_posts t d (Post seat number) = omega arith
next_posts t d (Cut boundary) = omega arith
next_posts t d (Start score) = omega arith
next_posts t d (Claim worker step number) = omega arith
next_posts t d (Judge worker step number found) = omega arith
next_posts t d (Choose step) =
    let same : (next_desk t d (Choose step)).posts ≡ d.posts = either_posts (is_decided t d) (after_step t d (choice_on t d)) (with_more t d) d.posts refl refl in
    omega (arith, same)

-- a core with few posts has room for an event
pub has_room_for : (core : Core) (most : ℕ) (event : Event) → HasFewPosts core most → most < 1000 → HasRoomFor core event
has_room_for core most event few room =
    let posts : core.posts ≡ (desk few.terms few.events).posts = few.stands.keeps.posts in
    has_room core event (omega (arith, posts, few.few, room))

-- whatever is answered to an event, there is one post more at most
pub answered : (old new : Core) (most : ℕ) (event : Event) (answer : Result Reply CoreFault) → HasFewPosts old most → IfOk answer (λ reply. GoesOn old event reply new) → IfErr answer (λ fault. Stays old event fault new) → HasFewPosts new (most + 1)
answered old new most event (Ok reply) few ok err =
    let more = next_posts few.terms (desk few.terms few.events) event in
    record {
      terms = few.terms;
      events = event ∷ few.events;
      stands = (ok few.terms few.events few.stands).stands;
      few = omega (arith, few.few, more);
    }
answered old new most event (Err fault) few ok err = record {
  terms = few.terms;
  events = few.events;
  stands = (err few.terms few.events few.stands).stands;
  few = omega (arith, few.few);
}
