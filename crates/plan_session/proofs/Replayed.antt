-- The lines that a boundary takes, where the boundaries of lines never fall: they stand together.
use Rattle.std.proofs.Common.{◌≡◌, ◌∙◌, ◌≤◌, ◌<◌, ◌+◌, ◌==◌, ℕ, zero, suc, Bool, true, false, if◌then◌else◌, List, [], ◌∷◌, length, map, filter, zip, take, drop, get_or, refl, sym, ap, subst, arith, ◌-◌, ◌++◌, Result, Err, IsErrAnd}
use Rattle.plan_changes.specs.declared.line.Post.{Post}
use Rattle.live_lines.specs.Taking.{Taken, taken, taken_at}
use Rattle.plan_json.specs.Domains.{DomainView}
use Rattle.plan_ports.specs.Outside.{LaterSink, SinkState, Wrote}
use Rattle.plan_search.specs.Posed.{Posed}
use Rattle.plan_search.specs.RunLines.{Feed}
use Rattle.plan_session.specs.declared.fault.PrintFault.{PrintFault}
use Rattle.plan_session.specs.Fed.{fed_text, legs_to, newest}
use Rattle.plan_session.specs.Live.{next_leg, next_text, text_to}
use Rattle.plan_session.specs.Printing.{Prints}
use Rattle.plan_session.specs.Replayed.{IsPlaceAt, feed_of, grounds_of, lines_at, replay_text}
use Rattle.plan_session.proofs.Begun.{failed}
use Rattle.plan_session.proofs.Live.{newest-next, text-next}
use Rattle.plan_session.proofs.Printed.{prints_front, prints_more}

-- the lines of a boundary, where the first of some is looked at
abbrev with_first : (k : ℕ) (post : Post) (bound : ℕ) (posts : List Post) (bounds : List ℕ) → Bool → List Taken
with_first k post bound posts bounds is =
    map (λ (pair : Post × ℕ). taken k pair.0)
    (if is then (post, bound) ∷ filter (λ pair. pair.1 == k) (zip posts bounds) else filter (λ pair. pair.1 == k) (zip posts bounds))

module _ (k : ℕ) where
  -- later boundaries' lines are none of them
  none_here : (posts : List Post) (bounds : List ℕ) → ((i d : ℕ) → i < length bounds → suc k ≤ get_or bounds i d)
      → lines_at posts bounds k ≡ []
  none_here [] bounds later = refl
  none_here (post ∷ posts) [] later = refl
  none_here (post ∷ posts) (bound ∷ bounds) later =
      let above : suc k ≤ bound = later 0 0 (omega arith) in
      let other : (bound == k) ≡ false = grind arith in
      ap (with_first k post bound posts bounds) other
      ∙ none_here posts bounds (λ i d within. later (suc i) d (omega (arith, within)))

  -- so many lines from a place on are those of a boundary, if the places of this one and of the next are known
  lines_together : (posts : List Post) (bounds : List ℕ) (from count : ℕ) → length bounds ≡ length posts
      → IsPlaceAt bounds k from → IsPlaceAt bounds (suc k) (from + count)
      → lines_at posts bounds k ≡ taken_at k (take count (drop from posts))
  lines_together [] [] zero zero same here next = refl
  lines_together [] [] zero (suc count) same here next = absurd (omega (arith, next.within))
  lines_together [] [] (suc from) count same here next = absurd (omega (arith, here.within))
  lines_together [] (bound ∷ bounds) from count same here next = absurd (omega (arith, same))
  lines_together (post ∷ posts) [] from count same here next = absurd (omega (arith, same))
  lines_together (post ∷ posts) (bound ∷ bounds) zero zero same here next =
      none_here (post ∷ posts) (bound ∷ bounds) (λ i d within. next.behind i d (omega arith) within)
  lines_together (post ∷ posts) (bound ∷ bounds) zero (suc count) same here next =
      let least : k ≤ bound = here.behind 0 0 (omega arith) (omega arith) in
      let most : bound < suc k = next.before 0 0 (omega arith) in
      let that : (bound == k) ≡ true = grind arith in
      ap (with_first k post bound posts bounds) that
      ∙ ap (λ (lines : List Taken). taken k post ∷ lines)
      (lines_together posts bounds zero count (omega (arith, same))
      (record { within = omega arith; before = λ i d before. absurd (omega (arith, before)); behind = λ i d behind within. here.behind (suc i) d (omega arith) (omega (arith, within)) })
      (record { within = omega (arith, next.within); before = λ i d before. next.before (suc i) d (omega (arith, before)); behind = λ i d behind within. next.behind (suc i) d (omega (arith, behind)) (omega (arith, within)) }))
  lines_together (post ∷ posts) (bound ∷ bounds) (suc from) count same here next =
      let below : bound < k = here.before 0 0 (omega arith) in
      let other : (bound == k) ≡ false = grind arith in
      ap (with_first k post bound posts bounds) other
      ∙ lines_together posts bounds from count (omega (arith, same))
      (record { within = omega (arith, here.within); before = λ i d before. here.before (suc i) d (omega (arith, before)); behind = λ i d behind within. here.behind (suc i) d (omega (arith, behind)) (omega (arith, within)) })
      (record { within = omega (arith, next.within); before = λ i d before. next.before (suc i) d (omega (arith, before)); behind = λ i d behind within. next.behind (suc i) d (omega (arith, behind)) (omega (arith, within)) })

  -- the lines from one place to the next are those of the boundary
  pub lines_between : (posts : List Post) (bounds : List ℕ) (from end : ℕ) → length bounds ≡ length posts
      → IsPlaceAt bounds k from → IsPlaceAt bounds (suc k) end → from ≤ end
      → lines_at posts bounds k ≡ taken_at k (take (end - from) (drop from posts))
  lines_between posts bounds from end same here next later =
      let is : end ≡ from + (end - from) = omega (arith, later) in
      lines_together posts bounds from (end - from) same here (subst (IsPlaceAt bounds (suc k)) is next)

-- at boundary 0 all lines are there or later
pub first_place : (bounds : List ℕ) → IsPlaceAt bounds 0 0
first_place bounds = record {
  within = omega arith;
  before = λ i d before. absurd (omega (arith, before));
  behind = λ i d behind within. omega arith;
}

-- what `replay` prints is the run with the lines of its feed
pub replay_is : (domain : DomainView) (posts : List Post) (bounds : List ℕ) (posed : Posed)
    → fed_text (feed_of domain) posed (lines_at posts bounds) ≡ replay_text (grounds_of domain) posts bounds posed
unfolding replay_text
replay_is domain posts bounds posed = refl

-- behind a text a call failed at the next one, and more was to come
pub failed_at : {A B : Type 0} (result : Result B PrintFault) (fault : PrintFault) (first next rest whole : List ℕ) (s0 s1 s2 : SinkState)
    → (first ++ next) ++ rest ≡ whole → Wrote first s0 s1 → LaterSink s0 s1 → IsErrAnd result (λ other. other ≡ fault)
    → Prints {A = A} (Err fault) next s1 s2 → Prints result whole s0 s2
failed_at {A} result fault first next rest whole s0 s1 s2 all wrote later is prints =
    subst (λ (text : List ℕ). Prints result text s0 s2) all
    (failed {A = A} result fault ((first ++ next) ++ rest) s0 s2 is
    (prints_front {A = A} fault (first ++ next) rest s0 s2 (prints_more {A = A} (Err fault) first next s0 s1 s2 wrote later prints)))

module _ {Change : Type 0} (feed : Feed Change) (posed : Posed) (takes : ℕ → List Change) (n : ℕ) (lines : List Change)
    (taken : takes (n + 1) ≡ lines) where
  one_more : n + 1 ≡ suc n
  one_more = omega arith

  -- the step and the boundary behind this one lead to the next newest leg
  pub next_newest : next_leg feed posed (n + 1) lines (newest posed (legs_to feed posed takes n))
      ≡ newest posed (legs_to feed posed takes (n + 1))
  next_newest =
      ap (λ (those : List Change). next_leg feed posed (n + 1) those (newest posed (legs_to feed posed takes n))) (sym taken)
      ∙ ap (λ (k : ℕ). next_leg feed posed k (takes k) (newest posed (legs_to feed posed takes n))) one_more
      ∙ sym (newest-next feed posed takes n)
      ∙ ap (λ (k : ℕ). newest posed (legs_to feed posed takes k)) (sym one_more)

  -- and to the next text
  pub next_text_is : text_to feed posed takes n ++ next_text feed posed (n + 1) lines (newest posed (legs_to feed posed takes n))
      ≡ text_to feed posed takes (n + 1)
  next_text_is =
      ap (λ (those : List Change). text_to feed posed takes n ++ next_text feed posed (n + 1) those (newest posed (legs_to feed posed takes n))) (sym taken)
      ∙ ap (λ (k : ℕ). text_to feed posed takes n ++ next_text feed posed k (takes k) (newest posed (legs_to feed posed takes n))) one_more
      ∙ sym (text-next feed posed takes n)
      ∙ ap (text_to feed posed takes) (sym one_more)
