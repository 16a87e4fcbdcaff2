-- The text of `replay`.
use Rattle.std.specs.Prelude.{◌≤◌, ◌<◌, ◌==◌, ℕ, List, filter, length, map, slice_index_or, zip}
use Rattle.plan_changes.specs.declared.line.Post.{Post}
use Rattle.live_lines.specs.Taking.{Grounds, Taken, feed_on, grounds, taken}
use Rattle.plan_json.specs.Domains.{DomainView}
use Rattle.plan_search.specs.Posed.{Posed}
use Rattle.plan_search.specs.RunLines.{Feed}
use Rattle.plan_session.specs.Fed.{fed_text}

-- what changes are judged by in a domain
abbrev pub grounds_of : DomainView → Grounds
grounds_of domain = grounds domain.classes domain.rules domain.caps

-- the feed of a domain: what its lines make of a state, and what is told of them
abbrev pub feed_of : DomainView → Feed Taken
feed_of domain = feed_on (grounds_of domain)

-- the lines of a feed that a boundary takes, in order: those for which the boundary is named
abbrev pub lines_at : List Post → List ℕ → ℕ → List Taken
lines_at posts bounds k = map (λ pair. taken k pair.0) (filter (λ pair. pair.1 == k) (zip posts bounds))

-- what `replay` prints: the run whose boundaries take the lines of a feed as they are named
unfoldable pub replay_text : Grounds → List Post → List ℕ → Posed → List ℕ
replay_text by posts bounds posed = fed_text (feed_on by) posed (lines_at posts bounds)

-- the lines before this place are taken before a boundary, those from it on there or later
pub record IsPlaceAt (bounds : List ℕ) (k place : ℕ) : Type 0 where
  pub within : place ≤ length bounds
  pub before : (i d : ℕ) → i < place → slice_index_or bounds i d < k
  pub behind : (i d : ℕ) → place ≤ i → i < length bounds → k ≤ slice_index_or bounds i d
