-- What the cuts of a journal take.
use Rattle.std.specs.Prelude.{◌≡◌, ℕ, ◌==◌, ◌||◌, Bool, true, false, List, [], ◌∷◌, ◌++◌, filter, map, length}
use Rattle.std.specs.List.{flat_map}
use Rattle.change_inbox.specs.declared.entry.Entry.{Entry}
use Rattle.change_inbox.specs.declared.entry.Entry.TheVariants.{Post, Cut, Shut}
use Rattle.change_inbox.specs.Entries.{seat_of, posts_in}
use Rattle.change_inbox.specs.Seats.{SeatView, own_of}

-- a cut: its boundary, and the posts that it takes
pub record Take (T : Type 0) : Type 0 where
  pub boundary : ℕ
  pub posts : List T

module _ {T : Type 0} where
  -- a cut at this boundary that takes these posts
  abbrev pub take_at : ℕ → List T → Take T
  take_at boundary posts = record { boundary = boundary; posts = posts }

  -- what each cut takes, where these posts wait before the entries
  abbrev pub takes_after : List T → List (Entry T) → List (Take T)
  takes_after waiting [] = []
  takes_after waiting (Post seat number body ∷ es) = takes_after (waiting ++ body ∷ []) es
  takes_after waiting (Cut seat boundary ∷ es) = take_at boundary waiting ∷ takes_after [] es
  takes_after waiting (Shut seat ∷ es) = takes_after waiting es

  -- what each cut takes: the posts since the cut before it
  abbrev pub takes : List (Entry T) → List (Take T)
  takes entries = takes_after [] entries

  -- the posts that cuts take, one after another
  abbrev pub posts_taken : List (Take T) → List T
  posts_taken cuts = flat_map (λ cut. cut.posts) cuts

  -- the boundaries of cuts, in order
  abbrev pub boundaries : List (Take T) → List ℕ
  boundaries cuts = map (λ cut. cut.boundary) cuts

  -- an entry is a post
  abbrev pub is_post : Entry T → Bool
  is_post (Post seat number body) = true
  is_post (Cut seat boundary) = false
  is_post (Shut seat) = false

  -- all posts, and the other entries of one seat
  abbrev pub posts_and_own : ℕ → List (Entry T) → List (Entry T)
  posts_and_own seat entries = filter (λ entry. is_post entry || (seat == seat_of entry)) entries

  -- what each cut of a seat took
  abbrev pub taken_by : SeatView T → List (Take T)
  taken_by seat = takes (posts_and_own seat.number seat.seen)

  -- a seat that posts nothing, whose cuts took so many posts
  pub record IsCutter (seat : SeatView T) (taken : ℕ) : Type 0 where
    pub posts_nothing : length (posts_in (own_of seat)) ≡ 0
    pub counts : taken ≡ length (posts_taken (taken_by seat))
