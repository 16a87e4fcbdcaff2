-- The journal of an open inbox, and what an entry adds to it.
use Rattle.std.specs.Prelude.{◌≡◌, ℕ, ◌+◌, ◌≤◌, List, [], ◌∷◌, ◌++◌, length, nat_lt, Bool}
use Rattle.change_inbox.specs.declared.entry.Entry.{Entry}
use Rattle.change_inbox.specs.declared.entry.Entry.TheVariants.{Post, Cut, Shut}
use Rattle.change_inbox.specs.declared.knowledge.Limits.{Limits}
use Rattle.change_inbox.specs.Entries.{posts_in, cuts_in, shuts_in, post_places}

-- the entries so far, and the most that there may be of each kind
pub record BookView (T : Type 0) : Type 0 where
  pub entries : List (Entry T)
  pub limits : Limits

module _ {T : Type 0} where
  -- the three kinds of entry
  abbrev pub post : ℕ → ℕ → T → Entry T
  post seat number body = Post seat number body

  abbrev pub cut : ℕ → ℕ → Entry T
  cut seat boundary = Cut seat boundary

  abbrev pub shut : ℕ → Entry T
  shut seat = Shut seat

  -- the book with one more entry
  abbrev pub with_entry : BookView T → Entry T → BookView T
  with_entry book entry = record book { entries = book.entries ++ entry ∷ [] }

  -- no kind of entry is past its limit, there is room for the rest, and the places of the posts and whether there is a shut are kept
  pub record IsBook (limits : Limits) (entries : List (Entry T)) (room : ℕ) (places : List ℕ) (post_room : ℕ)
      (is_shut : Bool) : Type 0 where
    pub posts : length (posts_in entries) ≤ limits.posts
    pub cuts : cuts_in entries ≤ limits.cuts
    pub shuts : shuts_in entries ≤ limits.seats
    pub has_room : limits.posts + limits.cuts + limits.seats ≤ room
    pub has_post_room : limits.posts ≤ post_room
    pub knows_places : places ≡ post_places 0 entries
    pub knows_shut : is_shut ≡ nat_lt 0 (shuts_in entries)
