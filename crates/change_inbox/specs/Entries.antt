-- Words on the entries of a journal.
use Rattle.std.specs.Prelude.{ℕ, ◌+◌, List, [], ◌∷◌, filter, ◌==◌}
use Rattle.change_inbox.specs.declared.entry.Entry.{Entry}
use Rattle.change_inbox.specs.declared.entry.Entry.TheVariants.{Post, Cut, Shut}

module _ {T : Type 0} where
  -- the number of the seat that made the entry
  abbrev pub seat_of : Entry T → ℕ
  seat_of (Post seat number body) = seat
  seat_of (Cut seat boundary) = seat
  seat_of (Shut seat) = seat

  -- the entries that a seat made, in order
  abbrev pub by_seat : ℕ → List (Entry T) → List (Entry T)
  by_seat seat entries = filter (λ e. seat == seat_of e) entries

  -- the bodies of the posts, in order
  abbrev pub posts_in : List (Entry T) → List T
  posts_in [] = []
  posts_in (Post seat number body ∷ es) = body ∷ posts_in es
  posts_in (Cut seat boundary ∷ es) = posts_in es
  posts_in (Shut seat ∷ es) = posts_in es

  -- how many cuts there are
  abbrev pub cuts_in : List (Entry T) → ℕ
  cuts_in [] = 0
  cuts_in (Post seat number body ∷ es) = cuts_in es
  cuts_in (Cut seat boundary ∷ es) = 1 + cuts_in es
  cuts_in (Shut seat ∷ es) = cuts_in es

  -- how many shuts there are
  abbrev pub shuts_in : List (Entry T) → ℕ
  shuts_in [] = 0
  shuts_in (Post seat number body ∷ es) = shuts_in es
  shuts_in (Cut seat boundary ∷ es) = shuts_in es
  shuts_in (Shut seat ∷ es) = 1 + shuts_in es

  -- the places of the posts, where the list begins at this place
  abbrev pub post_places : ℕ → List (Entry T) → List ℕ
  post_places place [] = []
  post_places place (Post seat number body ∷ es) = place ∷ post_places (place + 1) es
  post_places place (Cut seat boundary ∷ es) = post_places (place + 1) es
  post_places place (Shut seat ∷ es) = post_places (place + 1) es
