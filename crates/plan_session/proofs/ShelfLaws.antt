-- What a shelf holds, seen from an earlier state of it.
use Rattle.std.proofs.Common.{◌≡◌, ◌∙◌, ◌≤◌, ◌<◌, ℕ, true, false, cond, List, [], ◌∷◌, Result, Ok, Err, IfOk, length, map, inl, inr, refl, sym, ap, arith}
use Rattle.std.specs.List.{range_with_len, zip}
use Rattle.std.proofs.lemmas.Bool.{le-ltb, lt-ltb}
use Rattle.std.proofs.lemmas.List.{length-map}
use Rattle.plan_ports.specs.Outside.{FailsAt, Holds, IsOpened, LaterShelf, ShelfState, SourceState}
use Rattle.plan_changes.specs.declared.line.Body.{Body}
use Rattle.plan_changes.specs.declared.line.Post.{Post}
use Rattle.change_feed.specs.Feeds.{lines_of, overlong}
use Rattle.live_lines.specs.Reading.{AreLines}
use Rattle.run_journal.specs.Bounds.{bounds_of}
use Rattle.plan_session.specs.Replaying.{Spans}
use Rattle.plan_session.specs.Run.{Run}
use Rattle.plan_session.specs.Sources.{HoldsFeed, HoldsJournal, HoldsOverlong, journal_bounds, most_bytes, numbered, posts_of}

-- what holds of a shelf after two calls
pub later_twice : (old mid new : ShelfState) → LaterShelf old mid → LaterShelf mid new → LaterShelf old new
later_twice old mid new one two =
    let below = one.later in
    let above = two.later in
    record {
      same_tells = two.same_tells ∙ one.same_tells;
      same_bytes = two.same_bytes ∙ one.same_bytes;
      same_sound = two.same_sound ∙ one.same_sound;
      later = omega arith;
    }

-- and where nothing was called
pub later_same : (shelf : ShelfState) → LaterShelf shelf shelf
later_same shelf = record { same_tells = refl; same_bytes = refl; same_sound = refl; later = omega arith }

-- a run goes on over a shelf that was called
pub spans_on : (run : Run) (now later after : ShelfState) → Spans run now after → LaterShelf now later → Spans run later after
spans_on run now later after spans called = record { later = later_twice run.shelf now later spans.later called; left = spans.left }

-- what it holds it held
pub held_before : (old mid : ShelfState) (name bytes : List ℕ) → LaterShelf old mid → Holds mid name bytes → Holds old name bytes
held_before old mid name bytes later held =
    λ told. ap (λ of_name. of_name name) (sym later.same_bytes) ∙ held (later.same_tells ∙ told)

-- a call that failed at a name failed in what went on before too
pub failed_before : (old mid new : ShelfState) (name : List ℕ) → LaterShelf old mid → FailsAt name mid new → FailsAt name old new
failed_before old mid new name later failed =
    let up = later.later in
    record {
      fails = elim failed.fails [ inl rose ↦ inl (omega (arith, up, rose)) | inr most ↦ inr most ];
      unsound = ap (λ of_name. of_name name) (sym later.same_sound) ∙ failed.unsound;
    }

-- the feed that it holds it held
pub feed_before : (old mid : ShelfState) (name : List ℕ) (posts : List Post) → LaterShelf old mid → HoldsFeed mid name posts → HoldsFeed old name posts
feed_before old mid name posts later held = record {
  lines = held.lines;
  feed = λ told. let feed = held.feed (later.same_tells ∙ told) in
      (feed.0, ap (λ of_name. of_name name) (sym later.same_bytes) ∙ feed.1, feed.2);
}

pub overlong_before : (old mid : ShelfState) (name : List ℕ) → LaterShelf old mid → HoldsOverlong mid name → HoldsOverlong old name
overlong_before old mid name later held =
    λ told. let feed = held (later.same_tells ∙ told) in
    (feed.0, ap (λ of_name. of_name name) (sym later.same_bytes) ∙ feed.1, feed.2)

-- lines are told by their numbers and what they say
posts_split : (posts : List Post) → posts ≡ map numbered (zip (map (λ (p : Post). p.line) posts) (map (λ (p : Post). p.body) posts))
posts_split [] = refl
posts_split (post ∷ posts) = ap (λ (rest : List Post). post ∷ rest) (posts_split posts)

-- lines that were read are those of the bytes
pub are_posts : (posts : List Post) (bytes : List ℕ) → AreLines posts → map (λ (p : Post). p.body) posts ≡ lines_of bytes → posts ≡ posts_of bytes
are_posts posts bytes lines bodies =
    let long : length posts ≡ length (lines_of bytes) =
    sym (length-map posts (λ (p : Post). p.body)) ∙ ap (λ (bs : List Body). length bs) bodies in
    posts_split posts
    ∙ ap (λ (ns : List ℕ). map numbered (zip ns (map (λ (p : Post). p.body) posts)))
    (lines.numbers ∙ ap (λ (n : ℕ). range_with_len 1 n) long)
    ∙ ap (λ (bs : List Body). map numbered (zip (range_with_len 1 (length (lines_of bytes))) bs)) bodies

-- a feed that was read whole is held
pub feed_held : {V E : Type 0} (items : V → List Post) (r : Result V E) (shelf : ShelfState) (name : List ℕ) (file : SourceState) → IsOpened name shelf file
    → IfOk r (λ v. AreLines (items v))
    → (file.tells ≡ true → IfOk r (λ v. map (λ (p : Post). p.body) (items v) ≡ lines_of file.left))
    → (file.tells ≡ true → IfOk r (λ v. overlong file.left ≡ false))
    → IfOk r (λ v. HoldsFeed shelf name (items v))
feed_held items (Err e) shelf name file opened lines bodies within = tt
feed_held items (Ok v) shelf name file opened lines bodies within = record {
  lines = lines;
  feed = λ told. let tells = opened.tells told in
      (file.left, opened.holds told, record { lines = are_posts (items v) file.left lines (bodies tells); within = within tells });
}

-- a journal that isn't too long says what its lines say
pub journal_says : (shelf : ShelfState) (name bytes : List ℕ) (count steps : ℕ) (said : Result (List ℕ) ℕ) → Holds shelf name bytes → length bytes ≤ most_bytes
    → bounds_of bytes count steps ≡ said → HoldsJournal shelf name count steps said
unfolding journal_bounds
journal_says shelf name bytes count steps said held short is = record {
  bytes = bytes;
  held = held;
  says = ap (λ b. cond b (Err 0) (bounds_of bytes count steps)) (le-ltb most_bytes (length bytes) short) ∙ is;
}

-- one that is too long is refused
pub journal_long : (shelf : ShelfState) (name bytes : List ℕ) (count steps : ℕ) → Holds shelf name bytes → most_bytes < length bytes → HoldsJournal shelf name count steps (Err 0)
unfolding journal_bounds
journal_long shelf name bytes count steps held long = record {
  bytes = bytes;
  held = held;
  says = ap (λ b. cond b (Err 0) (bounds_of bytes count steps)) (lt-ltb most_bytes (length bytes) long);
}
