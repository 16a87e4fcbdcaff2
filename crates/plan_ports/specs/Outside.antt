-- What contracts see of sources, sinks and shelves, and what calls to them do.
use Rattle.std.specs.Prelude.{◌≡◌, ◌<◌, ◌≤◌, ◌⊎◌, ◌-◌, ◌^◌, ℕ, List, [], ◌++◌, Bool, true, false, Option, Some, length, take, drop}

-- a source: whether it tells the bytes that are left, these bytes, whether no take of it fails, and how many faults it
-- counted
pub record SourceState : Type 0 where
  pub tells : Bool
  pub left : List ℕ
  pub is_sound : Bool
  pub faults : ℕ

-- a sink: whether it tells the bytes that were written, these bytes, and how many faults it counted
pub record SinkState : Type 0 where
  pub tells : Bool
  pub written : List ℕ
  pub faults : ℕ

-- a shelf: whether it tells which names hold which bytes, these bytes, the names at which nothing fails, how many files it
-- has lent that weren't given back, and how many faults it counted
pub record ShelfState : Type 0 where
  pub tells : Bool
  pub bytes_of : List ℕ → Option (List ℕ)
  pub is_sound : List ℕ → Bool
  pub lent : ℕ
  pub faults : ℕ

-- the count is greater than before, or stands at the greatest u64
abbrev pub Rose : ℕ → ℕ → Type 0
Rose before now = (before < now) ⊎ (2 ^ 64 - 1 ≤ now)

-- the source, the sink or the shelf counted a fault
abbrev pub SourceFails : SourceState → SourceState → Type 0
SourceFails old new = Rose old.faults new.faults

abbrev pub SinkFails : SinkState → SinkState → Type 0
SinkFails old new = Rose old.faults new.faults

abbrev pub ShelfFails : ShelfState → ShelfState → Type 0
ShelfFails old new = Rose old.faults new.faults

-- what holds of a source after every call: it tells its bytes, and is sound, where it did and was; its count of faults never
-- falls, and stays where it is sound
pub record LaterSource (old new : SourceState) : Type 0 where
  pub same_tells : new.tells ≡ old.tells
  pub same_sound : new.is_sound ≡ old.is_sound
  pub later : old.faults ≤ new.faults
  pub quiet : old.is_sound ≡ true → new.faults ≡ old.faults

-- what holds of a sink after every call
pub record LaterSink (old new : SinkState) : Type 0 where
  pub same_tells : new.tells ≡ old.tells
  pub later : old.faults ≤ new.faults

-- what holds of a shelf after every call: it has what it had under each name
pub record LaterShelf (old new : ShelfState) : Type 0 where
  pub same_tells : new.tells ≡ old.tells
  pub same_bytes : new.bytes_of ≡ old.bytes_of
  pub same_sound : new.is_sound ≡ old.is_sound
  pub later : old.faults ≤ new.faults

-- n bytes were moved from the front of what was left into the front of the buffer; no bytes into a buffer with room are the
-- end
pub record MovesBytes (n : ℕ) (left_old left_new buf_old buf_new : List ℕ) : Type 0 where
  pub enough : n ≤ length left_old
  pub moved : buf_new ≡ take n left_old ++ drop n buf_old
  pub rest : left_new ≡ drop n left_old
  pub end : n ≡ 0 → 0 < length buf_old → left_old ≡ []

-- the source moved n bytes into the buffer, where it tells its bytes
abbrev pub Moves : ℕ → SourceState → SourceState → List ℕ → List ℕ → Type 0
Moves n old new buf_old buf_new = old.tells ≡ true → MovesBytes n old.left new.left buf_old buf_new

-- these are the bytes that were left of the source, and none are left now, where it tells them
abbrev pub ReadsAll : List ℕ → SourceState → SourceState → Type 0
ReadsAll bytes old new = old.tells ≡ true → (bytes ≡ old.left) × (new.left ≡ [])

-- more than so many bytes are left, where the source tells them
abbrev pub HasMore : ℕ → SourceState → Type 0
HasMore limit source = source.tells ≡ true → limit < length source.left

-- what was written is what had been written, and a front of the text behind it
abbrev pub AppendsFront : List ℕ → List ℕ → List ℕ → Type 0
AppendsFront text old new = (n : ℕ) × (n ≤ length text) × (new ≡ old ++ take n text)

-- the whole text was written, where the sink tells what was
abbrev pub Wrote : List ℕ → SinkState → SinkState → Type 0
Wrote text old new = old.tells ≡ true → new.written ≡ old.written ++ text

-- a front of the text was written, where the sink tells what was
abbrev pub WroteFront : List ℕ → SinkState → SinkState → Type 0
WroteFront text old new = old.tells ≡ true → AppendsFront text old.written new.written

-- nothing was written, where the sink tells what was
abbrev pub WroteNothing : SinkState → SinkState → Type 0
WroteNothing old new = old.tells ≡ true → new.written ≡ old.written

-- taking nothing of a piece that has bytes counts as a fault
abbrev pub CountsStall : ℕ → List ℕ → SinkState → SinkState → Type 0
CountsStall n piece old new = n ≡ 0 → 0 < length piece → SinkFails old new

-- these are the bytes under the name, where the shelf tells them
abbrev pub Holds : ShelfState → List ℕ → List ℕ → Type 0
Holds shelf name bytes = shelf.tells ≡ true → shelf.bytes_of name ≡ Some bytes

-- what an open gives: a file without a fault that tells the bytes under the name, and is sound where the name is
pub record IsOpened (name : List ℕ) (shelf : ShelfState) (file : SourceState) : Type 0 where
  pub tells : shelf.tells ≡ true → file.tells ≡ true
  pub holds : Holds shelf name file.left
  pub sound : shelf.is_sound name ≡ true → file.is_sound ≡ true
  pub fresh : file.faults ≡ 0

-- the shelf counted a fault, at a name that isn't sound
pub record FailsAt (name : List ℕ) (old new : ShelfState) : Type 0 where
  pub fails : ShelfFails old new
  pub unsound : old.is_sound name ≡ false
