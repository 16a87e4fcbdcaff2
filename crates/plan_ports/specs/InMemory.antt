-- What contracts see of a source, a sink and a shelf in memory.
use Rattle.std.specs.Prelude.{option_map, ◌&&◌, ◌≤◌, ◌+◌, ◌-◌, ◌^◌, ◌==◌, ◌||◌, ◌++◌, ℕ, List, Bool, true, false, Option, Some, None, All, length, drop, min, is_none, is_some, if◌then◌else◌, find, nat_lt}
use Rattle.std.specs.List.{list_any}
use Rattle.std.specs.Str.{bytes_eq}
use Rattle.plan_ports.specs.Outside.{ShelfState, SinkState, SourceState}
use Rattle.plan_ports.specs.declared.memory_shelf.MemFile.{MemFile}

-- the numbers of the calls that fail, how many calls came so far, and how many faults were counted
pub record CallsView : Type 0 where
  pub fail : List ℕ
  pub made : ℕ
  pub faults : ℕ

-- no call came yet
abbrev pub fresh_calls : List ℕ → CallsView
fresh_calls fail = record { fail = fail; made = 0; faults = 0 }

-- one more, up to the greatest u64
abbrev pub raised : ℕ → ℕ
raised n = if nat_lt n (2 ^ 64 - 1) then n + 1 else n

-- the next call is one of those that fail
abbrev pub fails_next : CallsView → Bool
fails_next c = list_any (λ n. n == c.made) c.fail

-- one more call came, and is a fault where it is one of those that fail
abbrev pub after_call : CallsView → CallsView
after_call c = record {
  fail = c.fail;
  made = raised c.made;
  faults = if fails_next c then raised c.faults else c.faults;
}

-- one more fault was counted
abbrev pub after_fault : CallsView → CallsView
after_fault c = record { fail = c.fail; made = c.made; faults = raised c.faults }

-- no call is one of those that fail
abbrev pub never_fails : CallsView → Bool
never_fails c = length c.fail == 0

-- the bytes that are left, and how many a take gives at most
pub record SourceView : Type 0 where
  pub left : List ℕ
  pub most : ℕ
  pub calls : CallsView

-- what every contract sees of it: it tells its bytes, and is sound where no take fails
abbrev pub source_state : SourceView → SourceState
source_state s = record {
  tells = true;
  left = s.left;
  is_sound = never_fails s.calls;
  faults = s.calls.faults;
}

-- how many bytes a take gives that doesn't fail
abbrev pub given : SourceView → ℕ → ℕ
given s room = min (min room s.most) (length s.left)

-- a take gave the first n bytes, or failed and gave none
abbrev pub after_take : ℕ → SourceView → SourceView
after_take n s = record { left = drop n s.left; most = s.most; calls = after_call s.calls }

-- the bytes that were written, and how many a put takes at most
pub record SinkView : Type 0 where
  pub written : List ℕ
  pub most : ℕ
  pub calls : CallsView

-- what every contract sees of it: it tells what was written
abbrev pub sink_state : SinkView → SinkState
sink_state s = record { tells = true; written = s.written; faults = s.calls.faults }

-- a put took these bytes, or none
abbrev pub after_put : List ℕ → SinkView → SinkView
after_put taken s = record { written = s.written ++ taken; most = s.most; calls = after_call s.calls }

-- the files, the calls of open, and how many files were lent that weren't given back
pub record ShelfView : Type 0 where
  pub files : List MemFile
  pub opens : CallsView
  pub lent : ℕ

-- the first file of a name
abbrev pub first_named : List ℕ → List MemFile → Option MemFile
first_named name files = find (λ f. bytes_eq f.name.items name) files

-- a file that is there and whose takes all succeed
abbrev pub is_sound_file : Option MemFile → Bool
is_sound_file None = false
is_sound_file (Some f) = length f.fail.items == 0

-- the bytes under a name, which are those of its first file
abbrev pub bytes_under : List ℕ → ShelfView → Option (List ℕ)
bytes_under name s = option_map (λ f. f.bytes.items) (first_named name s.files)

-- no open fails, and the first file of the name is there and its takes all succeed
abbrev pub is_sound_name : List ℕ → ShelfView → Bool
is_sound_name name s = is_sound_file (first_named name s.files) && never_fails s.opens

-- what every contract sees of it: it tells its bytes
abbrev pub shelf_state : ShelfView → ShelfState
shelf_state s = record {
  tells = true;
  bytes_of = λ name. bytes_under name s;
  is_sound = λ name. is_sound_name name s;
  lent = s.lent;
  faults = s.opens.faults;
}

-- an open of this name fails: it is one of those that fail, or the name is unknown
abbrev pub open_fails : List ℕ → ShelfView → Bool
open_fails name s = fails_next s.opens || is_none (first_named name s.files)

-- the calls of open after one more, which is a fault where it fails
abbrev pub opens_after : List ℕ → ShelfView → CallsView
opens_after name s =
    if fails_next s.opens || is_some (first_named name s.files) then after_call s.opens
    else after_fault (after_call s.opens)

-- an open came, after which so many files are lent
abbrev pub after_open : List ℕ → ℕ → ShelfView → ShelfView
after_open name lent s = record { files = s.files; opens = opens_after name s; lent = lent }

-- a file was given back, which is a fault where a take of it had failed
abbrev pub after_close : ℕ → ShelfView → ShelfView
after_close faults s = record {
  files = s.files;
  opens = if faults == 0 then s.opens else after_fault s.opens;
  lent = s.lent - 1;
}

-- what an open of this file gives
abbrev pub opened : MemFile → SourceView
opened f = record { left = f.bytes.items; most = f.most; calls = fresh_calls f.fail.items }

-- what an open of this name gives, where it is known
abbrev pub opened_under : List ℕ → ShelfView → Option SourceView
opened_under name s = option_map opened (first_named name s.files)

-- each file gives at least one byte in each take
abbrev pub EachGives : List MemFile → Type 0
EachGives files = All (λ f. 1 ≤ f.most) files
