-- What contracts see of real files, standard input and standard output: no bytes, but counts.
use Rattle.std.specs.Prelude.{ℕ, ◌+◌, ◌-◌, ◌==◌, ◌&&◌, Bool, true, false, [], None, if◌then◌else◌, nat_lt}
use Rattle.plan_ports.specs.Outside.{ShelfState, SinkState, SourceState}
use Rattle.plan_ports.specs.InMemory.{raised}

-- whether it is standard input, and how many faults were counted
pub record OpenFile : Type 0 where
  pub is_input : Bool
  pub faults : ℕ

-- how many files were lent that weren't given back, and how many faults were counted
pub record OpenFiles : Type 0 where
  pub lent : ℕ
  pub faults : ℕ

-- what every contract sees: nothing is told, and nothing is sound
abbrev pub file_state : OpenFile → SourceState
file_state f = record { tells = false; left = []; is_sound = false; faults = f.faults }

abbrev pub files_state : OpenFiles → ShelfState
files_state f = record {
  tells = false;
  bytes_of = λ _. None;
  is_sound = λ _. false;
  lent = f.lent;
  faults = f.faults;
}

abbrev pub output_state : ℕ → SinkState
output_state faults = record { tells = false; written = []; faults = faults }

-- one more fault was counted
abbrev pub faulted : OpenFiles → OpenFiles
faulted f = record f { faults = raised f.faults }

-- one more file was lent
abbrev pub lending : OpenFiles → OpenFiles
lending f = record f { lent = f.lent + 1 }

-- a file of so many faults was given back, which is a fault where there was one
abbrev pub after_return : ℕ → OpenFiles → OpenFiles
after_return faults f = record {
  lent = f.lent - 1;
  faults = if nat_lt 0 faults then raised f.faults else f.faults;
}

-- the count of faults after n bytes were written of so many, which is a fault where none were of some
abbrev pub after_write : ℕ → ℕ → ℕ → ℕ
after_write n length faults = if n == 0 && nat_lt 0 length then raised faults else faults
