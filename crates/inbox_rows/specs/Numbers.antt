-- Entries as the numbers that tests read off them.
use Rattle.std.specs.Prelude.{ℕ}
use Rattle.change_inbox.specs.declared.entry.Entry.{Entry}
use Rattle.change_inbox.specs.declared.entry.Entry.TheVariants.{Post, Cut, Shut}

-- the kind of an entry, its seat, and its number or boundary
abbrev pub entry_numbers : {T : Type 0} → Entry T → ℕ × ℕ × ℕ
entry_numbers (Post seat number body) = (1, seat, number)
entry_numbers (Cut seat boundary) = (2, seat, boundary)
entry_numbers (Shut seat) = (3, seat, 0)
