use Rattle.std.proofs.Common.{◌-◌, ◌≡◌}
use Rattle.search_core.specs.Keeps.{KeepsOn, terms_of}
use Rattle.search_core.proofs.machine.Core.look.Given as goal

-- the core keeps what it kept
abbrev pub invariant-numbers : goal.invariant-numbers
invariant-numbers l = record {
  keeps : KeepsOn l.fn.self l.self;
  phase : l.self.phase ≡ l.fn.self.phase;
  asked : l.self.asked ≡ l.fn.self.asked;
  terms : terms_of l.self ≡ terms_of l.fn.self;
}

abbrev pub decreases-numbers : goal.decreases-numbers
decreases-numbers l = l.self.asked - l.self.looked
