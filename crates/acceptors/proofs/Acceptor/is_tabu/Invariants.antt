use Rattle.std.proofs.Common.{◌≡◌, false, take}
use Rattle.std.specs.List.{list_any}
use Rattle.acceptors.specs.History.{History}
use Rattle.acceptors.specs.Accept.{is_recent}
use Rattle.acceptors.specs.Stands.{StandsFor}
use Rattle.acceptors.proofs.Acceptor.is_tabu.Given as goal

-- none of the entities so far was touched by one of the last steps
abbrev pub invariant-loop-touch : goal.invariant-loop-touch
invariant-loop-touch l =
    (h : History) → StandsFor l.self h → list_any (is_recent l.self.size h) (take l.touch-index l.touched) ≡ false
