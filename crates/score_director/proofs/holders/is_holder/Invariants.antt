use Rattle.std.proofs.Common.{◌≡◌, false, take, zip}
use Rattle.std.specs.List.{list_any}
use Rattle.score_director.specs.Holders.{is_held}
use Rattle.score_director.proofs.holders.is_holder.Given as goal

-- none of the values so far is the fact
abbrev pub invariant-loop-var : goal.invariant-loop-var
invariant-loop-var l =
    list_any (λ pair. is_held l.fact.class l.fact.id pair.0 pair.1) (take l.var (zip l.ranges l.values)) ≡ false
