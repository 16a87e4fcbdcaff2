use Rattle.std.proofs.Common.{◌≡◌, ◌-◌, ◌≤◌, ◌++◌, length, take, drop, filter, count_by}
use Rattle.plan_scores.specs.Best.{first_best}
use Rattle.foragers.specs.Forage.{limits_of, seen_after, is_ended_after, seen_of, is_ended, is_accepted, score_of}
use Rattle.foragers.proofs.forage.Given as goal

-- the candidates so far are the first that the step sees; the rest of these comes after them
abbrev pub invariant-entries : goal.invariant-entries
invariant-entries l =
    let limits = limits_of l.limit l.early l.best l.last in
    record {
      within : l.seen ≤ length l.judged;
      count : l.accepted ≡ count_by is_accepted (take l.seen l.judged);
      room : l.accepted ≤ l.seen;
      seen : take l.seen l.judged ++ seen_after limits (take l.seen l.judged) (drop l.seen l.judged) ≡ seen_of limits l.judged;
      done : is_ended_after limits (take l.seen l.judged) (drop l.seen l.judged) ≡ is_ended limits l.judged;
      winner : l.winner ≡ first_best score_of (filter is_accepted (take l.seen l.judged));
    }

abbrev pub decreases-entries : goal.decreases-entries
decreases-entries l = length l.judged - l.seen
