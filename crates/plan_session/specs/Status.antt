-- The number of each status.
use Rattle.std.specs.Prelude.{ℕ}
use Rattle.plan_session.specs.declared.status.Status.{Status}
use Rattle.plan_session.specs.declared.status.Status.TheVariants as status

-- what the program ends with
abbrev pub number_of : Status → ℕ
number_of status.Ok = 0
number_of status.Memory = 1
number_of status.Usage = 2
number_of status.Source = 3
number_of status.Problem = 4
number_of status.Feed = 5
number_of status.Write = 6
number_of status.Journal = 7
number_of status.FeedTooLong = 8
