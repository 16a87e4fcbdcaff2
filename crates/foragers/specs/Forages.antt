-- How far a forager has looked.
use Rattle.std.specs.Prelude.{◌≡◌, ◌<◌, false, List, count_by}
use Rattle.foragers.specs.declared.Seen.{Seen}
use Rattle.foragers.specs.declared.forager.Forager.{Forager}
use Rattle.foragers.specs.Forage.{Limits, is_accepted, is_ended, winner_of}

-- a forager looked at these candidates: it knows whether they end the step, their winner, and how many of them are accepted
pub record Forages (limits : Limits) (entries : List Seen) (forager : Forager) : Type 0 where
  pub done : forager.done ≡ is_ended limits entries
  pub winner : forager.winner ≡ winner_of limits entries
  pub accepted : is_ended limits entries ≡ false → forager.accepted ≡ count_by is_accepted entries
  pub below : is_ended limits entries ≡ false → forager.accepted < limits.accepted
