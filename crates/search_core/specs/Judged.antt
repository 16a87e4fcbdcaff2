-- What an acceptor of a search makes of what was found.
use Rattle.std.specs.Prelude.{◌≡◌, ℕ, List, ◌++◌, Option, option_map, option_to_list}
use Rattle.plan_settings.specs.declared.settings.Settings.{Settings}
use Rattle.acceptors.specs.History.{History}
use Rattle.acceptors.specs.Stands.{Kept, StandsFor}
use Rattle.foragers.specs.declared.Seen.{Seen}
use Rattle.foragers.specs.declared.forager.Forager.{Forager}
use Rattle.foragers.specs.Forages.{Forages}
use Rattle.plan_search.specs.declared.found.Found.{Found}
use Rattle.plan_search.specs.Judging.{acceptor_size, entry_of, limits_at}
use Rattle.search_core.specs.Desk.{after_found}

-- an acceptor of a search with these settings stands for a history
pub record SearchesBy (kept : Kept) (s : Settings) (h : History) : Type 0 where
  pub stands : StandsFor kept h
  pub kind : kept.kind ≡ s.acceptor
  pub size : kept.size ≡ acceptor_size s

-- whatever search the acceptor is of, this is the entry of a number
abbrev pub IsEntry : Kept → ℕ → Found → Seen → Type 0
IsEntry kept number found seen = (s : Settings) (h : History) → SearchesBy kept s h → seen ≡ entry_of s h number found

-- and this is the entry of a verdict, where it has one
abbrev pub entry_for : Settings → History → ℕ → Option Found → List Seen
entry_for s h number verdict = option_to_list (option_map (entry_of s h number) verdict)

-- whatever the forager looked at in a step of such a search, it then looked at the entry of a verdict too, if it has one
abbrev pub LooksOn : Kept → Settings → ℕ → Option Found → Forager → Forager → Type 0
LooksOn kept s number verdict old new =
    (h : History) (entries : List Seen) → SearchesBy kept s h → Forages (limits_at s h) entries old
    → Forages (limits_at s h) (entries ++ entry_for s h number verdict) new

-- the acceptor goes on by what was found of a step's winner, if it has one
abbrev pub GoesOnBy : Kept → Option Found → Kept → Type 0
GoesOnBy old found new = (h : History) → StandsFor old h → StandsFor new (after_found h found)
