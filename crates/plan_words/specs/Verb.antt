-- The first word of a command line.
use Rattle.std.specs.Prelude.{codes, Option, Some, None, if◌then◌else◌}
use Rattle.std.specs.Str.{bytes_eq}
use Rattle.plan_words.specs.Items.{Word}
use Rattle.plan_words.specs.declared.verb.Verb.{Verb}
use Rattle.plan_words.specs.declared.verb.Verb.TheVariants.{Solve, Replay, Score, Explain, Gen, Tour}

-- which command begins with the word
abbrev pub verb : Word → Option Verb
verb word =
    if bytes_eq word (codes "solve") then Some Solve
    else (if bytes_eq word (codes "replay") then Some Replay
    else (if bytes_eq word (codes "score") then Some Score
    else (if bytes_eq word (codes "explain") then Some Explain
    else (if bytes_eq word (codes "gen") then Some Gen
    else (if bytes_eq word (codes "tour") then Some Tour
    else None)))))
