-- What a command wants, as words that are borrowed from the line.
use Rattle.plan_words.specs.Line.{word_at}
use Rattle.plan_words.specs.declared.command.Command.{Command}
use Rattle.plan_words.specs.declared.command.Command.TheVariants as commands
use Rattle.plan_words.specs.declared.rules.Wanted.{Wanted}
use Rattle.plan_words.specs.declared.rules.Wanted.TheVariants.{Solve, Replay, Score, Explain, Gen, Tour}

-- the command that has these words as its own
abbrev pub command_in : Wanted → Command
command_in (Solve name feed workers buffer) = commands.Solve name.now (word_at feed) workers buffer
command_in (Replay name feed journal) = commands.Replay name.now feed.now journal.now
command_in (Score name) = commands.Score name.now
command_in (Explain name) = commands.Explain name.now
command_in (Gen number size) = commands.Gen number size
command_in (Tour number size workers buffer) = commands.Tour number size workers buffer
