-- The parser of the commands: plain texts by position and by option.
use Rattle.std.specs.Prelude.{◌≡◌, true, ◌++◌, List, codes, Some, is_some, option_to_list}
use Rattle.clap.specs.Words.{App, Rule, first_value, new_app, new_rule, takes, with_rule}
use Rattle.clap.specs.declared.parser.matches.Found.{Found}
use Rattle.plan_words.specs.Items.{Word}
use Rattle.plan_words.specs.Sorted.{Sorted}

-- an option by a long name, which is its id
abbrev pub option_rule : Word → Rule
option_rule name = record (new_rule name) { long = Some name }

-- two positional words and every option, of which none is required
abbrev pub parser : Word → App
parser first =
    with_rule (with_rule (with_rule (with_rule (with_rule (with_rule (new_app first)
    (new_rule (codes "first"))) (new_rule (codes "second")))
    (option_rule (codes "feed"))) (option_rule (codes "journal")))
    (option_rule (codes "workers"))) (option_rule (codes "buffer"))

-- the parser takes the words: it fails only for want of memory
abbrev pub Takes : App → List Word → Type 0
Takes parser words = takes parser words ≡ true

-- no second positional word was found without a first
abbrev pub HasNoGap : Found → Type 0
HasNoGap found =
    is_some (first_value found (codes "second")) ≡ true → is_some (first_value found (codes "first")) ≡ true

-- the line whose words a parser found
abbrev pub found_line : Found → Sorted
found_line found = record {
  positional = option_to_list (first_value found (codes "first"))
      ++ option_to_list (first_value found (codes "second"));
  feed = first_value found (codes "feed");
  journal = first_value found (codes "journal");
  workers = first_value found (codes "workers");
  buffer = first_value found (codes "buffer");
}
