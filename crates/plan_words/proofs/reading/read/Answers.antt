use Rattle.std.proofs.Common.{map, Some, is_some, option_map, sym, ap, ap₂, ◌∙◌}
use Rattle.std.proofs.lemmas.Result.{IfOk-weaker}
use Rattle.std.specs.String.{string_bytes}
use Rattle.clap.specs.Words.{takes}
use Rattle.plan_words.specs.Command.{command_of}
use Rattle.plan_words.specs.Wanted.{command_in}
use Rattle.plan_words.proofs.ReadLemmas.{comes_back, taken, where_mapped}
use Rattle.plan_words.proofs.reading.read.Goals as goal

pub parsed-requires : goal.parsed-requires
parsed-requires c =
    let words = ap (map string_bytes) c.deref.ensures.value ∙ c.in_ok-words.ensures.words in
    ap₂ takes c.in_ok-parser.ensures words ∙ taken c.name-first.result.now c.args.line.now c.canonical.ensures.at_most_two

pub read_from-found-requires : goal.read_from-found-requires
read_from-found-requires c =
    let words = ap (map string_bytes) c.deref.ensures.value ∙ c.in_ok-words.ensures.words in
    (comes_back c.in_ok-matches.matches c.name-first.result.now c.args.line.now _ _ c.canonical.ensures.at_most_two c.in_ok-parser.ensures words c.in_ok-matches.ensures).no_gap

pub unwrap-requires : goal.unwrap-requires
unwrap-requires c =
    let words = ap (map string_bytes) c.deref.ensures.value ∙ c.in_ok-words.ensures.words in
    let back = comes_back c.in_ok-matches.matches c.name-first.result.now c.args.line.now _ _ c.canonical.ensures.at_most_two c.in_ok-parser.ensures words c.in_ok-matches.ensures in
    let same = c.wanted_of.ensures ∙ ap (command_of c.args.verb) (c.read_from-found.ensures ∙ back.line) in
    where_mapped command_in c.wanted_of.result (ap is_some same ∙ c.requires)

pub returns : goal.returns
returns c =
    let words = ap (map string_bytes) c.deref.ensures.value ∙ c.in_ok-words.ensures.words in
    let back = comes_back c.in_ok-matches.matches c.name-first.result.now c.args.line.now _ _ c.canonical.ensures.at_most_two c.in_ok-parser.ensures words c.in_ok-matches.ensures in
    let same = c.wanted_of.ensures ∙ ap (command_of c.args.verb) (c.read_from-found.ensures ∙ back.line) in
    IfOk-weaker c.own.result _ _ (λ command is. sym same ∙ ap (option_map command_in) c.unwrap.ensures ∙ ap (λ d. Some d) (sym is)) c.own.ensures
