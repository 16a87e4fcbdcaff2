use Rattle.std.proofs.Common.{◌≡◌, ◌∙◌, List, Some, sym, subst}
use Rattle.foragers.specs.declared.Seen.{Seen}
use Rattle.foragers.specs.Forages.{Forages}
use Rattle.plan_search.specs.Judging.{judged_from, limits_at}
use Rattle.search_core.specs.Desk.{found_on}
use Rattle.search_core.specs.Judged.{SearchesBy}
use Rattle.search_core.proofs.Looked.{entries-more, judged-more}
use Rattle.search_core.proofs.machine.Core.look_at_next.Goals as goal

pub returns-clause-keeps : goal.returns-clause-keeps
returns-clause-keeps c = λ d k.
    let core = c.args.self.now in
    let verdict = c.in-Some.verdict.now in
    let is : d.verdicts core.looked ≡ Some verdict = sym (k.verdicts core.looked) ∙ sym c.in-Some.ensures in
    let entries : List Seen = judged_from core.settings d.history (found_on d) 0 core.looked in
    let by : SearchesBy core.acceptor core.settings d.history = record { stands = k.history; kind = core.acceptor_kind; size = core.acceptor_size } in
    let shown = c.show_entry.ensures d.history entries by k.forages in
    record {
      cuts = k.cuts;
      posts = k.posts;
      chosen = k.chosen;
      phase = k.phase;
      asked = k.asked;
      history = k.history;
      claims = k.claims;
      verdicts = k.verdicts;
      looked = judged-more d.verdicts core.looked verdict is k.looked;
      forages = subst (λ (entries : List Seen). Forages (limits_at core.settings d.history) entries c.show_entry.new.forager)
          (entries-more core.settings d.history d.verdicts core.looked verdict is) shown;
    }
