use Rattle.std.proofs.Common.{◌≡◌, ◌∙◌, List, None, sym, subst}
use Rattle.foragers.specs.declared.Seen.{Seen}
use Rattle.foragers.specs.Forages.{Forages}
use Rattle.plan_search.specs.Judging.{limits_at}
use Rattle.search_core.specs.ByNumber.{value_at}
use Rattle.search_core.proofs.Looked.{entries-with, judged-with, same-with}
use Rattle.search_core.proofs.machine.Core.note_found.Goals as goal

pub returns-clause-ok : goal.returns-clause-ok
returns-clause-ok c = λ d k.
    let core = c.args.self.now in
    let none : d.verdicts c.args.number ≡ None = sym (k.verdicts c.args.number) ∙ c.requires in
    record {
      cuts = k.cuts;
      posts = k.posts;
      chosen = k.chosen;
      phase = k.phase;
      asked = k.asked;
      history = k.history;
      claims = same-with d.claims (value_at core.claims) (value_at c.put.new.self) c.args.number 0 c.in_ok-put.ensures.ok k.claims;
      verdicts = same-with d.verdicts (value_at core.verdicts) (value_at c.put-2.new.self) c.args.number c.args.found c.in_ok-put-2.ensures.ok k.verdicts;
      looked = judged-with d.verdicts c.args.number c.args.found core.looked none k.looked;
      forages = subst (λ (entries : List Seen). Forages (limits_at core.settings d.history) entries core.forager)
          (entries-with core.settings d.history d.verdicts c.args.number c.args.found core.looked none k.looked) k.forages;
    }
