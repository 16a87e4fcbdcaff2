use Rattle.std.proofs.Common.{◌≡◌, ◌∙◌, List, None, refl, sym, subst}
use Rattle.foragers.specs.declared.Seen.{Seen}
use Rattle.foragers.specs.Forages.{Forages}
use Rattle.plan_search.specs.Judging.{limits_at}
use Rattle.search_core.specs.ByNumber.{value_at}
use Rattle.search_core.proofs.Looked.{entries-with, judged-with, same-with}
use Rattle.search_core.proofs.machine.Core.judge.Goals as goal

pub returns-clause-answers : goal.returns-clause-answers
returns-clause-answers c = λ d k.
    let core = c.args.self.now in
    let none : d.verdicts c.args.number ≡ None = sym (k.verdicts c.args.number) ∙ c.in_default.ensures.new in
    record {
      taken = sym (c.judge_fault.ensures.fault d k) ∙ c.in_default.is;
      replied = refl;
      keeps = record {
        cuts = k.cuts;
        posts = k.posts;
        chosen = k.chosen;
        phase = k.phase;
        asked = k.asked;
        history = k.history;
        claims = k.claims;
        verdicts = same-with d.verdicts (value_at core.verdicts) (value_at c.put.new.self) c.args.number c.args.found c.in_ok-put.ensures.ok k.verdicts;
        looked = judged-with d.verdicts c.args.number c.args.found core.looked none k.looked;
        forages = subst (λ (entries : List Seen). Forages (limits_at core.settings d.history) entries core.forager)
            (entries-with core.settings d.history d.verdicts c.args.number c.args.found core.looked none k.looked) k.forages;
      };
    }
