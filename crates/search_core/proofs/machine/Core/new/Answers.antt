use Rattle.std.proofs.Common.{rules, []}
use Rattle.plan_search.specs.Judging.{limits_at}
use Rattle.search_core.specs.Desk.{Terms, desk}
use Rattle.search_core.proofs.machine.Core.new.Goals as goal

pub returns : goal.returns
returns c =
    let terms : Terms = record { settings = c.args.settings.now; buffer = c.args.buffer } in
    record {
      terms = search rules;
      keeps = record {
        cuts = search rules;
        posts = search rules;
        chosen = search rules;
        phase = search rules;
        asked = search rules;
        history = search rules;
        claims = search rules;
        verdicts = search rules;
        looked = search rules;
        forages = search (rules, c.new-4.ensures (limits_at c.args.settings.now (desk terms []).history) c.requires.settings.accepted_limit.least);
      };
    }
