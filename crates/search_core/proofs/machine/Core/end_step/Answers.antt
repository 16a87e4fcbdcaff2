use Rattle.std.proofs.Common.{rules}
use Rattle.plan_search.specs.Judging.{limits_at}
use Rattle.search_core.specs.Desk.{after_step}
use Rattle.search_core.specs.Keeps.{terms_of}
use Rattle.search_core.proofs.machine.Core.end_step.Goals as goal

pub returns-clause-ok : goal.returns-clause-ok
returns-clause-ok c = λ d k.
    let core = c.args.self.now in
    let later = after_step (terms_of core) d c.args.winner in
    record {
      cuts = search rules;
      posts = search rules;
      chosen = search rules;
      phase = search rules;
      asked = search rules;
      history = search rules;
      claims = search rules;
      verdicts = search rules;
      looked = search rules;
      forages = c.new-self.ensures (limits_at core.settings later.history) core.settings_in_range.accepted_limit.least;
    }
