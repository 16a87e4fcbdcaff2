use Rattle.search_core.specs.Desk.{desk}
use Rattle.search_core.proofs.InStep.{choose-taken}
use Rattle.search_core.proofs.one_thread.decide.Goals as goal

pub take-requires-clause-no_fault : goal.take-requires-clause-no_fault
take-requires-clause-no_fault c =
    let at = c.requires in
    record {
      terms = at.terms;
      events = at.events;
      stands = at.stands;
      none = choose-taken (desk at.terms at.events) c.args.step at.history at.found at.asked at.since at.terms at.inside;
    }

pub returns-clause-reply : goal.returns-clause-reply
returns-clause-reply c = λ at. (c.in_ok-reply.ensures at.terms at.events at.stands).replied

pub returns-clause-stands : goal.returns-clause-stands
returns-clause-stands c = λ at. (c.in_ok-reply.ensures at.terms at.events at.stands).stands
