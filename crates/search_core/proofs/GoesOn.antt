-- What an event's answer at any desk says at the desk of a list of events.
use Rattle.std.proofs.Common.{◌≡◌, ◌∙◌, None, Result, Ok, Err, IfOk, IfErr, subst}
use Rattle.plan_facts.specs.Refusal.{IsRefusal}
use Rattle.search_core.specs.declared.event.Event.{Event}
use Rattle.search_core.specs.declared.event.Reply.{Reply}
use Rattle.search_core.specs.declared.event.CoreFault.{CoreFault}
use Rattle.search_core.specs.declared.event.CoreFault.TheVariants.{Memory}
use Rattle.search_core.specs.declared.machine.Core.{Core}
use Rattle.search_core.specs.Desk.{Desk, Terms, desk, fault_of, next_desk, reply_to}
use Rattle.search_core.specs.Keeps.{Answers, GoesOn, Keeps, Stays, Takes, terms_of}

-- how an event is taken on these terms
record TakesOn (t : Terms) (d : Desk) (event : Event) (reply : Reply) (new : Core) : Type 0 where
  taken : fault_of t d event ≡ None
  replied : reply ≡ reply_to t d event
  keeps : Keeps new (next_desk t d event)

takes_on : (t : Terms) (old new : Core) (d : Desk) (event : Event) (reply : Reply) → terms_of old ≡ t → Takes old d event reply new
    → TakesOn t d event reply new
takes_on t old new d event reply is takes =
    subst (λ (x : Terms). TakesOn x d event reply new) is (record { taken = takes.taken; replied = takes.replied; keeps = takes.keeps })

pub goes-on : (old new : Core) (event : Event) (result : Result Reply CoreFault) → Answers old event result new → terms_of new ≡ terms_of old
    → IfOk result (λ reply. GoesOn old event reply new)
goes-on old new event (Err fault) answers same = tt
goes-on old new event (Ok reply) answers same = λ t events stands.
    let takes = takes_on t old new (desk t events) event reply stands.terms (answers (desk t events) stands.keeps) in
    record {
      taken = takes.taken;
      replied = takes.replied;
      stands = record { terms = same ∙ stands.terms; keeps = takes.keeps };
    }

pub stays : (old new : Core) (event : Event) (result : Result Reply CoreFault) → Answers old event result new → terms_of new ≡ terms_of old
    → IfErr result (λ fault. Stays old event fault new)
stays old new event (Ok reply) answers same = tt
stays old new event (Err fault) answers same = λ t events stands.
    let refuses = answers (desk t events) stands.keeps in
    record {
      refused = subst (λ (x : Terms). IsRefusal Memory (fault_of x (desk t events) event) fault) stands.terms refuses.refused;
      stands = record { terms = same ∙ stands.terms; keeps = refuses.keeps };
    }
