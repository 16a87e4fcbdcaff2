use Rattle.std.proofs.Common.{◌∙◌, ap, Some, Err, inl, refl, sym}
use Rattle.problem_faults.specs.declared.fault.ProblemFault.TheVariants.{TooLong}
use Rattle.problem_faults.specs.Words.{refusal_line}
use Rattle.plan_json.proofs.ReadLaws.{problem_of-long}
use Rattle.plan_session.specs.declared.status.Status.TheVariants as status
use Rattle.plan_session.specs.DueReplay.{source_line}
use Rattle.plan_session.specs.Task.{task}
use Rattle.plan_session.proofs.DueLaws.{due_for_task}
use Rattle.plan_session.proofs.EndingLaws.{Ended-weaker, ended_saying}
use Rattle.plan_session.proofs.top.perform.Goals as goal

pub returns-in-Ok-clause-ended : goal.returns-in-Ok-clause-ended
returns-in-Ok-clause-ended g c =
    Ended-weaker _ _ _ _ _
    (due_for_task _ (task c.args.name.now c.args.wanted) c.deref.result.now refl
    (λ told. c.in-Ok.ensures.bytes told ∙ ap (λ bytes. Some bytes) (sym c.deref.ensures.value)))
    c.answer.ensures.ended

pub returns-in-Err-Failed-clause-ended : goal.returns-in-Err-Failed-clause-ended
returns-in-Err-Failed-clause-ended g c =
    ended_saying _ status.Source source_line _ _ _
    (inl (record {
      task = task c.args.name.now c.args.wanted;
      asked = refl;
      fails = c.in-Err-Failed.ensures.failed (ap (λ fault. Err fault) c.in-Err-Failed.field-0-is);
      says = refl;
    })) c.say.ensures.ended

pub returns-in-Err-TooLong-clause-ended : goal.returns-in-Err-TooLong-clause-ended
returns-in-Err-TooLong-clause-ended g c =
    let long = c.in-Err-TooLong.ensures.too_long (ap (λ fault. Err fault) c.in-Err-TooLong.field-0-is) in
    ended_saying _ status.Problem (refusal_line TooLong) _ _ _
    (due_for_task _ (task c.args.name.now c.args.wanted) long.0 refl long.1 status.Problem (refusal_line TooLong)
    (record { fault = TooLong; refused = problem_of-long _ long.0 long.2; says = refl }))
    c.say-in-Err-TooLong.ensures.ended
