use Rattle.std.proofs.Common.{◌∙◌, Some, Err, inl, inr, refl, sym, ap}
use Rattle.plan_ports.specs.Outside.{Holds}
use Rattle.problem_faults.specs.declared.fault.ProblemFault.TheVariants.{TooLong}
use Rattle.problem_faults.specs.Words.{refusal_line}
use Rattle.plan_json.proofs.ReadLaws.{problem_of-long}
use Rattle.plan_session.specs.declared.status.Status.TheVariants as status
use Rattle.plan_session.specs.DueReplay.{source_line}
use Rattle.plan_session.proofs.EndingLaws.{ended_saying}
use Rattle.plan_session.proofs.fed_files.fed_files.Goals as goal

pub returns-in-Ok-clause-ended : goal.returns-in-Ok-clause-ended
returns-in-Ok-clause-ended g c =
    let shelf = g.S.Shelf.state c.args.shelf.now in
    let held : Holds shelf c.args.files.now.name c.deref.result.now =
    λ told.
    ap (λ name. shelf.bytes_of name) (sym c.as_slice.ensures) ∙ c.in-Ok.ensures.bytes told
    ∙ ap (λ bytes. Some bytes) (sym c.deref.ensures.value) in
    c.fed_bytes.ensures.ended _ (record { asked = refl; domains_are = refl; makers_are = refl; means = refl }) held
    (record { later = c.in-Ok.ensures.later; left = refl })

pub returns-in-Err-Failed-clause-ended : goal.returns-in-Err-Failed-clause-ended
returns-in-Err-Failed-clause-ended g c =
    let fails = c.in-Err-Failed.ensures.failed (ap (λ fault. Err fault) c.in-Err-Failed.field-0-is) in
    ended_saying _ status.Source source_line _ _ _
    (inr (inl (record { files = c.args.files.now; asked = refl; fails = rw (sym c.as_slice.ensures) fails; says = refl })))
    c.say.ensures.ended

pub returns-in-Err-TooLong-clause-ended : goal.returns-in-Err-TooLong-clause-ended
returns-in-Err-TooLong-clause-ended g c =
    let shelf = g.S.Shelf.state c.args.shelf.now in
    let long = c.in-Err-TooLong.ensures.too_long (ap (λ fault. Err fault) c.in-Err-TooLong.field-0-is) in
    let held : Holds shelf c.args.files.now.name long.0 =
    λ told. ap (λ name. shelf.bytes_of name) (sym c.as_slice.ensures) ∙ long.1 told in
    ended_saying _ status.Problem (refusal_line TooLong) _ _ _
    (inr (inr (record {
      files = c.args.files.now;
      bytes = long.0;
      fault = TooLong;
      asked = refl;
      held = held;
      refused = problem_of-long _ long.0 long.2;
      says = refl;
    })))
    c.say-in-Err-TooLong.ensures.ended
