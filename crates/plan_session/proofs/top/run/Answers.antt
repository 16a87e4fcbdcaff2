use Rattle.std.proofs.Common.{◌≡◌, ◌∙◌, Some, None, Err, sym, ap, refl}
use Rattle.plan_session.specs.declared.status.Status.TheVariants as status
use Rattle.plan_session.specs.Due.{usage_line}
use Rattle.plan_session.specs.Task.{files_asked, generation_asked, task, task_asked, tour_asked}
use Rattle.plan_session.proofs.DueLaws.{asked, asked_generates_nothing, asked_nothing, due_unread, fed_asks_nothing, feeds, feeds_nothing, generates, generates_nothing, tours, tours_nothing}
use Rattle.plan_session.proofs.EndingLaws.{Ended-weaker, ended_saying}
use Rattle.plan_session.proofs.top.run.Goals as goal

pub returns-in-Ok-Some-clause-ended : goal.returns-in-Ok-Some-clause-ended
returns-in-Ok-Some-clause-ended g c =
    let words = c.args.words.now in
    let command = c.in-Ok.command in
    let is = c.in-Ok.ensures.command in
    let of_it = sym c.in-Ok-Some.ensures.files ∙ c.in-Ok-Some.field-0-is in
    let nothing = fed_asks_nothing command c.in-Ok-Some.files of_it in
    let unasked : task_asked words ≡ None = asked words command None is nothing.0 in
    let ungenerated : generation_asked words ≡ None = generates words command None is nothing.1 in
    let untoured : tour_asked words ≡ None = tours words command None is nothing.2 in
    let fed : files_asked words ≡ Some c.in-Ok-Some.files = feeds words command (Some c.in-Ok-Some.files) is of_it in
    rw (unasked, ungenerated, untoured, fed) c.fed_files.ensures.ended

pub returns-in-Ok-Some-clause-untouched : goal.returns-in-Ok-Some-clause-untouched
returns-in-Ok-Some-clause-untouched g c =
    let is : files_asked c.args.words.now ≡ Some c.in-Ok-Some.files =
    feeds c.args.words.now c.in-Ok.command (Some c.in-Ok-Some.files) c.in-Ok.ensures.command (sym c.in-Ok-Some.ensures.files ∙ c.in-Ok-Some.field-0-is) in
    λ unasked unfed. let other : Some c.in-Ok-Some.files ≡ None = sym is ∙ unfed in cc

pub returns-in-Some-clause-ended : goal.returns-in-Some-clause-ended
returns-in-Some-clause-ended g c =
    let of_it = sym c.in-Some.ensures.task in
    let is : task_asked c.args.words.now ≡ Some (task c.in-Some.name.now c.in-Some.wanted) =
    asked c.args.words.now c.in-Ok.command _ c.in-Ok.ensures.command of_it in
    let nothing = asked_generates_nothing c.in-Ok.command _ of_it in
    let none : generation_asked c.args.words.now ≡ None =
    generates c.args.words.now c.in-Ok.command None c.in-Ok.ensures.command nothing.0 in
    let untoured : tour_asked c.args.words.now ≡ None = tours c.args.words.now c.in-Ok.command None c.in-Ok.ensures.command nothing.1 in
    let unfed : files_asked c.args.words.now ≡ None =
    feeds c.args.words.now c.in-Ok.command None c.in-Ok.ensures.command nothing.2 in
    rw (is, none, untoured, unfed) c.perform.ensures.ended

pub returns-in-Some-clause-untouched : goal.returns-in-Some-clause-untouched
returns-in-Some-clause-untouched g c =
    let is : task_asked c.args.words.now ≡ Some (task c.in-Some.name.now c.in-Some.wanted) =
    asked c.args.words.now c.in-Ok.command _ c.in-Ok.ensures.command (sym c.in-Some.ensures.task) in
    λ none unfed. let other : Some (task c.in-Some.name.now c.in-Some.wanted) ≡ None = sym is ∙ none in cc

pub returns-in-Ok-None-clause-ended : goal.returns-in-Ok-None-clause-ended
returns-in-Ok-None-clause-ended g c =
    let words = c.args.words.now in
    let command = c.in-Ok.command in
    Ended-weaker _ _ _ _ _
    (due_unread _ command (generates words command _ c.in-Ok.ensures.command refl) (tours words command _ c.in-Ok.ensures.command refl))
    c.answer_unread.ensures.ended

pub returns-clause-ended : goal.returns-clause-ended
returns-clause-ended g c =
    let none = c.in-Err-Usage.ensures.usage.0 (ap (λ fault. Err fault) c.in-Err-Usage.field-0-is) in
    ended_saying _ status.Usage usage_line _ _ _
    (record {
      unasked = asked_nothing c.args.words.now none;
      ungenerated = generates_nothing c.args.words.now none;
      untoured = tours_nothing c.args.words.now none;
      unfed = feeds_nothing c.args.words.now none;
      says = refl;
    })
    c.say.ensures.ended
