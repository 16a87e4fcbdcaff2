use Rattle.std.proofs.Common.{◌≡◌, ◌∙◌, SFits, Some, rules, subst, sym, w64}
use Rattle.std.proofs.lemmas.Int.{to_z-of_z}
use Rattle.std.specs.FinMap as finmap
use Rattle.stream_group.specs.Words.{WordTakes}
use Rattle.stream_group.proofs.Listed.{one_stays, one_there}
use Rattle.stream_group.proofs.words.note_place.Goals as goal

pub returns-then-goes-clause-before : goal.returns-then-goes-clause-before
returns-then-goes-clause-before c =
    let member = c.in-Some.member.now in
    let found = finmap.get c.args.members.now.rows.now c.args.place in
    let is : Some member ≡ found = search rules in
    let fits : SFits w64 c.number_after-number.result = search rules in
    let number = to_z-of_z w64 c.number_after-number.result fits ∙ c.number_after-number.ensures in
    subst (WordTakes c.args.words.before c.word_more-before.result)
    (one_there c.args.width found member _ is number) c.word_more-before.ensures

pub returns-clause-before : goal.returns-clause-before
returns-clause-before c =
    let member = c.in-Some.member.now in
    let found = finmap.get c.args.members.now.rows.now c.args.place in
    let is : Some member ≡ found = search rules in
    let fits : SFits w64 c.number_after-number.result = search rules in
    let number = to_z-of_z w64 c.number_after-number.result fits ∙ c.number_after-number.ensures in
    subst (WordTakes c.args.words.before c.word_more-before.result)
    (one_there c.args.width found member _ is number) c.word_more-before.ensures

pub returns-clause-after : goal.returns-clause-after
returns-clause-after c =
    let member = c.in-Some.member.now in
    let found = finmap.get c.args.members.now.rows.now c.args.place in
    let is : Some member ≡ found = search rules in
    let fits : SFits w64 c.number_after-number.result = search rules in
    let number = to_z-of_z w64 c.number_after-number.result fits ∙ c.number_after-number.ensures in
    subst (WordTakes c.args.words.after c.word_more.result)
    (one_stays c.args.width c.args.run.now found member _ (sym c.goes.ensures ∙ c.if-goes.false) is number) c.word_more.ensures
