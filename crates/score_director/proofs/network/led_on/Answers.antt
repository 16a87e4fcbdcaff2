use Rattle.std.proofs.Common.{◌≡◌, ◌∙◌, ◌≤◌, ℕ, true, ap, length, subst, sym}
use Rattle.plan_facts.specs.Plan.{records_of}
use Rattle.score_director.specs.Standing.{StoodBefore}
use Rattle.score_director.proofs.Led.{back_for, begun_turned, kept_for}
use Rattle.score_director.proofs.Standing.{begun_before, kept_before}
use Rattle.score_director.proofs.network.led_on.Goals as goal

pub turned-requires-clause-from : goal.turned-requires-clause-from
turned-requires-clause-from g c κs within =
    begun_turned g.B.Book.meaning c.args.rules.now.defs c.args.plan.now c.args.keys.now c.args.net.now c.begin.new.self c.begin.ensures c.requires.from

pub returns-in-Ok-clause-network : goal.returns-in-Ok-clause-network
returns-in-Ok-clause-network g c =
    kept_for g.B.Book.meaning c.args.rules.now.defs c.args.plan.now c.turned.new.net c.commit.new.self c.commit.ensures c.in-Ok.ensures.network

pub returns-in-Err-clause-stays : goal.returns-in-Err-clause-stays
returns-in-Err-clause-stays g c = λ old network.
    let m = g.B.Book.meaning in
    let defs = c.args.rules.now.defs in
    let before = begun_before m defs c.args.net.now c.begin.new.self (records_of old) c.begin.ensures network.stands in
    let opened : c.begin.new.self.heads.is_open ≡ true = ap (λ heads. heads.is_open) c.begin.ensures.heads in
    let stood : StoodBefore m defs c.turned.new.net (records_of old) = kept_before m defs c.begin.new.self c.turned.new.net (records_of old) opened c.turned.ensures.keeps before in
    let classes = subst (λ (n : ℕ). length old.classes ≤ n) (sym (c.turned.ensures.keeps.classes ∙ c.begin.ensures.classes)) network.classes in
    back_for m defs old c.turned.new.net c.rollback.new.self c.rollback.ensures network.sound c.turned.ensures.own network.room classes stood
