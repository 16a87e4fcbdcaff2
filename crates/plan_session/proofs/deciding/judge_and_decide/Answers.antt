use Rattle.plan_session.proofs.Asking.{asks-decides, decides-replied, decides-stands}
use Rattle.plan_session.proofs.deciding.judge_and_decide.Goals as goal

pub decide-requires : goal.decide-requires
decide-requires g c =
    let at = c.requires.at in
    asks-decides c.args.core.now c.judge_batch.new.core c.args.step _ c.args.first c.args.count at (c.in_ok-judge_batch.ensures.stands at)

pub returns-clause-reply : goal.returns-clause-reply
returns-clause-reply g c =
    decides-replied c.decide.result c.args.core.now c.judge_batch.new.core c.args.step _ c.args.first c.args.count
    c.in_ok-judge_batch.ensures.stands c.decide.ensures.reply

pub returns-clause-stands : goal.returns-clause-stands
returns-clause-stands g c =
    decides-stands c.decide.result c.args.core.now c.judge_batch.new.core c.decide.new.core c.args.step _ c.args.first c.args.count
    c.in_ok-judge_batch.ensures.stands c.decide.ensures.stands
