use Rattle.std.proofs.Common.{◌∙◌, refl, ap, arith}
use Rattle.search_core.proofs.Plays.{goes-first}
use Rattle.move_workers.specs.Judging.{found_in}
use Rattle.move_workers.specs.Teams.{TeamView}
use Rattle.plan_session.proofs.Asking.{asked-later, asked-more, asks-now, asks-within, chosen-stands, chosen-winner, no-other-reply}
use Rattle.plan_session.proofs.deciding.choose.Goals as goal

pub batches-init : goal.batches-init
batches-init g c = record {
  team = refl;
  goes = λ at.
      goes-first c.args.core.now c.args.step _ c.first_asked-count.result at c.first_asked-count.ensures
      c.args.core.now.buffer_in_range.0 c.args.core.now.settings_in_range.select_limit.least;
}

pub judge_and_decide-requires-clause-at : goal.judge_and_decide-requires-clause-at
judge_and_decide-requires-clause-at g c κs within =
    let kit = c.args.kit.now in
    asks-now (found_in g.B.Book.meaning kit.seed kit.selectors.now _ c.args.step) c.args.team.now.worker c.batches.team.worker
    c.args.core.now c.batches.core c.args.step c.batches.first c.batches.count
    (ap (λ (t : TeamView). t.worker) c.batches.invariant.team) c.batches.invariant.goes c.requires.begins

pub judge_and_decide-requires-clause-fits : goal.judge_and_decide-requires-clause-fits
judge_and_decide-requires-clause-fits g c κs within =
    omega (
      arith,
      asks-within c.args.core.now c.batches.core c.args.step _ c.batches.first c.batches.count c.batches.invariant.goes c.requires.begins,
      c.args.core.now.settings_in_range.select_limit.most,
    )

pub returns-in-Chosen-clause-winner : goal.returns-in-Chosen-clause-winner
returns-in-Chosen-clause-winner g c =
    let kit = c.args.kit.now in
    chosen-winner (found_in g.B.Book.meaning kit.seed kit.selectors.now _ c.args.step) c.args.team.now.worker c.batches.team.worker
    c.args.core.now c.batches.core c.judge_and_decide.new.core c.args.step c.batches.first c.batches.count c.in_ok-winner.field-0
    (ap (λ (t : TeamView). t.worker) c.batches.invariant.team) c.batches.invariant.goes
    (record { replied = c.in_ok-winner.ensures.reply; stands = c.in_ok-winner.ensures.stands })
    c.in-Chosen.winner c.in-Chosen.is

pub returns-in-Chosen-clause-stands : goal.returns-in-Chosen-clause-stands
returns-in-Chosen-clause-stands g c =
    let kit = c.args.kit.now in
    chosen-stands (found_in g.B.Book.meaning kit.seed kit.selectors.now _ c.args.step) c.args.team.now.worker c.batches.team.worker
    c.args.core.now c.batches.core c.judge_and_decide.new.core c.args.step c.batches.first c.batches.count c.in_ok-winner.field-0
    (ap (λ (t : TeamView). t.worker) c.batches.invariant.team) c.batches.invariant.goes
    (record { replied = c.in_ok-winner.ensures.reply; stands = c.in_ok-winner.ensures.stands })
    c.in-Chosen.winner c.in-Chosen.is

pub batches-smaller : goal.batches-smaller
batches-smaller g c =
    let kit = c.args.kit.now in
    asked-later (found_in g.B.Book.meaning kit.seed kit.selectors.now _ c.args.step) c.args.team.now.worker c.batches.team.worker
    c.args.core.now c.batches.core c.judge_and_decide.new.core c.args.step c.batches.first c.batches.count c.in_ok-winner.field-0
    (ap (λ (t : TeamView). t.worker) c.batches.invariant.team) c.batches.invariant.goes
    (record { replied = c.in_ok-winner.ensures.reply; stands = c.in_ok-winner.ensures.stands })
    c.in-More.next c.in-More.more c.in-More.is c.requires.begins

pub batches-preserved : goal.batches-preserved
batches-preserved g c =
    let kit = c.args.kit.now in
    record {
      team = c.in_ok-winner.ensures.same ∙ c.batches.invariant.team;
      goes = asked-more (found_in g.B.Book.meaning kit.seed kit.selectors.now _ c.args.step) c.args.team.now.worker c.batches.team.worker
          c.args.core.now c.batches.core c.judge_and_decide.new.core c.args.step c.batches.first c.batches.count c.in_ok-winner.field-0
          (ap (λ (t : TeamView). t.worker) c.batches.invariant.team) c.batches.invariant.goes
          (record { replied = c.in_ok-winner.ensures.reply; stands = c.in_ok-winner.ensures.stands })
          c.in-More.next c.in-More.more c.in-More.is;
    }

pub unreachable-requires : goal.unreachable-requires
unreachable-requires g c =
    let kit = c.args.kit.now in
    no-other-reply (found_in g.B.Book.meaning kit.seed kit.selectors.now _ c.args.step) c.args.team.now.worker c.batches.team.worker
    c.args.core.now c.batches.core c.judge_and_decide.new.core c.args.step c.batches.first c.batches.count c.in_ok-winner.field-0
    (ap (λ (t : TeamView). t.worker) c.batches.invariant.team) c.batches.invariant.goes
    (record { replied = c.in_ok-winner.ensures.reply; stands = c.in_ok-winner.ensures.stands })
    c.in-Noted.is c.requires.begins
