use Rattle.std.proofs.Common.{arith, refl, ◌∙◌}
use Rattle.stream_heads.proofs.Standings.{keeps_on}
use Rattle.head_changes.proofs.Back.{all_back, still_back}
use Rattle.head_changes.proofs.Keyed.{all_keys_done, key_within, next_key_done, no_keys_done}
use Rattle.head_changes.proofs.gathering.gather_each.Goals as goal

pub loop-key-init : goal.loop-key-init
loop-key-init c = record {
  done = λ takers facts hold turn. no_keys_done c.args.heads.now.now c.args.changes.now takers facts c.args.plan.now c.args.keys.now c.requires.none hold turn;
  back = all_back c.args.heads.now.now c.args.changes.now c.requires.none;
  classes = refl;
  base = record { base = λ is. refl; opened = refl };
}

pub loop-key-preserved : goal.loop-key-preserved
loop-key-preserved c = record {
  done = λ takers facts hold turn.
      next_key_done c.args.heads.now.now c.loop-key.heads.now _ c.loop-key.changes _ takers facts c.args.plan.now c.args.keys.now
      c.loop-key.key-index _ hold turn c.loop-key-test.true
      (key_within c.args.keys.now _ _ c.loop-key.key-index _ c.requires.classes c.loop-key-test.true c.loop-key.invariant.classes)
      (c.loop-key.invariant.done takers facts hold turn) c.in_ok-gather_one.ensures.ok;
  back = still_back c.args.heads.now.now _ _ _ _ c.gather_one.ensures.back c.loop-key.invariant.back;
  classes = c.gather_one.ensures.classes ∙ c.loop-key.invariant.classes;
  base = keeps_on _ _ _ c.loop-key.invariant.base c.gather_one.ensures.base;
}

pub gather_one-requires : goal.gather_one-requires
gather_one-requires c = key_within c.args.keys.now _ _ c.loop-key.key-index _ c.requires.classes c.loop-key-test.true c.loop-key.invariant.classes

pub returns-in_err-gather_one-clause-back : goal.returns-in_err-gather_one-clause-back
returns-in_err-gather_one-clause-back c = still_back c.args.heads.now.now _ _ _ _ c.gather_one.ensures.back c.loop-key.invariant.back

pub returns-in_err-gather_one-clause-classes : goal.returns-in_err-gather_one-clause-classes
returns-in_err-gather_one-clause-classes c = c.gather_one.ensures.classes ∙ c.loop-key.invariant.classes

pub returns-in_err-gather_one-clause-base : goal.returns-in_err-gather_one-clause-base
returns-in_err-gather_one-clause-base c = keeps_on _ _ _ c.loop-key.invariant.base c.gather_one.ensures.base

pub returns-clause-gathered : goal.returns-clause-gathered
returns-clause-gathered c = λ takers facts hold turn.
    all_keys_done c.args.heads.now.now c.loop-key.heads.now c.loop-key.changes takers facts c.args.plan.now c.args.keys.now c.loop-key.key-index hold turn
    (omega arith) (c.loop-key.invariant.done takers facts hold turn)
