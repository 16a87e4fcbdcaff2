-- Why a feeder ended.
use Rattle.std.proofs.Common.{◌≡◌, ◌≢◌, ◌∙◌, ℕ, ◌≤◌, inl, inr, true, false, refl, sym, ap, arith}
use Rattle.plan_changes.specs.declared.line.StopCause.{StopCause}
use Rattle.plan_changes.specs.declared.line.StopCause.TheVariants as cause
use Rattle.plan_ports.specs.Outside.{Rose}
use Rattle.feed_lines.specs.declared.fault.FeedFault.{FeedFault}
use Rattle.feed_lines.specs.declared.fault.FeedFault.TheVariants.{Memory, ReadFault, Overrun}
use Rattle.live_posts.specs.declared.fed.Fed.{Fed}
use Rattle.live_posts.specs.declared.fed.Fed.TheVariants.{Ended, Stopped}
use Rattle.live_posts.specs.Feeding.{cause_of, is_refused}

pub overrun_fault : (fault : FeedFault) → cause_of fault ≡ cause.Overrun → fault ≡ Overrun
overrun_fault Memory is = absurd (cc)
overrun_fault ReadFault is = absurd (cc)
overrun_fault Overrun is = refl

pub read_fault : (fault : FeedFault) → cause_of fault ≡ cause.ReadFault → fault ≡ ReadFault
read_fault Memory is = absurd (cc)
read_fault ReadFault is = refl
read_fault Overrun is = absurd (cc)

-- a feeder that stopped did so for the cause of the fault
pub stopped_by : (fed : Fed) (fault : FeedFault) (why : StopCause) → (is_refused fed ≡ false → fed ≡ Stopped (cause_of fault)) → fed ≡ Stopped why → cause_of fault ≡ why
stopped_by fed fault why told is =
    let same : Stopped (cause_of fault) ≡ Stopped why = sym (told (ap is_refused is)) ∙ is in
    cc same

-- one that was stopped or refused didn't end with the feed
pub not_ended : (fed : Fed) (fault : FeedFault) → (is_refused fed ≡ false → fed ≡ Stopped (cause_of fault)) → fed ≢ Ended
not_ended fed fault told is =
    let same : Stopped (cause_of fault) ≡ Ended = sym (told (ap is_refused is)) ∙ is in
    cc same

-- one that was refused didn't end with the feed, and didn't stop
pub refused_not_ended : (fed : Fed) → is_refused fed ≡ true → fed ≢ Ended
refused_not_ended fed refused is = let no = sym refused ∙ ap is_refused is in cc no

pub refused_not_stopped : (fed : Fed) (why : StopCause) → is_refused fed ≡ true → fed ≢ Stopped why
refused_not_stopped fed why refused is = let no = sym refused ∙ ap is_refused is in cc no

-- a count that rose later has risen
pub rose_later : (first before now : ℕ) → first ≤ before → Rose before now → Rose first now
rose_later first before now le rose = elim rose as (λ w. Rose first now) [ inl more ↦ inl (omega arith) | inr most ↦ inr most ]
