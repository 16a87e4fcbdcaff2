-- How a run ends, from how its last step ended.
use Rattle.std.proofs.Common.{ℕ, List, inl, inr, refl, sym, subst}
use Rattle.plan_ports.specs.Outside.{SinkFails, SinkState, Wrote, WroteFront}
use Rattle.plan_session.specs.declared.status.Status.{Status}
use Rattle.plan_session.specs.declared.status.Status.TheVariants as status
use Rattle.plan_session.specs.Ending.{Ended, Says, Stands}

-- where everything that is due one way is due another way, an ending stays one
pub Stands-weaker : (P Q : Status → List ℕ → Type 0) (old new : SinkState)
    → ((s : Status) (text : List ℕ) → P s text → Q s text) → Stands P old new → Stands Q old new
Stands-weaker P Q old new all (inl nothing) = inl nothing
Stands-weaker P Q old new all (inr front) =
    inr (record { under = front.under; text = front.text; due = all front.under front.text front.due; wrote = front.wrote })

pub Ended-weaker : (P Q : Status → List ℕ → Type 0) (old new : SinkState) (result : Status)
    → ((s : Status) (text : List ℕ) → P s text → Q s text) → Ended P old new result → Ended Q old new result
Ended-weaker P Q old new result all (inl whole) =
    inl (record { text = whole.text; due = all result whole.text whole.due; wrote = whole.wrote })
Ended-weaker P Q old new result all (inr (inl memory)) =
    inr (inl (record { is = memory.is; stands = Stands-weaker P Q old new all memory.stands }))
Ended-weaker P Q old new result all (inr (inr write)) =
    inr (inr (record { is = write.is; fails = write.fails; stands = Stands-weaker P Q old new all write.stands }))

-- a line that is due was said
pub ended_saying : (Q : Status → List ℕ → Type 0) (said : Status) (line : List ℕ) (old new : SinkState) (result : Status)
    → Q said line → Ended (Says said line) old new result → Ended Q old new result
ended_saying Q said line old new result due =
    Ended-weaker (Says said line) Q old new result
    (λ s text is. subst (λ t. Q s t) (sym is.1) (subst (λ z. Q z line) (sym is.0) due))

-- memory lacked before anything was written
pub ended_silent : (Q : Status → List ℕ → Type 0) (sink : SinkState) → Ended Q sink sink status.Memory
ended_silent Q sink = inr (inl (record { is = refl; stands = inl (λ told. refl) }))

-- a text was put whole, or a front of it
pub said_whole : (said : Status) (line : List ℕ) (old new : SinkState) → Wrote line old new → Ended (Says said line) old new said
said_whole said line old new wrote = inl (record { text = line; due = (refl, refl); wrote = wrote })

pub said_front : (said : Status) (line : List ℕ) (old new : SinkState) → WroteFront line old new → Stands (Says said line) old new
said_front said line old new wrote = inr (record { under = said; text = line; due = (refl, refl); wrote = wrote })

-- a front of a text was written when memory lacked
pub ended_short : (said : Status) (text : List ℕ) (old new : SinkState) → WroteFront text old new → Ended (Says said text) old new status.Memory
ended_short said text old new front = inr (inl (record { is = refl; stands = said_front said text old new front }))

-- a front of a text was written when the sink failed
pub ended_failed : (said : Status) (text : List ℕ) (old new : SinkState) → SinkFails old new → WroteFront text old new → Ended (Says said text) old new status.Write
ended_failed said text old new fails front = inr (inr (record { is = refl; fails = fails; stands = said_front said text old new front }))
