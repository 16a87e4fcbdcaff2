-- Texts of a live run that were written whole, or a front of them; and the faults that end one.
use Rattle.std.proofs.Common.{◌≡◌, ◌∙◌, ℕ, List, ◌++◌, Result, Ok, Err, IsErrAnd, refl, sym, ap, subst, arith}
use Rattle.std.specs.Prelude.{IsErrOf, OnErr, OnOk}
use Rattle.std.proofs.lemmas.List.{append-nil}
use Rattle.plan_ports.specs.Outside.{LaterSink, SinkState, Wrote, WroteFront}
use Rattle.plan_session.specs.LiveFaults.{live_fault}
use Rattle.plan_session.specs.declared.fault.PrintFault.{PrintFault}
use Rattle.plan_session.specs.declared.fault.PrintFault.TheVariants as printing
use Rattle.plan_session.specs.declared.live_fault.LiveFault.{LiveFault}
use Rattle.plan_session.specs.declared.live_fault.LiveFault.TheVariants.{Memory, Write, Stopped}
use Rattle.plan_changes.specs.declared.line.StopCause.{StopCause}
use Rattle.plan_changes.specs.declared.line.StopCause.TheVariants as causes
use Rattle.plan_session.proofs.Printed.{front_more, front_of_more, wrote_more}

-- nothing was written, which is a front of any text
pub front_none : (text : List ℕ) (sink : SinkState) → WroteFront text sink sink
front_none text sink = λ tells. (0, omega arith, sym (append-nil sink.written))

-- a text that was written is a front of a longer one
pub front_here : (text rest whole : List ℕ) (s0 s1 : SinkState) → text ++ rest ≡ whole → Wrote text s0 s1 → LaterSink s0 s1 → WroteFront whole s0 s1
front_here text rest whole s0 s1 is wrote later =
    subst (λ (t : List ℕ). WroteFront t s0 s1) is (front_more text rest s0 s1 s1 wrote later (front_none rest s1))

-- a text was written, and a front of the next one
pub front_then : (text next rest whole : List ℕ) (s0 s1 s2 : SinkState) → text ++ (next ++ rest) ≡ whole
    → Wrote text s0 s1 → LaterSink s0 s1 → WroteFront next s1 s2 → WroteFront whole s0 s2
front_then text next rest whole s0 s1 s2 is wrote later front =
    subst (λ (t : List ℕ). WroteFront t s0 s2) is (front_more text (next ++ rest) s0 s1 s2 wrote later (front_of_more next rest s1 s2 front))

-- two texts were written, which are a third one
pub wrote_then : (text next both : List ℕ) (s0 s1 s2 : SinkState) → text ++ next ≡ both → Wrote text s0 s1 → LaterSink s0 s1 → Wrote next s1 s2
    → Wrote both s0 s2
wrote_then text next both s0 s1 s2 is wrote later more =
    subst (λ (t : List ℕ). Wrote t s0 s2) is (wrote_more text next s0 s1 s2 wrote later more)

-- what is said of a value is said of none where a call failed
pub on_ok_none : {A E : Type 0} (Q : Type 0) (r : Result A E) (fault : E) → IsErrAnd r (λ (f : E). f ≡ fault) → OnOk r Q
on_ok_none Q (Ok value) fault failed = absurd failed
on_ok_none Q (Err f) fault failed = tt

pub on_err_some : {A E : Type 0} {Q : Type 0} (r : Result A E) → Q → OnErr r Q
on_err_some (Ok value) is = tt
on_err_some (Err fault) is = is

-- a fault that was handed on is that fault
pub same_fault : {A : Type 0} (r : Result A LiveFault) (fault other : LiveFault) → IsErrAnd r (λ (f : LiveFault). f ≡ fault) → IsErrOf r other → fault ≡ other
same_fault (Ok value) fault other is of = absurd is
same_fault (Err f) fault other is of = let same : f ≡ other = cc in sym is ∙ same

-- a fault of printing is no stop, and it is a write where that is
pub no_stop_printing : (fault : PrintFault) (cause : StopCause) → live_fault fault ≡ Stopped cause → ⊥
no_stop_printing printing.Memory cause is = cc
no_stop_printing printing.Write cause is = cc

pub write_printing : (fault : PrintFault) → live_fault fault ≡ Write → fault ≡ printing.Write
write_printing printing.Memory is = absurd cc
write_printing printing.Write is = refl

-- a call that succeeded has no fault
pub no_fault : {A E : Type 0} (value : A) (fault : E) → IsErrOf {T = A} {E = E} (Ok value) fault → ⊥
no_fault value fault is = cc

-- the cause that a fault names
abbrev cause_of : LiveFault → StopCause
cause_of Memory = causes.Memory
cause_of Write = causes.Memory
cause_of (Stopped cause) = cause

pub same_cause : {A : Type 0} (one other : StopCause) → IsErrOf {T = A} {E = LiveFault} (Err (Stopped one)) (Stopped other) → one ≡ other
same_cause one other is = let same : Stopped one ≡ Stopped other = cc in ap cause_of same
