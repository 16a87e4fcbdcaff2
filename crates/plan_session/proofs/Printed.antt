-- Texts that are printed piece by piece.
use Rattle.std.proofs.Common.{◌∙◌, ◌+◌, ◌≤◌, ℕ, List, [], ◌++◌, length, take, Result, Ok, Err, IfOk, inl, inr, refl, sym, ap, subst, arith, ◌≡◌}
use Rattle.std.proofs.Math.Seq.{take-append-add}
use Rattle.std.proofs.lemmas.List.{append-nil, append_assoc, length-append, take-append-le}
use Rattle.plan_ports.specs.Outside.{LaterSink, SinkFails, SinkState, Wrote, WroteFront}
use Rattle.plan_session.specs.declared.fault.PrintFault.{PrintFault}
use Rattle.plan_session.specs.declared.fault.PrintFault.TheVariants.{Memory}
use Rattle.plan_session.specs.Printing.{Prints}

pub later_stays : (sink : SinkState) → LaterSink sink sink
later_stays sink = record { same_tells = refl; later = omega arith }

pub later_goes_on : (s0 s1 s2 : SinkState) → LaterSink s0 s1 → LaterSink s1 s2 → LaterSink s0 s2
later_goes_on s0 s1 s2 one two =
    record { same_tells = two.same_tells ∙ one.same_tells; later = omega (arith, one.later, two.later) }

-- a sink that fails later failed
pub fails_since : (s0 s1 s2 : SinkState) → LaterSink s0 s1 → SinkFails s1 s2 → SinkFails s0 s2
fails_since s0 s1 s2 one (inl rose) = inl (omega (arith, one.later, rose))
fails_since s0 s1 s2 one (inr full) = inr full

-- two texts were written, one behind the other
pub wrote_more : (a b : List ℕ) (s0 s1 s2 : SinkState) → Wrote a s0 s1 → LaterSink s0 s1 → Wrote b s1 s2 → Wrote (a ++ b) s0 s2
wrote_more a b s0 s1 s2 one later two tells =
    two (later.same_tells ∙ tells) ∙ ap (λ written. written ++ b) (one tells) ∙ append_assoc s0.written a b

-- a text was written, and a front of another one behind it
pub front_more : (a b : List ℕ) (s0 s1 s2 : SinkState) → Wrote a s0 s1 → LaterSink s0 s1 → WroteFront b s1 s2 → WroteFront (a ++ b) s0 s2
front_more a b s0 s1 s2 one later two tells =
    let front = two (later.same_tells ∙ tells) in
    let within : length a + front.0 ≤ length (a ++ b) = omega (arith, length-append a b, front.1) in (
      length a + front.0,
      within,
      front.2 ∙ ap (λ written. written ++ take front.0 b) (one tells) ∙ append_assoc s0.written a (take front.0 b)
          ∙ ap (λ text. s0.written ++ text) (sym (take-append-add a b front.0)),
    )

-- a front of a text is a front of a longer one
pub front_of_more : (a rest : List ℕ) (s0 s1 : SinkState) → WroteFront a s0 s1 → WroteFront (a ++ rest) s0 s1
front_of_more a rest s0 s1 wrote tells =
    let front = wrote tells in (
      front.0,
      omega (arith, length-append a rest, front.1),
      front.2 ∙ ap (λ text. s0.written ++ text) (sym (take-append-le front.0 a rest front.1)),
    )

-- a text was written, and a call prints a further one
pub prints_more : {A : Type 0} (result : Result A PrintFault) (a b : List ℕ) (s0 s1 s2 : SinkState)
    → Wrote a s0 s1 → LaterSink s0 s1 → Prints result b s1 s2 → Prints result (a ++ b) s0 s2
prints_more (Ok value) a b s0 s1 s2 wrote later prints = record {
  whole = wrote_more a b s0 s1 s2 wrote later prints.whole;
  front = prints.front;
  failed = λ is. fails_since s0 s1 s2 later (prints.failed is);
  later = later_goes_on s0 s1 s2 later prints.later;
}
prints_more (Err fault) a b s0 s1 s2 wrote later prints = record {
  whole = prints.whole;
  front = front_more a b s0 s1 s2 wrote later prints.front;
  failed = λ is. fails_since s0 s1 s2 later (prints.failed is);
  later = later_goes_on s0 s1 s2 later prints.later;
}

-- a call that printed a front of a text printed a front of a longer one
pub prints_front : {A : Type 0} (fault : PrintFault) (a rest : List ℕ) (s0 s1 : SinkState)
    → Prints {A = A} (Err fault) a s0 s1 → Prints {A = A} (Err fault) (a ++ rest) s0 s1
prints_front fault a rest s0 s1 prints = record {
  whole = prints.whole;
  front = front_of_more a rest s0 s1 prints.front;
  failed = prints.failed;
  later = prints.later;
}

-- a call that wanted memory before it printed
pub prints_nothing : {A : Type 0} (text : List ℕ) (sink : SinkState) → Prints {A = A} (Err Memory) text sink sink
prints_nothing text sink = record {
  whole = tt;
  front = λ tells. (0, omega arith, sym (append-nil sink.written));
  failed = λ is. cc;
  later = later_stays sink;
}

-- what is printed under another name of the text
pub prints_as : {A : Type 0} (result : Result A PrintFault) (a b : List ℕ) (s0 s1 : SinkState) → a ≡ b → Prints result a s0 s1 → Prints result b s0 s1
prints_as result a b s0 s1 is prints = subst (λ (text : List ℕ). Prints result text s0 s1) is prints

-- what holds of a value where a call succeeds, and what follows from that
pub if_ok_map : {A E : Type 0} {P Q : A → Type 0} (result : Result A E) → IfOk result P → ((value : A) → P value → Q value) → IfOk result Q
if_ok_map (Ok value) is all = all value is
if_ok_map (Err fault) is all = is

-- a call that printed nothing printed the empty text
pub prints_none : {A : Type 0} (value : A) (sink : SinkState) → Prints {A = A} (Ok value) [] sink sink
prints_none value sink =
    record { whole = λ tells. sym (append-nil sink.written); front = tt; failed = λ is. cc; later = later_stays sink }
