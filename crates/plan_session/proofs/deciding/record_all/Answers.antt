use Rattle.std.proofs.Common.{◌≡◌, ◌∙◌, ◌++◌, ◌∷◌, [], ℕ, List, Option, length, append_assoc, sym, ap, subst, arith}
use Rattle.std.proofs.lemmas.List.{length-append}
use Rattle.std.specs.Vec.Iter.{into_iter_items}
use Rattle.plan_search.specs.declared.found.Found.{Found}
use Rattle.search_core.specs.OneThread.{JudgesAt}
use Rattle.plan_session.proofs.Asking.{asks-judges, judged-next}
use Rattle.plan_session.proofs.deciding.record_all.Goals as goal

pub record_found-requires : goal.record_found-requires
record_found-requires c =
    let l = c.founds in
    let asked = c.requires.asked in
    subst (λ (n : ℕ). JudgesAt l.core c.args.step n) (sym l.invariant.number)
    (asks-judges c.args.core.now l.core c.args.step asked.found c.args.first (length c.args.all.items) (length l.yielded) asked.at (l.invariant.stands asked))

pub founds-preserved : goal.founds-preserved
founds-preserved c =
    let l = c.founds in
    let one = c.in-Some.found in
    let here : into_iter_items l.found-iterator ≡ one ∷ into_iter_items c.next.new.self = c.in-Some.ensures.steps.0 in
    let split = l.invariant.rest ∙ ap (λ (zs : List (Option Found)). l.yielded ++ zs) here in
    record {
      number = omega (arith, l.invariant.number, length-append l.yielded (one ∷ []));
      rest = split ∙ sym (append_assoc l.yielded (one ∷ []) (into_iter_items c.next.new.self));
      stands = judged-next c.args.core.now l.core c.record_found.new.core c.args.step c.args.first l.number l.yielded (into_iter_items c.next.new.self)
          c.args.all.items one split l.invariant.number l.invariant.stands c.in_ok-record_found.ensures;
    }
