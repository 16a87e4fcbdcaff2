use Rattle.std.proofs.Common.{◌≡◌, ◌∙◌, ap, refl}
use Rattle.std.proofs.lemmas.Result.{on_err_weaker, on_ok_weaker}
use Rattle.plan_ports.specs.declared.fault.PortFault.TheVariants.{Failed}
use Rattle.plan_ports.specs.Edge.{OpenFiles, faulted, lending}
use Rattle.plan_ports.specs.InMemory.{raised}
use Rattle.plan_ports.specs.Streams.{is_input_name}
use Rattle.plan_ports.proofs.Edges.{later_from, later_returned, opened_from, returned_rose, returned_stays, rose_from}
use Rattle.plan_ports.proofs.system.FileShelfShelf.TheImpl.Goals as goal

pub open-tells : goal.open-tells
open-tells g x c =
    let old : OpenFiles = c.args.self.now in
    let new : OpenFiles = c.new.self.now in
    record {
      opens = opened_from c.args.name.now old (is_input_name c.args.name.now) c.result c.ensures.opens;
      failed = λ failed. record {
        fails = rose_from old.faults new.faults c.result Failed
            (on_err_weaker c.result (λ (rises : new ≡ faulted old). ap (λ f. f.faults) rises) c.ensures.rises) failed;
        unsound = refl;
      };
      lent = on_ok_weaker c.result (λ (lends : new ≡ lending old). ap (λ f. f.lent) lends) c.ensures.lends;
      kept = on_err_weaker c.result (λ (rises : new ≡ faulted old). ap (λ f. f.lent) rises) c.ensures.rises;
      later = later_from old new c.result c.ensures.lends c.ensures.rises;
    }

pub close-tells : goal.close-tells
close-tells g x c = record {
  rose = λ some. rw c.ensures (returned_rose c.args.file.faults c.args.self.now some);
  stays = λ none. ap (λ f. f.faults) c.ensures ∙ returned_stays c.args.file.faults c.args.self.now none;
  lent = ap (λ f. f.lent) c.ensures;
  later = rw c.ensures (later_returned c.args.file.faults c.args.self.now);
}
