use Rattle.std.proofs.Common.{refl, length}
use Rattle.plan_ports.specs.declared.fault.PortFault.TheVariants.{Failed}
use Rattle.plan_ports.proofs.Edges.{IfOk-all, OnErr-all, rose_from, stall_from, written_later}
use Rattle.plan_ports.proofs.system.OutSinkSink.TheImpl.Goals as goal

pub put-tells : goal.put-tells
put-tells g c = record {
  within = c.ensures.within;
  appends = IfOk-all _ (λ n told. cc) c.result;
  nothing = OnErr-all _ (λ told. cc) c.result;
  failed = rose_from c.args.self.now c.new.self.now c.result Failed c.ensures.rises;
  stalls = stall_from c.args.self.now c.new.self.now (length c.args.piece.now) c.result c.ensures.counts;
  later = record {
    same_tells = refl;
    later = written_later c.args.self.now c.new.self.now (length c.args.piece.now) c.result c.ensures.counts c.ensures.rises;
  };
}
