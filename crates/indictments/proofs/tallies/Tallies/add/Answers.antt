use Rattle.std.proofs.Common.{◌∙◌, Option, ap}
use Rattle.std.specs.Option.{unwrap_or}
use Rattle.indictments.specs.declared.tally.Tally.{Tally}
use Rattle.indictments.specs.Tallies.{no_tally}
use Rattle.indictments.proofs.TallyLaws.{put_found}
use Rattle.indictments.proofs.tallies.Tallies.add.Goals as goal

pub returns : goal.returns
returns c = λ class id.
    ap (λ (o : Option Tally). unwrap_or o no_tally) (c.in_ok-insert.ensures.updates.0 (class, id))
    ∙ put_found c.args.self.now c.self.inside.tallies.entries c.args.class c.args.id class id c.args.impact.now c.get.result c.with_one-tally.result
    c.get.ensures c.with_one-tally.ensures c.self.view_is
