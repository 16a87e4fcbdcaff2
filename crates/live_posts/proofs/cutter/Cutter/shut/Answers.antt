use Rattle.std.proofs.Common.{◌∙◌, ◌++◌, ◌∷◌, [], ap}
use Rattle.change_inbox.specs.Books.{shut}
use Rattle.change_inbox.specs.Entries.{shuts_in}
use Rattle.change_inbox.specs.Seats.{own_of}
use Rattle.live_posts.specs.Cuts.{taken_by}
use Rattle.live_posts.proofs.Cutting.{cutter_shut, taken_shut}
use Rattle.live_posts.proofs.cutter.Cutter.shut.Goals as goal

pub shut-requires-clause-once : goal.shut-requires-clause-once
shut-requires-clause-once g c = λ κs out. ap (λ s. shuts_in (own_of s)) c.self.view_is ∙ c.requires.once

pub invariant_of-self : goal.invariant_of-self
invariant_of-self g c =
    let made = c.shut.ensures.shut in
    cutter_shut _ _ _ made.0 made.1 made.2 c.shut.ensures.own c.self.invariant

pub returns-clause-took : goal.returns-clause-took
returns-clause-took g c =
    let made = c.shut.ensures.shut in
    ap (λ s. taken_by s) made.2 ∙ (taken_shut c.self.inside.seat made.0 made.1 ∙ ap (λ s. taken_by s) c.self.view_is)

pub returns-clause-own : goal.returns-clause-own
returns-clause-own g c = c.shut.ensures.own ∙ ap (λ s. own_of s ++ shut s.number ∷ []) c.self.view_is
