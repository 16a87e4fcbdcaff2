use Rattle.std.proofs.Common.{rules, ◌≡◌, [], ◌∷◌, length, length-append, ap, arith}
use Rattle.std.proofs.lemmas.List.Elements.{All-push}
use Rattle.claim_board.specs.Boards.{fresh_pass}
use Rattle.move_workers.specs.Jobs.{IsIdle}
use Rattle.move_workers.proofs.Slots.{All-front, All-last}
use Rattle.move_workers.proofs.batch.deal.Goals as goal

pub passes-preserved : goal.passes-preserved
passes-preserved g c =
    let inv = c.passes.invariant in
    let passes = c.in-Some.ensures.last in
    let workers = c.in-Some-pop.ensures.items in
    let pass = c.in-Some.pass in
    let fewer = ap length passes in
    record {
      jobs = (let i = inv.jobs in let b = c.push_reserved.ensures.len in omega (arith, length-append c.pop.new.self (pass ∷ [])));
      left = (let i = inv.left in let a = c.in-Some-pop.ensures.cases in let b = c.push_reserved.ensures.len in omega arith);
      jobs_room = search rules;
      workers_room = search rules;
      alike = (λ w all. All-front (λ x. x ≡ w) _ _ (rw workers at (inv.alike w all)));
      boards = (λ b all. All-front (λ p. p ≡ fresh_pass b) _ _ (rw passes at (inv.boards b all)));
      dealt = (λ w all. rw c.push_reserved.ensures.items (All-push (λ job. job.worker ≡ w) _ _ (inv.dealt w all) (All-last (λ x. x ≡ w) _ _ (rw workers at (inv.alike w all)))));
      idle = (λ b all. rw c.push_reserved.ensures.items (All-push (λ job. IsIdle b job.share) _ _ (inv.idle b all)
          (c.share_of-share.ensures b (All-last (λ p. p ≡ fresh_pass b) _ _ (rw passes at (inv.boards b all))))));
    }
