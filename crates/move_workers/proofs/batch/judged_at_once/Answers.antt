use Rattle.std.proofs.Common.{rules, ◌≡◌, ◌∙◌, ◌<◌, ℕ, ◌∷◌, [], true, length, length-append, get_or, refl, sym, ap, subst, arith, vec_len}
use Rattle.std.proofs.lemmas.List.{length-replicate}
use Rattle.std.proofs.lemmas.List.Elements.{All-replicate}
use Rattle.claim_board.specs.Boards.{fresh_pass}
use Rattle.move_workers.specs.Jobs.{IsIdle, found_from}
use Rattle.move_workers.specs.Judging.{found_in}
use Rattle.move_workers.specs.Teams.{AreAll}
use Rattle.move_workers.proofs.Slots.{All-front, All-last, all_drawn, all_found, first_gathered}
use Rattle.move_workers.proofs.batch.judged_at_once.Goals as goal

pub deal-requires-clause-some : goal.deal-requires-clause-some
deal-requires-clause-some g c κs within =
    let e = ap length c.in_ok-board.ensures.passes in
    let p = ap length c.in-Some.ensures.last in
    let h = c.requires.hands.2 in
    omega (arith, length-append c.pop.new.self (c.in-Some.pass ∷ []), length-replicate c.args.hands (fresh_pass c.in_ok-board.board))

pub run_jobs-requires-clause-ready : goal.run_jobs-requires-clause-ready
run_jobs-requires-clause-ready g c κs within =
    let board = c.in_ok-board.board in
    let lead = c.args.lead.now in
    let all : AreAll (fresh_pass board) c.in_ok-board.passes = rw c.in_ok-board.ensures.passes (All-replicate (λ p. p ≡ fresh_pass board) c.args.hands (fresh_pass board) refl) in
    let last = rw c.in-Some.ensures.last at all in
    let rest : AreAll (fresh_pass board) c.pop.new.self = All-front (λ p. p ≡ fresh_pass board) _ _ last in
    let own : IsIdle board c.share_of-share.result = c.share_of-share.ensures board (All-last (λ p. p ≡ fresh_pass board) _ _ last) in
    let idle = c.deal.ensures.idle board rest in
    let dealt = c.deal.ensures.dealt lead c.requires.alike in
    λ k d lt. record {
      judges = rw (dealt k d lt) c.requires.judges.1;
      own = rw (dealt k d lt) c.requires.own;
      seed_is = rw (dealt k d lt) c.requires.seed;
      idle = idle k d lt;
    }

pub run_jobs-requires-clause-lead_ready : goal.run_jobs-requires-clause-lead_ready
run_jobs-requires-clause-lead_ready g c κs within =
    let board = c.in_ok-board.board in
    let lead = c.args.lead.now in
    let all : AreAll (fresh_pass board) c.in_ok-board.passes = rw c.in_ok-board.ensures.passes (All-replicate (λ p. p ≡ fresh_pass board) c.args.hands (fresh_pass board) refl) in
    let last = rw c.in-Some.ensures.last at all in
    let rest : AreAll (fresh_pass board) c.pop.new.self = All-front (λ p. p ≡ fresh_pass board) _ _ last in
    let own : IsIdle board c.share_of-share.result = c.share_of-share.ensures board (All-last (λ p. p ≡ fresh_pass board) _ _ last) in
    let idle = c.deal.ensures.idle board rest in
    let dealt = c.deal.ensures.dealt lead c.requires.alike in
    record { judges = c.requires.judges.1; own = c.requires.own; seed_is = c.requires.seed; idle = own }

pub take_share-is_taken-requires : goal.take_share-is_taken-requires
take_share-is_taken-requires g c =
    let limit : c.in_ok-board.board.limit ≡ vec_len c.in_ok-slots.slots = c.in_ok-board.ensures.board.0 ∙ sym c.in_ok-slots.ensures.len in
    let mine = c.run_jobs.ensures.worked in
    record { below = λ k d lt. subst (λ (n : ℕ). (get_or c.run_jobs.new.share.verdicts.items k d).place < n) limit (mine.below k d lt) }

pub gather-is_whole-requires-clause-below : goal.gather-is_whole-requires-clause-below
gather-is_whole-requires-clause-below g c κs within =
    let board = c.in_ok-board.board in
    let lead = c.args.lead.now in
    let all : AreAll (fresh_pass board) c.in_ok-board.passes = rw c.in_ok-board.ensures.passes (All-replicate (λ p. p ≡ fresh_pass board) c.args.hands (fresh_pass board) refl) in
    let last = rw c.in-Some.ensures.last at all in
    let rest : AreAll (fresh_pass board) c.pop.new.self = All-front (λ p. p ≡ fresh_pass board) _ _ last in
    let own : IsIdle board c.share_of-share.result = c.share_of-share.ensures board (All-last (λ p. p ≡ fresh_pass board) _ _ last) in
    let idle = c.deal.ensures.idle board rest in
    let dealt = c.deal.ensures.dealt lead c.requires.alike in
    let done = c.run_jobs.ensures.done lead dealt in
    let limit : board.limit ≡ vec_len c.take_share-is_taken.new.slots = c.in_ok-board.ensures.board.0 ∙ sym c.in_ok-slots.ensures.len ∙ sym c.take_share-is_taken.ensures.len in
    λ k d lt j v here. subst (λ (n : ℕ). (get_or (get_or c.run_jobs.new.jobs.items k d).share.verdicts.items j v).place < n) limit ((done k d lt).worked.below j v here)

pub close-requires : goal.close-requires
close-requires g c =
    let board = c.in_ok-board.board in
    let lead = c.args.lead.now in
    let all : AreAll (fresh_pass board) c.in_ok-board.passes = rw c.in_ok-board.ensures.passes (All-replicate (λ p. p ≡ fresh_pass board) c.args.hands (fresh_pass board) refl) in
    let last = rw c.in-Some.ensures.last at all in
    let rest : AreAll (fresh_pass board) c.pop.new.self = All-front (λ p. p ≡ fresh_pass board) _ _ last in
    let own : IsIdle board c.share_of-share.result = c.share_of-share.ensures board (All-last (λ p. p ≡ fresh_pass board) _ _ last) in
    let idle = c.deal.ensures.idle board rest in
    let dealt = c.deal.ensures.dealt lead c.requires.alike in
    let done = c.run_jobs.ensures.done lead dealt in
    let yes : c.take_share-is_taken.result ≡ true = search rules in
    let whole : c.gather-is_whole.result ≡ true = search rules in
    let taken = c.take_share-is_taken.ensures in
    let found = found_from (found_in g.B.Book.meaning c.args.kit.now.seed c.args.kit.now.selectors.now _ c.args.step lead) c.args.first in
    let one = first_gathered found board c.run_jobs.new.share _ _ _ _ (search rules) (taken.passes yes) (taken.slots yes) c.run_jobs.ensures.worked (taken.whole yes) in
    let gathered = c.gather-is_whole.ensures.gathered whole board lead found one.0 done in
    let count : length c.gather-is_whole.new.passes ≡ c.args.hands =
    (let a = c.gather-is_whole.ensures.passes whole in let b = c.run_jobs.ensures.len in let d = c.deal.ensures.jobs in
    let e = ap length c.in_ok-board.ensures.passes in let p = ap length c.in-Some.ensures.last in
    omega (arith, one.1, length-append c.pop.new.self (c.in-Some.pass ∷ []), length-replicate c.args.hands (fresh_pass board))) in
    (count ∙ sym c.in_ok-board.ensures.board.1, gathered.boards)

pub returns-then-not-is_taken-clause-alike : goal.returns-then-not-is_taken-clause-alike
returns-then-not-is_taken-clause-alike g c =
    let board = c.in_ok-board.board in
    let lead = c.args.lead.now in
    let all : AreAll (fresh_pass board) c.in_ok-board.passes = rw c.in_ok-board.ensures.passes (All-replicate (λ p. p ≡ fresh_pass board) c.args.hands (fresh_pass board) refl) in
    let last = rw c.in-Some.ensures.last at all in
    let rest : AreAll (fresh_pass board) c.pop.new.self = All-front (λ p. p ≡ fresh_pass board) _ _ last in
    let own : IsIdle board c.share_of-share.result = c.share_of-share.ensures board (All-last (λ p. p ≡ fresh_pass board) _ _ last) in
    let idle = c.deal.ensures.idle board rest in
    let dealt = c.deal.ensures.dealt lead c.requires.alike in
    let done = c.run_jobs.ensures.done lead dealt in
    c.gather-is_whole.ensures.alike lead (c.deal.ensures.alike lead c.requires.alike) (λ k d lt. (done k d lt).worker_is)

pub returns-clause-alike : goal.returns-clause-alike
returns-clause-alike g c =
    let board = c.in_ok-board.board in
    let lead = c.args.lead.now in
    let all : AreAll (fresh_pass board) c.in_ok-board.passes = rw c.in_ok-board.ensures.passes (All-replicate (λ p. p ≡ fresh_pass board) c.args.hands (fresh_pass board) refl) in
    let last = rw c.in-Some.ensures.last at all in
    let rest : AreAll (fresh_pass board) c.pop.new.self = All-front (λ p. p ≡ fresh_pass board) _ _ last in
    let own : IsIdle board c.share_of-share.result = c.share_of-share.ensures board (All-last (λ p. p ≡ fresh_pass board) _ _ last) in
    let idle = c.deal.ensures.idle board rest in
    let dealt = c.deal.ensures.dealt lead c.requires.alike in
    let done = c.run_jobs.ensures.done lead dealt in
    c.gather-is_whole.ensures.alike lead (c.deal.ensures.alike lead c.requires.alike) (λ k d lt. (done k d lt).worker_is)

pub returns-clause-found : goal.returns-clause-found
returns-clause-found g c =
    let board = c.in_ok-board.board in
    let lead = c.args.lead.now in
    let all : AreAll (fresh_pass board) c.in_ok-board.passes = rw c.in_ok-board.ensures.passes (All-replicate (λ p. p ≡ fresh_pass board) c.args.hands (fresh_pass board) refl) in
    let last = rw c.in-Some.ensures.last at all in
    let rest : AreAll (fresh_pass board) c.pop.new.self = All-front (λ p. p ≡ fresh_pass board) _ _ last in
    let own : IsIdle board c.share_of-share.result = c.share_of-share.ensures board (All-last (λ p. p ≡ fresh_pass board) _ _ last) in
    let idle = c.deal.ensures.idle board rest in
    let dealt = c.deal.ensures.dealt lead c.requires.alike in
    let done = c.run_jobs.ensures.done lead dealt in
    let yes : c.take_share-is_taken.result ≡ true = search rules in
    let whole : c.gather-is_whole.result ≡ true = search rules in
    let taken = c.take_share-is_taken.ensures in
    let found = found_from (found_in g.B.Book.meaning c.args.kit.now.seed c.args.kit.now.selectors.now _ c.args.step lead) c.args.first in
    let one = first_gathered found board c.run_jobs.new.share _ _ _ _ (search rules) (taken.passes yes) (taken.slots yes) c.run_jobs.ensures.worked (taken.whole yes) in
    let gathered = c.gather-is_whole.ensures.gathered whole board lead found one.0 done in
    let count : length c.gather-is_whole.new.passes ≡ c.args.hands =
    (let a = c.gather-is_whole.ensures.passes whole in let b = c.run_jobs.ensures.len in let d = c.deal.ensures.jobs in
    let e = ap length c.in_ok-board.ensures.passes in let p = ap length c.in-Some.ensures.last in
    omega (arith, one.1, length-append c.pop.new.self (c.in-Some.pass ∷ []), length-replicate c.args.hands (fresh_pass board))) in
    let passes = c.gather-is_whole.new.passes in
    let some : 0 < length passes = (let h = c.requires.hands.0 in omega arith) in
    let slots = c.gather-is_whole.new.slots.items in
    let len : length slots ≡ c.args.count = search rules in
    let limit : board.limit ≡ c.args.count = c.in_ok-board.ensures.board.0 in
    let find = found_in g.B.Book.meaning c.args.kit.now.seed c.args.kit.now.selectors.now _ c.args.step lead in
    all_found find c.args.first c.args.count slots len
    (λ place lt. gathered.placed_all place lt
    (all_drawn passes board.limit c.close.result place some gathered.done c.close.ensures.full (c.close.ensures.once place) (omega arith)))
