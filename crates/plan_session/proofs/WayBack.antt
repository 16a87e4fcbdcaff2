-- Ways back to a best plan: they grow at their end, and are gone from there.
use Rattle.std.proofs.Common.{◌≡◌, ◌∙◌, IsTrue, List, [], ◌∷◌, ◌++◌, length, refl, sym, subst, arith}
use Rattle.plan_facts.specs.Plan.{PlanView}
use Rattle.plan_moves.specs.declared.edit.Set.{Set}
use Rattle.plan_moves.specs.Edits.{applied, is_legal}
use Rattle.move_workers.specs.Judging.{LeadsTo}
use Rattle.plan_session.specs.WayBack.{IsWayBack}

-- a way back is one edit longer where the plan went on by what this edit takes back
pub longer_way : (best plan next : PlanView) (backs : List (List Set)) (back : List Set)
    → IsWayBack best backs plan → LeadsTo plan next back → IsWayBack best (backs ++ back ∷ []) next
longer_way best plan next [] back way leads = (next, subst (λ p. LeadsTo p next back) way leads, refl)
longer_way best plan next (first ∷ rest) back way leads =
    (way.0, way.1, longer_way way.0 plan next rest back way.2 leads)

-- a way back without its last edit, and where that leads
pub record Shorter (best : PlanView) (backs : List (List Set)) (back : List Set) (plan : PlanView) : Type 0 where
  pub next : PlanView
  pub leads : LeadsTo next plan back
  pub way : IsWayBack best backs next

-- a way back is gone from its end
pub shorter_way : (best plan : PlanView) (backs : List (List Set)) (back : List Set)
    → IsWayBack best (backs ++ back ∷ []) plan → Shorter best backs back plan
shorter_way best plan [] back way =
    record { next = best; leads = subst (λ p. LeadsTo best p back) (sym way.2) way.1; way = refl }
shorter_way best plan (first ∷ rest) back way =
    let shorter = shorter_way way.0 plan rest back way.2 in
    record { next = shorter.next; leads = shorter.leads; way = (way.0, way.1, shorter.way) }

-- the last edit of a way back may be made
pub may_go_back : (best plan : PlanView) (items rest : List (List Set)) (back : List Set)
    → items ≡ rest ++ back ∷ [] → IsWayBack best items plan → IsTrue (is_legal plan back)
may_go_back best plan items rest back is way =
    (shorter_way best plan rest back (subst (λ backs. IsWayBack best backs plan) is way)).leads.legal

-- behind it the rest of the way leads back
pub gone_back : (best plan new : PlanView) (items rest : List (List Set)) (back : List Set)
    → items ≡ rest ++ back ∷ [] → new ≡ applied plan back → IsWayBack best items plan → IsWayBack best rest new
gone_back best plan new items rest back is applies way =
    let shorter = shorter_way best plan rest back (subst (λ backs. IsWayBack best backs plan) is way) in
    subst (λ p. IsWayBack best rest p) (sym (applies ∙ shorter.leads.leads)) shorter.way

-- a way back without edits is at its end
pub is_home : (best plan : PlanView) (items : List (List Set)) → length items ≡ 0 → IsWayBack best items plan → plan ≡ best
is_home best plan [] none way = way
is_home best plan (first ∷ rest) none way = absurd (omega (arith, none))
