use Rattle.std.proofs.Common.{◌≡◌, ◌∙◌, ℕ, List, [], ◌∷◌, sym, subst, rules}
use Rattle.std.specs.Str.{IsUtf8}
use Rattle.std.proofs.lemmas.Bool.Decides.{Decides-eqb}
use Rattle.std.proofs.lemmas.Slice.Eq.{slice_eq-Decides}
use Rattle.std.proofs.lemmas.Str.{IsUtf8-from_ascii}
use Rattle.plan_ports.proofs.system.open_stream.Goals as goal

-- the name of standard input is UTF-8
pub returns-then-eq-clause-unreadable : goal.returns-then-eq-clause-unreadable
returns-then-eq-clause-unreadable g c =
    let at : List ℕ = 64 ∷ [] in
    let is : c.args.name.now ≡ at =
    (slice_eq-Decides Decides-eqb _ _ _ c.eq.ensures).0 c.if-eq.true ∙ c.as_slice.ensures in
    λ not. absurd (not (subst IsUtf8 (sym is) (IsUtf8-from_ascii at (search rules))))
