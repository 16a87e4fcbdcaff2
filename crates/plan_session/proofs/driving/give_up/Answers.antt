use Rattle.std.proofs.Common.{◌≡◌, ◌∙◌, ◌∷◌, ◌++◌, [], ℕ, List, refl, sym, ap, arith}
use Rattle.change_inbox.specs.Books.{shut}
use Rattle.change_inbox.specs.Entries.{shuts_in}
use Rattle.change_inbox.specs.Seats.{own_of}
use Rattle.change_inbox.specs.declared.entry.Entry.{Entry}
use Rattle.change_inbox.specs.declared.entry.Entry.TheVariants.{Cut, Post, Shut}
use Rattle.plan_changes.specs.declared.line.Post.{Post as Posted}
use Rattle.plan_session.specs.LiveFaults.{shuts_for}
use Rattle.plan_session.proofs.driving.give_up.Goals as goal

-- a shut behind entries that have none
one_shut : (es : List (Entry Posted)) (n : ℕ) → shuts_in es ≡ 0 → shuts_in (es ++ shut n ∷ []) ≡ 1
one_shut [] n none = refl
one_shut (Post seat number body ∷ es) n none = one_shut es n none
one_shut (Cut seat boundary ∷ es) n none = one_shut es n none
one_shut (Shut seat ∷ es) n none = absurd (omega (arith, none))

pub returns-in-Memory-clause-shuts : goal.returns-in-Memory-clause-shuts
returns-in-Memory-clause-shuts g c =
    let old = c.args.cutter.now in
    ap shuts_in c.shut.ensures.own ∙ one_shut (own_of old) old.number c.requires.once ∙ ap shuts_for (sym c.in-Memory.is)

pub returns-in-Write-clause-shuts : goal.returns-in-Write-clause-shuts
returns-in-Write-clause-shuts g c =
    let old = c.args.cutter.now in
    ap shuts_in c.shut-in-Write.ensures.own ∙ one_shut (own_of old) old.number c.requires.once ∙ ap shuts_for (sym c.in-Write.is)
