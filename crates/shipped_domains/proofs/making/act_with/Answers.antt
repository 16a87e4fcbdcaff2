use Rattle.std.proofs.Common.{◌∙◌, [], ◌∷◌, List, Option, inl, inr, refl, ap}
use denote.Param.Object.{read_made}
use Rattle.plan_moves.specs.declared.edit.Set.{Set}
use Rattle.shipped_domains.proofs.Members.{all_mapped, three_same}
use Rattle.shipped_domains.proofs.making.act_with.OwnLists.{own-4}
use Rattle.shipped_domains.proofs.making.act_with.Goals as goal

-- own-4 is the table of the types that are boxed as makers here: the timetable's first, then the roster's
pub act-requires-clause-makers : goal.act-requires-clause-makers
act-requires-clause-makers g c = λ plan words.
    all_mapped _ _ _ _ c.in_ok-domains.ensures.makers
    ∙ three_same
    (ap (λ made. made ∷ []) (read_made own-4 _ (inl tt) refl (Option (List Set)) (λ j z. j.1.made z plan words) _ _ _ c.into_dyn_box.ensures.1))
    (ap (λ made. made ∷ []) (read_made own-4 _ (inr (inl tt)) refl (Option (List Set)) (λ j z. j.1.made z plan words) _ _ _ c.into_dyn_box-in_ok-new-2.ensures.1))
    (ap (λ made. made ∷ []) (read_made own-4 _ (inr (inl tt)) refl (Option (List Set)) (λ j z. j.1.made z plan words) _ _ _ c.into_dyn_box-in_ok-new-3.ensures.1))
