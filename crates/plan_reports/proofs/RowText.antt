-- The text of a row, part by part.
use Rattle.std.proofs.Common.{◌≡◌, ◌∙◌, ◌+◌, ℕ, Some, List, [], ◌∷◌, ◌++◌, append_assoc, codes, slice_get, take, sym, ap}
use Rattle.std.proofs.lemmas.List.{append-nil, take_more}
use Rattle.std.proofs.lemmas.Grind.{flat_map-append}
use Rattle.std.proofs.lemmas.Option.{get_or_from_slice_get, slice_get_within}
use Rattle.plan_facts.specs.declared.record.ClassDef.{ClassDef}
use Rattle.plan_rules.specs.declared.row.Part.{Part}
use Rattle.plan_reports.specs.Lines.{part_text, row_text}

-- the parts so far are written, then a space and the next part
pub part_written : (classes : List ClassDef) (row : List Part) (n : ℕ) (part : Part) (old now spaced new : List ℕ) → Some part ≡ slice_get row n
    → now ≡ old ++ row_text classes (take n row) → spaced ≡ now ++ codes " " → new ≡ spaced ++ part_text classes part
    → new ≡ old ++ row_text classes (take (n + 1) row)
part_written classes row n part old now spaced new at was space wrote =
    let next : List ℕ = codes " " ++ part_text classes part in
    let front = take n row in
    let more : take (n + 1) row ≡ front ++ part ∷ [] =
    take_more row n part (slice_get_within row n part (sym at)) ∙ ap (λ p. front ++ p ∷ []) (get_or_from_slice_get row n part part (sym at)) in
    let text : row_text classes (take (n + 1) row) ≡ row_text classes front ++ next =
    ap (row_text classes) more ∙ flat_map-append (λ p. codes " " ++ part_text classes p) front (part ∷ []) ∙ ap (λ zs. row_text classes front ++ zs) (append-nil next) in
    wrote ∙ ap (λ zs. zs ++ part_text classes part) (space ∙ ap (λ zs. zs ++ codes " ") was)
    ∙ append_assoc (old ++ row_text classes front) (codes " ") (part_text classes part)
    ∙ append_assoc old (row_text classes front) next ∙ ap (λ zs. old ++ zs) (sym text)
