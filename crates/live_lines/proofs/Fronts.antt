-- Lines that are taken one after the other.
use Rattle.std.proofs.Common.{◌≡◌, ◌∙◌, ◌<◌, ◌≤◌, ◌+◌, ℕ, List, [], ◌∷◌, ◌++◌, fold, length, get_or, take, append_assoc, refl, sym, ap, subst}
use Rattle.std.proofs.lemmas.List.{append-nil, map_more, take-map, take_all}
use Rattle.std.proofs.lemmas.List.Sums.{fold-append}
use Rattle.plan_changes.specs.declared.line.Post.{Post}
use Rattle.plan_reports.specs.declared.line.Line.{Line}
use Rattle.plan_search.specs.Posed.{State}
use Rattle.plan_search.specs.RunLines.{Feed, handled_lines}
use Rattle.live_lines.specs.Taking.{Taken, Took, TookFront, taken, taken_at}

-- what is told of lines, and then of further ones
pub handled_lines-append : {X : Type 0} (feed : Feed X) (state : State) (xs ys : List X) → handled_lines feed state (xs ++ ys) ≡ handled_lines feed state xs ++ handled_lines feed (fold feed.handle state xs) ys
handled_lines-append feed state [] ys = refl
handled_lines-append feed state (x ∷ xs) ys =
    ap (λ lines. feed.tells state x ++ lines) (handled_lines-append feed (feed.handle state x) xs ys)
    ∙ sym (append_assoc (feed.tells state x) (handled_lines feed (feed.handle state x) xs) (handled_lines feed (fold feed.handle (feed.handle state x) xs) ys))

module _ (feed : Feed Taken) where
  -- no line was taken
  pub took_none : (state : State) (told : List Line) → Took feed [] state state told told
  took_none state told = record { state = refl; told = sym (append-nil told) }

  -- one line was taken
  pub took_one : (line : Taken) (before after : State) (told : Line) (old new : List Line) → after ≡ feed.handle before line → told ∷ [] ≡ feed.tells before line → new ≡ old ++ told ∷ [] → Took feed (line ∷ []) before after old new
  took_one line before after told old new handled tells appended = record {
    state = handled;
    told = appended ∙ ap (λ lines. old ++ lines) (tells ∙ sym (append-nil (feed.tells before line)));
  }

  -- lines were taken, and then further ones
  pub took_both : (xs ys : List Taken) (first mid last : State) (old more new : List Line) → Took feed xs first mid old more → Took feed ys mid last more new → Took feed (xs ++ ys) first last old new
  took_both xs ys first mid last old more new one two = record {
    state = two.state ∙ ap (λ state. fold feed.handle state ys) one.state ∙ sym (fold-append feed.handle first xs ys);
    told =
        two.told
        ∙ ap (λ lines. lines ++ handled_lines feed mid ys) one.told
        ∙ append_assoc old (handled_lines feed first xs) (handled_lines feed mid ys)
        ∙ ap (λ state. old ++ (handled_lines feed first xs ++ handled_lines feed state ys)) one.state
        ∙ ap (λ lines. old ++ lines) (sym (handled_lines-append feed first xs ys));
  }

  -- the first so many posts were taken, and then the next one
  pub took_more : (boundary : ℕ) (posts : List Post) (k : ℕ) (post : Post) (first mid last : State) (old more new : List Line) → k < length posts → post ≡ get_or posts k post → Took feed (taken_at boundary (take k posts)) first mid old more → Took feed (taken boundary post ∷ []) mid last more new → Took feed (taken_at boundary (take (k + 1) posts)) first last old new
  took_more boundary posts k post first mid last old more new within at one two =
      let lines : taken_at boundary (take (k + 1) posts) ≡ taken_at boundary (take k posts) ++ taken boundary post ∷ [] = map_more (taken boundary) posts k post within ∙ ap (λ (p : Post). taken_at boundary (take k posts) ++ taken boundary p ∷ []) (sym at) in
      subst (λ (xs : List Taken). Took feed xs first last old new) (sym lines) (took_both (taken_at boundary (take k posts)) (taken boundary post ∷ []) first mid last old more new one two)

  -- all posts were taken
  pub took_all : (boundary : ℕ) (posts : List Post) (k : ℕ) (first last : State) (old new : List Line) → length posts ≤ k → Took feed (taken_at boundary (take k posts)) first last old new → Took feed (taken_at boundary posts) first last old new
  took_all boundary posts k first last old new past one =
      subst (λ (ps : List Post). Took feed (taken_at boundary ps) first last old new) (take_all k posts past) one

  -- the first so many posts were taken, and nothing was done since
  pub took_front : (boundary : ℕ) (posts : List Post) (k : ℕ) (first mid last : State) (old more new : List Line) → Took feed (taken_at boundary (take k posts)) first mid old more → last ≡ mid → new ≡ more → TookFront feed (taken_at boundary posts) first last old new
  took_front boundary posts k first mid last old more new one same untold =
      let lines = take-map (taken boundary) k posts in
      (k, subst (λ (xs : List Taken). Took feed xs first last old new) (sym lines) (record { state = same ∙ one.state; told = untold ∙ one.told }))
