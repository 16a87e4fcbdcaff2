-- Lines that are read one after the other.
use Rattle.std.proofs.Common.{◌≡◌, ◌∙◌, ◌≤◌, ◌+◌, false, List, [], ◌∷◌, ◌++◌, length, map, refl, sym, ap, arith}
use Rattle.std.specs.List.{range_with_len}
use Rattle.std.proofs.lemmas.List.{append_assoc, length_push, map_push}
use Rattle.std.proofs.lemmas.List.Elements.{All-nil, All-push}
use Rattle.plan_changes.specs.declared.line.Body.{Body}
use Rattle.plan_changes.specs.declared.line.Post.{Post}
use Rattle.plan_ports.specs.Outside.{LaterSource, SourceState}
use Rattle.feed_lines.specs.Limits.{most_lines}
use Rattle.change_feed.specs.Feeds.{is_stop}
use Rattle.live_lines.specs.Reading.{AreLines}
use Rattle.live_lines.proofs.Counting.{range_more}

-- what holds of a source where nothing was called
pub later_same : (source : SourceState) → LaterSource source source
later_same source = record { same_tells = refl; same_sound = refl; later = omega arith; quiet = λ sound. refl }

-- what holds of a source after two calls
pub later_both : (old mid new : SourceState) → LaterSource old mid → LaterSource mid new → LaterSource old new
later_both old mid new one two =
    let below = one.later in
    let above = two.later in
    record {
      same_tells = two.same_tells ∙ one.same_tells;
      same_sound = two.same_sound ∙ one.same_sound;
      later = omega arith;
      quiet = λ sound. two.quiet (one.same_sound ∙ sound) ∙ one.quiet sound;
    }

-- no line was read
pub no_lines : AreLines []
no_lines = record { numbers = refl; few = omega arith; lines = All-nil (λ (p : Post). is_stop p.body ≡ false) }

-- one line more
pub lines_more : (posts : List Post) (post : Post) → AreLines posts → post.line ≡ length posts + 1 → post.line ≤ most_lines → is_stop post.body ≡ false → AreLines (posts ++ post ∷ [])
lines_more posts post lines number few line =
    let long = length_push posts post in
    let next : post.line ≡ 1 + length posts = omega arith in
    record {
      numbers =
          map_push (λ (p : Post). p.line) posts post
          ∙ ap (λ ns. ns ++ post.line ∷ []) lines.numbers
          ∙ ap (λ n. range_with_len 1 (length posts) ++ n ∷ []) next
          ∙ sym (range_more 1 (length posts))
          ∙ ap (range_with_len 1) (sym long);
      few = omega arith;
      lines = All-push (λ (p : Post). is_stop p.body ≡ false) posts post lines.lines line;
    }

-- what was read and what is ahead, once the next line was read
pub bodies_more : (posts : List Post) (post : Post) (ahead rest : List Body) → ahead ≡ post.body ∷ rest → map (λ p. p.body) (posts ++ post ∷ []) ++ rest ≡ map (λ p. p.body) posts ++ ahead
bodies_more posts post ahead rest next =
    ap (λ bodies. bodies ++ rest) (map_push (λ (p : Post). p.body) posts post)
    ∙ append_assoc (map (λ (p : Post). p.body) posts) (post.body ∷ []) rest
    ∙ ap (λ bodies. map (λ (p : Post). p.body) posts ++ bodies) (sym next)
