-- Texts without a line feed, and texts that end in their only one.
use Rattle.std.proofs.Common.{◌≡◌, ◌∙◌, ℕ, ◌==◌, List, [], ◌∷◌, ◌++◌, refl, sym, ap}
use Rattle.std.specs.Prelude.{codes}
use Rattle.std.specs.List.{list_any}
use Rattle.std.proofs.lemmas.Bool.{cond-false, or_parts}
use Rattle.std.proofs.lemmas.List.{append_assoc}
use Rattle.feed_lines.specs.Parts.{is_feed, before_lines, lines_in}
use Rattle.text_journal.proofs.Lacking.{Lacks, lacks-append}

-- no line feed is in the text
pub record IsPlain (text : List ℕ) : Type 0 where
  pub lacks : Lacks 10 text

-- a text of which that is computed
pub literal : (text : List ℕ) → Lacks 10 text → IsPlain text
literal text lacks = record { lacks = lacks }

-- two plain texts, one behind the other, are plain
infixl 65 ◌⊕◌
pub ◌⊕◌ : {a b : List ℕ} → IsPlain a → IsPlain b → IsPlain (a ++ b)
◌⊕◌ {a} {b} p q = record { lacks = lacks-append 10 a b p.lacks q.lacks }

-- the text is a body without a line feed, and then one
pub record Ended (text : List ℕ) : Type 0 where
  pub body : List ℕ
  pub is : text ≡ body ++ codes "\n"
  pub plain : IsPlain body

-- a plain text and the end of the line
abbrev pub closed : {text : List ℕ} → IsPlain text → Ended (text ++ codes "\n")
closed {text} plain = record { body = text; is = refl; plain = plain }

-- a plain text before one that ends in a line feed
abbrev pub before : {a b : List ℕ} → IsPlain a → Ended b → Ended (a ++ b)
before {a} {b} plain ended = record {
  body = a ++ ended.body;
  is = ap (λ text. a ++ text) ended.is ∙ sym (append_assoc a ended.body (codes "\n"));
  plain = plain ⊕ ended.plain;
}

-- the first line is the body, and behind it stand the lines of the rest
pub lines_in-body : (body rest : List ℕ) → Lacks 10 body
    → lines_in ((body ++ codes "\n") ++ rest) ≡ body ∷ lines_in rest
lines_in-body [] rest lacks = refl
lines_in-body (b ∷ body) rest lacks =
    let parts = or_parts (b == 10) (list_any (λ x. x == 10) body) lacks in
    let later = lines_in ((body ++ codes "\n") ++ rest) in
    cond-false (is_feed b) ([] ∷ later) (before_lines b later) parts.0
    ∙ ap (before_lines b) (lines_in-body body rest parts.1)
