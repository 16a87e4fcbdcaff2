-- Lists of entries: their posts, cuts and shuts, and those of one seat.
use Rattle.std.proofs.Common.{◌≡◌, ℕ, zero, suc, ◌+◌, ◌<◌, nat_lt, List, [], ◌∷◌, ◌++◌, length, get_or, Bool, true, refl, sym, ap, ◌∙◌, Some, slice_get, subst, append-nil, length-append, arith}
use Rattle.std.proofs.lemmas.Bool.Decides.{nat_tests}
use Rattle.std.proofs.lemmas.Grind.{get_or_default_zero}
use Rattle.change_inbox.specs.declared.entry.Entry.{Entry}
use Rattle.change_inbox.specs.declared.entry.Entry.TheVariants.{Post, Cut, Shut}
use Rattle.change_inbox.specs.Entries.{posts_in, cuts_in, shuts_in, post_places}
use Rattle.change_inbox.specs.Books.{IsBook}
use Rattle.change_inbox.specs.declared.knowledge.Limits.{Limits}

module _ {T : Type 0} where
  -- each entry is of one kind
  pub length-by_kind : (es : List (Entry T)) → length es ≡ length (posts_in es) + cuts_in es + shuts_in es
  length-by_kind [] = refl
  length-by_kind (Post s n b ∷ es) = let e = length-by_kind es in omega arith
  length-by_kind (Cut s k ∷ es) = let e = length-by_kind es in omega arith
  length-by_kind (Shut s ∷ es) = let e = length-by_kind es in omega arith

  pub posts_in-append : (xs ys : List (Entry T)) → posts_in (xs ++ ys) ≡ posts_in xs ++ posts_in ys
  posts_in-append [] ys = refl
  posts_in-append (Post s n b ∷ xs) ys = ap (λ l. b ∷ l) (posts_in-append xs ys)
  posts_in-append (Cut s k ∷ xs) ys = posts_in-append xs ys
  posts_in-append (Shut s ∷ xs) ys = posts_in-append xs ys

  pub cuts_in-append : (xs ys : List (Entry T)) → cuts_in (xs ++ ys) ≡ cuts_in xs + cuts_in ys
  cuts_in-append [] ys = omega arith
  cuts_in-append (Post s n b ∷ xs) ys = cuts_in-append xs ys
  cuts_in-append (Cut s k ∷ xs) ys = let e = cuts_in-append xs ys in omega arith
  cuts_in-append (Shut s ∷ xs) ys = cuts_in-append xs ys

  pub shuts_in-append : (xs ys : List (Entry T)) → shuts_in (xs ++ ys) ≡ shuts_in xs + shuts_in ys
  shuts_in-append [] ys = omega arith
  shuts_in-append (Post s n b ∷ xs) ys = shuts_in-append xs ys
  shuts_in-append (Cut s k ∷ xs) ys = shuts_in-append xs ys
  shuts_in-append (Shut s ∷ xs) ys = let e = shuts_in-append xs ys in omega arith

  pub length-posts-append : (xs ys : List (Entry T)) → length (posts_in (xs ++ ys)) ≡ length (posts_in xs) + length (posts_in ys)
  length-posts-append xs ys = ap length (posts_in-append xs ys) ∙ length-append (posts_in xs) (posts_in ys)

  pub length-post_places : (p : ℕ) (es : List (Entry T)) → length (post_places p es) ≡ length (posts_in es)
  length-post_places p [] = refl
  length-post_places p (Post s n b ∷ es) = let e = length-post_places (p + 1) es in omega arith
  length-post_places p (Cut s k ∷ es) = length-post_places (p + 1) es
  length-post_places p (Shut s ∷ es) = length-post_places (p + 1) es

  pub post_places-append : (p : ℕ) (xs ys : List (Entry T)) → post_places p (xs ++ ys) ≡ post_places p xs ++ post_places (p + length xs) ys
  post_places-append p [] ys = ap (λ q. post_places q ys) (let e : p ≡ p + 0 = omega arith in e)
  post_places-append p (Post s n b ∷ xs) ys = ap (λ l. p ∷ l) (post_places-append (p + 1) xs ys ∙ ap (λ q. post_places (p + 1) xs ++ post_places q ys) (let e : p + 1 + length xs ≡ p + suc (length xs) = omega arith in e))
  post_places-append p (Cut s k ∷ xs) ys = post_places-append (p + 1) xs ys ∙ ap (λ q. post_places (p + 1) xs ++ post_places q ys) (let e : p + 1 + length xs ≡ p + suc (length xs) = omega arith in e)
  post_places-append p (Shut s ∷ xs) ys = post_places-append (p + 1) xs ys ∙ ap (λ q. post_places (p + 1) xs ++ post_places q ys) (let e : p + 1 + length xs ≡ p + suc (length xs) = omega arith in e)

  -- at the place of a post that post stands
  pub record StandsAt (es : List (Entry T)) (k n : ℕ) : Type 0 where
    pub within : k < length es
    pub seat : ℕ
    pub number : ℕ
    pub body : T
    pub is : (d : Entry T) → get_or es k d ≡ Post seat number body
    pub counted : slice_get (posts_in es) n ≡ Some body

  later_post : (e : Entry T) (es : List (Entry T)) (k n m : ℕ) → StandsAt es k n → ((b : T) → slice_get (posts_in es) n ≡ Some b → slice_get (posts_in (e ∷ es)) m ≡ Some b) → StandsAt (e ∷ es) (suc k) m
  later_post e es k n m at counts = record { within = omega (arith, at.within); seat = at.seat; number = at.number; body = at.body; is = at.is; counted = counts at.body at.counted }

  pub post_stands : (p : ℕ) (es : List (Entry T)) (n : ℕ) → n < length (posts_in es) → (k : ℕ) × (get_or (post_places p es) n 0 ≡ p + k) × StandsAt es k n
  post_stands p [] n lt = absurd (omega arith)
  post_stands p (Post s m b ∷ es) zero lt = (0, omega arith, record { within = omega arith; seat = s; number = m; body = b; is = (λ d. refl); counted = refl })
  post_stands p (Post s m b ∷ es) (suc n) lt =
      let t = post_stands (p + 1) es n (omega arith) in (suc t.0, (let f = t.1 in omega arith), later_post (Post s m b) es t.0 n (suc n) t.2 (λ c h. h))
  post_stands p (Cut s m ∷ es) n lt =
      let t = post_stands (p + 1) es n lt in (suc t.0, (let f = t.1 in omega arith), later_post (Cut s m) es t.0 n n t.2 (λ c h. h))
  post_stands p (Shut s ∷ es) n lt =
      let t = post_stands (p + 1) es n lt in (suc t.0, (let f = t.1 in omega arith), later_post (Shut s) es t.0 n n t.2 (λ c h. h))

  -- the same, where the place is looked up
  pub stands_at_place : (es : List (Entry T)) (places : List ℕ) (n place : ℕ) → places ≡ post_places 0 es → n < length (posts_in es) → place ≡ get_or places n place → StandsAt es place n
  stands_at_place es places n place is lt at =
      let t = post_stands 0 es n lt in
      let len = length-post_places 0 es in
      let here : place ≡ get_or (post_places 0 es) n place = at ∙ ap (λ l. get_or l n place) is in
      let same : t.0 ≡ place = omega (arith, t.1, here, get_or_default_zero (post_places 0 es) n place (omega arith)) in
      subst (λ k. StandsAt es k n) same t.2

  -- the body of the entry there is the post's
  pub same_body : (es : List (Entry T)) (k n : ℕ) → StandsAt es k n → (e : Entry T) (s m : ℕ) (b : T) → e ≡ get_or es k e → e ≡ Post s m b → Some b ≡ slice_get (posts_in es) n
  same_body es k n at e s m b here is = let both : Post s m b ≡ Post at.seat at.number at.body = sym is ∙ (here ∙ at.is e) in cc (both, at.counted)

  -- a book with one more entry
  pub with_post : (limits : Limits) (es : List (Entry T)) (room post_room : ℕ) (places : List ℕ) (shut' : Bool) (s n : ℕ) (b : T) (place : ℕ) → place ≡ length es → IsBook limits es room places post_room shut' → length (posts_in es) < limits.posts
      → IsBook limits (es ++ Post s n b ∷ []) room (places ++ place ∷ []) post_room shut'
  with_post limits es room post_room places shut' s n b place is h less =
      let e = Post s n b in
      record {
        posts = (let k = length-posts-append es (e ∷ []) in omega arith);
        cuts = (let k = cuts_in-append es (e ∷ []) in let m = h.cuts in omega arith);
        shuts = (let k = shuts_in-append es (e ∷ []) in let m = h.shuts in omega arith);
        has_room = h.has_room;
        has_post_room = h.has_post_room;
        knows_places = ap (λ l. l ++ place ∷ []) h.knows_places ∙ sym (post_places-append 0 es (e ∷ []) ∙ ap (λ q. post_places 0 es ++ q ∷ []) (let z : 0 + length es ≡ place = omega arith in z));
        knows_shut = h.knows_shut ∙ ap (nat_lt 0) (let k = shuts_in-append es (e ∷ []) in let z : shuts_in es ≡ shuts_in (es ++ e ∷ []) = omega arith in z);
      }

  pub with_cut : (limits : Limits) (es : List (Entry T)) (room post_room : ℕ) (places : List ℕ) (shut' : Bool) (s k : ℕ) → IsBook limits es room places post_room shut' → cuts_in es < limits.cuts
      → IsBook limits (es ++ Cut s k ∷ []) room places post_room shut'
  with_cut limits es room post_room places shut' s k h less =
      let e : Entry T = Cut s k in
      record {
        posts = (let k = length-posts-append es (e ∷ []) in let m = h.posts in omega arith);
        cuts = (let k = cuts_in-append es (e ∷ []) in omega arith);
        shuts = (let k = shuts_in-append es (e ∷ []) in let m = h.shuts in omega arith);
        has_room = h.has_room;
        has_post_room = h.has_post_room;
        knows_places = h.knows_places ∙ sym (post_places-append 0 es (e ∷ []) ∙ append-nil (post_places 0 es));
        knows_shut = h.knows_shut ∙ ap (nat_lt 0) (let k = shuts_in-append es (e ∷ []) in let z : shuts_in es ≡ shuts_in (es ++ e ∷ []) = omega arith in z);
      }

  pub with_shut : (limits : Limits) (es : List (Entry T)) (room post_room : ℕ) (places : List ℕ) (shut' : Bool) (s : ℕ) → IsBook limits es room places post_room shut' → shuts_in es < limits.seats
      → IsBook limits (es ++ Shut s ∷ []) room places post_room true
  with_shut limits es room post_room places shut' s h less =
      let e : Entry T = Shut s in
      record {
        posts = (let k = length-posts-append es (e ∷ []) in let m = h.posts in omega arith);
        cuts = (let k = cuts_in-append es (e ∷ []) in let m = h.cuts in omega arith);
        shuts = (let k = shuts_in-append es (e ∷ []) in omega arith);
        has_room = h.has_room;
        has_post_room = h.has_post_room;
        knows_places = h.knows_places ∙ sym (post_places-append 0 es (e ∷ []) ∙ append-nil (post_places 0 es));
        knows_shut = sym (let k = shuts_in-append es (e ∷ []) in let z : nat_lt 0 (shuts_in (es ++ e ∷ [])) ≡ true = grind (arith, nat_tests) in z);
      }

  -- there is room for one more entry of a kind that is below its limit
  pub has_room : (limits : Limits) (es : List (Entry T)) (room post_room : ℕ) (places : List ℕ) (shut' : Bool) → IsBook limits es room places post_room shut'
      → length (posts_in es) + cuts_in es + shuts_in es < limits.posts + limits.cuts + limits.seats → length es < room
  has_room limits es room post_room places shut' h less = let k = length-by_kind es in let m = h.has_room in omega arith
