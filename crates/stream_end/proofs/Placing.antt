-- Where rows stand by their keys when one comes or goes.
use Rattle.std.proofs.Common.{◌≡◌, ◌∙◌, ℕ, ℤ, List, None, pos, true, ap}
use Rattle.std.specs.FinMap as finmap
use Rattle.tuple_store.specs.View.{StoreView}
use Rattle.stream_index.specs.View.{IndexView, Standing, standing}
use Rattle.stream_heads.specs.Standing.{IsPlaced, KeepsBase}
use Rattle.stream_heads.proofs.Standings.{came_and_went, placed_again, placed_more}
use Rattle.stream_end.specs.Keys.{Becomes, put_at}

-- an index that took a place in and let it go again has what it had
pub taken_out : (old between new : IndexView) (place : ℕ) (at : Standing) → finmap.get old.now place ≡ None
    → between.now ≡ finmap.insert old.now place at → (old.is_open ≡ true → between.base ≡ old.base) → between.is_open ≡ old.is_open
    → new.now ≡ finmap.remove between.now place → (between.is_open ≡ true → new.base ≡ between.base) → new.is_open ≡ between.is_open
    → Becomes old new old.now
taken_out old between new place at free put kept stays killed keeps stays_on = record {
  now = came_and_went old.now between.now new.now place at free put killed;
  base = λ is. keeps (stays ∙ is) ∙ kept is;
  opened = stays_on ∙ stays;
}

module _ {X : Type 0} (key : X → List ℤ) (things later : StoreView X) (index after : IndexView) where
  -- a thing that came stands by its key
  pub placed_in : (place : ℕ) (x : X) (numbers : List ℤ) → IsPlaced key things index → later.now ≡ finmap.insert things.now place x → KeepsBase things later
      → Becomes index after (put_at place numbers index.now) → numbers ≡ key x → IsPlaced key later after
  placed_in place x numbers is came keeps becomes same =
      placed_more key things later index after place x (standing numbers (pos 0)) is came keeps becomes.now becomes.base becomes.opened (ap (λ (k : List ℤ). standing k (pos 0)) same)

  -- where an index has what it had, and so have the things, they stand as they stood
  pub placed_as_before : IsPlaced key things index → later.now ≡ things.now → KeepsBase things later → Becomes index after index.now → IsPlaced key later after
  placed_as_before is same keeps becomes =
      let i = placed_again key things later index is same keeps in
      record {
        now = rw becomes.now i.now;
        base = λ o. rw (becomes.base (i.opened ∙ o)) (i.base o);
        opened = becomes.opened ∙ i.opened;
      }
