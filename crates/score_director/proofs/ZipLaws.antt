-- What holds of two lists place by place holds of their first members, and of the others.
use Rattle.std.proofs.Common.{◌≡◌, List, [], ◌∷◌, subst, sym}
use Rattle.std.specs.List.{AllZip}

pub zip_first : {X Y : Type 0} (R : X → Y → Type 0) (xs xs' : List X) (x : X) (ys ys' : List Y) (y : Y) → xs ≡ x ∷ xs' → ys ≡ y ∷ ys' → AllZip R xs ys → R x y
zip_first R xs xs' x ys ys' y is are all = (subst (λ zs. AllZip R (x ∷ xs') zs) are (subst (λ zs. AllZip R zs ys) is all)).0

pub zip_rest : {X Y : Type 0} (R : X → Y → Type 0) (xs xs' : List X) (x : X) (ys ys' : List Y) (y : Y) → xs ≡ x ∷ xs' → ys ≡ y ∷ ys' → AllZip R xs ys → AllZip R xs' ys'
zip_rest R xs xs' x ys ys' y is are all = (subst (λ zs. AllZip R (x ∷ xs') zs) are (subst (λ zs. AllZip R zs ys) is all)).1

pub zip_none : {X Y : Type 0} (R : X → Y → Type 0) (xs xs' : List X) (x : X) (ys : List Y) → xs ≡ x ∷ xs' → ys ≡ [] → AllZip R xs ys → ⊥
zip_none R xs xs' x ys is none all = subst (λ zs. AllZip R (x ∷ xs') zs) none (subst (λ zs. AllZip R zs ys) is all)

pub zip_cons : {X Y : Type 0} (R : X → Y → Type 0) (xs xs' : List X) (x : X) (ys' : List Y) (y : Y) → xs ≡ x ∷ xs' → R x y → AllZip R xs' ys' → AllZip R xs (y ∷ ys')
zip_cons R xs xs' x ys' y is one others = subst (λ zs. AllZip R zs (y ∷ ys')) (sym is) (one, others)
