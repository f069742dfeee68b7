-- Lists that are mapped first.
use Rattle.std.proofs.Common.{◌≡◌, ◌+◌, List, [], ◌∷◌, ◌++◌, map, length, get_or, refl, ap, ◌∙◌, arith}
use Rattle.std.specs.List.{flat_map}
use Rattle.std.specs.List.Sorted.{IsSorted, IsSortedBy}
use Rattle.std.specs.declared.cmp.Ordering.{Ordering}
use Rattle.std.specs.Ordering.{is_lt}
use Rattle.std.proofs.lemmas.List.{get_or-map, length-map}

pub flat_map-map : {X Y Z : Type 0} (f : Y → List Z) (g : X → Y) (xs : List X) → flat_map f (map g xs) ≡ flat_map (λ x. f (g x)) xs
flat_map-map f g [] = refl
flat_map-map f g (x ∷ xs) = ap (λ ys. f (g x) ++ ys) (flat_map-map f g xs)

-- a list that is sorted by what a function gives is mapped to a sorted one
pub sorted-map : {X Y : Type 0} (g : X → Y) (cmp : Y → Y → Ordering) (xs : List X) → IsSortedBy (λ a b. is_lt (cmp (g a) (g b))) xs → IsSorted cmp (map g xs)
sorted-map g cmp [] sorted = λ k d _ inside. absurd (omega arith)
sorted-map g cmp (x ∷ xs) sorted = λ k d low inside.
    let len : length (map g (x ∷ xs)) ≡ length (x ∷ xs) = length-map (x ∷ xs) g in
    let second : get_or (map g (x ∷ xs)) (k + 1) d ≡ g (get_or (x ∷ xs) (k + 1) x) = get_or-map g (x ∷ xs) (k + 1) x d (omega arith) in
    let first : get_or (map g (x ∷ xs)) k d ≡ g (get_or (x ∷ xs) k x) = get_or-map g (x ∷ xs) k x d (omega arith) in
    ap (λ y. is_lt (cmp y (get_or (map g (x ∷ xs)) k d))) second ∙ ap (λ y. is_lt (cmp (g (get_or (x ∷ xs) (k + 1) x)) y)) first ∙ sorted k x (omega arith) (omega arith)
