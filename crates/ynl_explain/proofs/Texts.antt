-- Lists that grow piece by piece.
use Rattle.std.proofs.Common.{◌≡◌, ℕ, ◌+◌, ◌<◌, ◌≤◌, List, [], ◌∷◌, ◌++◌, length, get_or, take, sym, ap, ◌∙◌, append_assoc}
use Rattle.std.specs.List.{flat_map}
use Rattle.std.proofs.lemmas.List.{take_more, take_all, flat_map_more}

-- a second piece behind a first one
pub after : {A : Type 0} (t u a b : List A) → u ≡ t ++ a → u ++ b ≡ t ++ (a ++ b)
after {A} t u a b e = ap (λ (x : List A). x ++ b) e ∙ append_assoc t a b

-- the piece of one item more
pub one-more : {X A : Type 0} (f : X → List A) (before t u : List A) (xs : List X) (i : ℕ) (x : X) → i < length xs → x ≡ get_or xs i x → t ≡ before ++ flat_map f (take i xs) → u ≡ t ++ f x
    → u ≡ before ++ flat_map f (take (i + 1) xs)
one-more {X} {A} f before t u xs i x inside at so_far e =
    let more : take (i + 1) xs ≡ take i xs ++ x ∷ [] = take_more xs i x inside ∙ ap (λ y. take i xs ++ y ∷ []) (sym at) in
    e ∙ ap (λ (l : List A). l ++ f x) so_far ∙ flat_map_more f before (take i xs) x ∙ sym (ap (λ (l : List X). before ++ flat_map f l) more)

-- the pieces of all items
pub all-of : {X A : Type 0} (f : X → List A) (before t : List A) (xs : List X) (i : ℕ) → length xs ≤ i → t ≡ before ++ flat_map f (take i xs) → t ≡ before ++ flat_map f xs
all-of {X} f before t xs i past so_far = so_far ∙ ap (λ (l : List X). before ++ flat_map f l) (take_all i xs past)
