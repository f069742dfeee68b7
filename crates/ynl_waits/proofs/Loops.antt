-- One more turn of a loop that adds to a list: the list is what was there before, and what comes of the items so far.
use Rattle.std.proofs.Common.{◌≡◌, ℕ, ◌+◌, ◌<◌, ◌≤◌, Bool, cond, List, [], ◌∷◌, ◌++◌, length, get_or, take, take_all, filter, sym, ap, ◌∙◌}
use Rattle.std.specs.Prelude.{flat_map}
use Rattle.std.proofs.lemmas.List.{append_assoc, flat_map_more, take_more}
use Rattle.std.proofs.lemmas.List.Elements.{filter_more}

-- what comes of the item is added
pub added : {X Y : Type 0} (f : X → List Y) (front : List Y) (xs : List X) (i : ℕ) (x : X) (old new : List Y) → i < length xs → x ≡ get_or xs i x → old ≡ front ++ flat_map f (take i xs) → new ≡ old ++ f x →
    new ≡ front ++ flat_map f (take (i + 1) xs)
added f front xs i x old new lt is before now =
    now ∙ ap (λ t. t ++ f x) before ∙ flat_map_more f front (take i xs) x
    ∙ ap (λ t. front ++ flat_map f t) (sym (take_more xs i x lt ∙ ap (λ y. take i xs ++ y ∷ []) (sym is)))

-- and at the end what comes of all items
pub all-added : {X Y : Type 0} (f : X → List Y) (front : List Y) (xs : List X) (i : ℕ) (now : List Y) → length xs ≤ i → now ≡ front ++ flat_map f (take i xs) → now ≡ front ++ flat_map f xs
all-added f front xs i now past is = is ∙ ap (λ t. front ++ flat_map f t) (take_all i xs past)

-- the item is added where it passes a test, of which this is the result
pub kept : {X : Type 0} (p : X → Bool) (front xs : List X) (i : ℕ) (x : X) (old new : List X) → i < length xs → x ≡ get_or xs i x → old ≡ front ++ filter p (take i xs) →
    (b : Bool) → p x ≡ b → new ≡ old ++ cond b (x ∷ []) [] → new ≡ front ++ filter p (take (i + 1) xs)
kept p front xs i x old new lt is before b test now =
    now ∙ ap (λ t. t ++ cond b (x ∷ []) []) before ∙ append_assoc front (filter p (take i xs)) (cond b (x ∷ []) [])
    ∙ ap (λ c. front ++ (filter p (take i xs) ++ cond c (x ∷ []) [])) (sym test)
    ∙ ap (λ t. front ++ t) (sym (filter_more p xs i x lt ∙ ap (λ y. filter p (take i xs) ++ cond (p y) (y ∷ []) []) (sym is)))
