-- What is gathered from the elements of a list that pass a test, one element after another.
use Rattle.std.proofs.Common.{◌≡◌, ℕ, ◌+◌, ◌<◌, Bool, true, false, cond, List, [], ◌∷◌, ◌++◌, length, get_or, take, map, sym, ap, ◌∙◌, append-nil}
use Rattle.std.specs.List.{filter}
use Rattle.std.proofs.lemmas.List.{map_push}
use Rattle.std.proofs.lemmas.List.Elements.{filter_more}

-- the element passes, and what is gathered of it comes last
pub gathered : {X Y : Type 0} (f : X → ℕ) (g : Y → ℕ) (p : Y → Bool) (xs : List X) (ys : List Y) (i : ℕ) (x : X) (y : Y)
    → i < length ys → y ≡ get_or ys i y → p y ≡ true → f x ≡ g y → map f xs ≡ map g (filter p (take i ys)) → map f (xs ++ x ∷ []) ≡ map g (filter p (take (i + 1) ys))
gathered f g p xs ys i x y inside read passes same before =
    let more : filter p (take (i + 1) ys) ≡ filter p (take i ys) ++ y ∷ [] = filter_more p ys i y inside ∙ ap (λ z. filter p (take i ys) ++ cond (p z) (z ∷ []) []) (sym read) ∙ ap (λ b. filter p (take i ys) ++ cond b (y ∷ []) []) passes in
    map_push f xs x ∙ (λ k. before k ++ same k ∷ []) ∙ sym (map_push g (filter p (take i ys)) y) ∙ ap (map g) (sym more)

-- the element does not pass
pub passed_over : {Y : Type 0} (p : Y → Bool) (ys : List Y) (i : ℕ) (y : Y) → i < length ys → y ≡ get_or ys i y → p y ≡ false → filter p (take (i + 1) ys) ≡ filter p (take i ys)
passed_over p ys i y inside read fails =
    filter_more p ys i y inside
    ∙ ap (λ z. filter p (take i ys) ++ cond (p z) (z ∷ []) []) (sym read)
    ∙ ap (λ b. filter p (take i ys) ++ cond b (y ∷ []) []) fails
    ∙ append-nil (filter p (take i ys))
