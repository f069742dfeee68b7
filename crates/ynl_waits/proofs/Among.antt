-- What is among the elements of a list, and of one that is filtered, mapped, joined or flattened.
use Rattle.std.proofs.Common.{◌≡◌, ◌⊎◌, inl, inr, not, ◌||◌, ◌==◌, Bool, true, false, cond, List, [], ◌∷◌, ◌++◌, length, map, filter, find, Some, refl, sym, ap, subst, ◌∙◌, rules}
use Rattle.std.specs.Prelude.{flat_map}
use Rattle.std.specs.List.{AllByRecursion, Contains, list_any}
use Rattle.std.proofs.lemmas.Bool.{or_left, or_right}
use Rattle.std.proofs.lemmas.List.Elements.{All-contains}
use Rattle.std.proofs.lemmas.List.Folds.{list_any-append}
use mathlib.Core.Bool.{true≢false}
use Rattle.ynl_laws.proofs.Lists.{Each-weaker, all-of, each-contained}
use Rattle.ynl_laws.proofs.Logic.{some-same}

-- an element is among these
abbrev pub IsAmong : {X : Type 0} → X → List X → Type 0
IsAmong {X} y [] = ⊥
IsAmong {X} y (x ∷ xs) = (x ≡ y) ⊎ IsAmong y xs

-- what holds of each holds of one of them
pub among-each : {X : Type 0} (P : X → Type 0) (y : X) (xs : List X) → AllByRecursion P xs → IsAmong y xs → P y
among-each P y [] h k = absurd k
among-each P y (x ∷ xs) h (inl e) = subst P e h.0
among-each P y (x ∷ xs) h (inr k) = among-each P y xs h.1 k

pub each-among : {X : Type 0} (xs : List X) → AllByRecursion (λ x. IsAmong x xs) xs
each-among [] = tt
each-among (x ∷ xs) = (inl refl, Each-weaker (λ y. IsAmong y xs) (λ y. IsAmong y (x ∷ xs)) (λ y k. inr k) xs (each-among xs))

pub among-contained : {X : Type 0} (y : X) (xs : List X) → IsAmong y xs → Contains xs y
among-contained y xs k = among-each (Contains xs) y xs (each-contained xs) k

pub contained-among : {X : Type 0} (y : X) (xs : List X) → Contains xs y → IsAmong y xs
contained-among y xs there = All-contains (λ x. IsAmong x xs) xs y (all-of (λ x. IsAmong x xs) xs (each-among xs)) there

-- ---- lists made of others

pub among-left : {X : Type 0} (y : X) (xs ys : List X) → IsAmong y xs → IsAmong y (xs ++ ys)
among-left y [] ys k = absurd k
among-left y (x ∷ xs) ys (inl e) = inl e
among-left y (x ∷ xs) ys (inr k) = inr (among-left y xs ys k)

pub among-right : {X : Type 0} (y : X) (xs ys : List X) → IsAmong y ys → IsAmong y (xs ++ ys)
among-right y [] ys k = k
among-right y (x ∷ xs) ys k = inr (among-right y xs ys k)

pub among-map : {X Y : Type 0} (f : X → Y) (y : X) (xs : List X) → IsAmong y xs → IsAmong (f y) (map f xs)
among-map f y [] k = k
among-map f y (x ∷ xs) (inl e) = inl (ap f e)
among-map f y (x ∷ xs) (inr k) = inr (among-map f y xs k)

pub among-filter : {X : Type 0} (p : X → Bool) (y : X) (xs : List X) → p y ≡ true → IsAmong y xs → IsAmong y (filter p xs)
among-filter p y [] on k = k
among-filter {X = X} p y (x ∷ xs) on k = go (p x) refl k (among-filter p y xs on)
  where
    go : (b : Bool) → p x ≡ b → (x ≡ y) ⊎ IsAmong y xs → (IsAmong y xs → IsAmong y (filter p xs)) → IsAmong y (cond b (x ∷ filter p xs) (filter p xs))
    go true e (inl same) rest = inl same
    go true e (inr k) rest = inr (rest k)
    go false e (inl same) rest = absurd (true≢false (sym on ∙ sym (ap p same) ∙ e))
    go false e (inr k) rest = rest k

pub among-found : {X : Type 0} (p : X → Bool) (y : X) (xs : List X) → find p xs ≡ Some y → IsAmong y xs
among-found p y [] e = absurd (cc)
among-found {X = X} p y (x ∷ xs) e = go (p x) e (among-found p y xs)
  where
    go : (b : Bool) → cond b (Some x) (find p xs) ≡ Some y → (find p xs ≡ Some y → IsAmong y xs) → (x ≡ y) ⊎ IsAmong y xs
    go true e rest = inl (some-same x y (Some x) refl e)
    go false e rest = inr (rest e)

pub among-flat : {X Y : Type 0} (f : X → List Y) (z : Y) (y : X) (xs : List X) → IsAmong y xs → IsAmong z (f y) → IsAmong z (flat_map f xs)
among-flat f z y [] k m = absurd k
among-flat f z y (x ∷ xs) (inl e) m = among-left z (f x) (flat_map f xs) (subst (λ w. IsAmong z (f w)) (sym e) m)
among-flat f z y (x ∷ xs) (inr k) m = among-right z (f x) (flat_map f xs) (among-flat f z y xs k m)

-- ---- lists that are not empty

pub not-empty : {X : Type 0} (y : X) (xs : List X) → IsAmong y xs → not (length xs == 0) ≡ true
not-empty y [] k = absurd k
not-empty y (x ∷ xs) k = search rules

-- what passes a test that any passes
pub any-among : {X : Type 0} (p : X → Bool) (xs : List X) → list_any p xs ≡ true → (x : X) × IsAmong x (filter p xs)
any-among p [] h = absurd (true≢false (sym h))
any-among {X = X} p (x ∷ xs) h = go (p x) h (any-among p xs)
  where
    go : (b : Bool) → (b || list_any p xs) ≡ true → (list_any p xs ≡ true → (y : X) × IsAmong y (filter p xs)) → (y : X) × IsAmong y (cond b (x ∷ filter p xs) (filter p xs))
    go true h rest = (x, inl refl)
    go false h rest = rest h

pub any-left : {X : Type 0} (p : X → Bool) (xs ys : List X) → list_any p xs ≡ true → list_any p (xs ++ ys) ≡ true
any-left p xs ys h = list_any-append p xs ys ∙ or_left (list_any p xs) (list_any p ys) h

pub any-right : {X : Type 0} (p : X → Bool) (xs ys : List X) → list_any p ys ≡ true → list_any p (xs ++ ys) ≡ true
any-right p xs ys h = list_any-append p xs ys ∙ or_right (list_any p xs) (list_any p ys) h

pub any-flat : {X Y : Type 0} (p : Y → Bool) (f : X → List Y) (y : X) (xs : List X) → IsAmong y xs → list_any p (f y) ≡ true → list_any p (flat_map f xs) ≡ true
any-flat p f y [] k h = absurd k
any-flat p f y (x ∷ xs) (inl e) h = any-left p (f x) (flat_map f xs) (ap (λ w. list_any p (f w)) e ∙ h)
any-flat p f y (x ∷ xs) (inr k) h = any-right p (f x) (flat_map f xs) (any-flat p f y xs k h)
