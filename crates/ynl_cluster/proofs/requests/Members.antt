-- Members of lists, of their maps, filters and joins.
use Rattle.std.proofs.Common.{◌≡◌, ◌⊎◌, ℕ, zero, suc, Bool, true, false, ◌||◌, cond, List, [], ◌∷◌, ◌++◌, map, filter, flat_map, filter_map, slice_get, Option, None, Some, Contains, inl, inr, refl, sym, ap, subst, ◌∙◌, arith, true≢false}
use Rattle.std.specs.List.{AllByRecursion, cons_option, list_any}
use Rattle.std.proofs.lemmas.Option.{none-some, same_Some}

-- it is one of these
abbrev pub Among : {X : Type 0} → X → List X → Type 0
Among x [] = ⊥
Among x (y ∷ ys) = (y ≡ x) ⊎ Among x ys

-- ---- the same as being contained

pub among-contained : {X : Type 0} (x : X) (xs : List X) → Contains xs x → Among x xs
among-contained x [] there = absurd (omega (arith, there.1))
among-contained x (y ∷ ys) (zero, inside, e) = inl e
among-contained x (y ∷ ys) (suc k, inside, e) = inr (among-contained x ys (k, omega (arith, inside), e))

pub contained-among : {X : Type 0} (x : X) (xs : List X) → Among x xs → Contains xs x
contained-among x [] there = absurd there
contained-among x (y ∷ ys) (inl e) = (0, omega arith, e)
contained-among x (y ∷ ys) (inr there) = let at = contained-among x ys there in (suc at.0, omega (arith, at.1), at.2)

-- ---- maps and filters

pub map-among : {X Y : Type 0} (f : X → Y) (x : X) (xs : List X) → Among x xs → Among (f x) (map f xs)
map-among f x [] there = absurd there
map-among f x (y ∷ ys) (inl e) = inl (ap f e)
map-among f x (y ∷ ys) (inr there) = inr (map-among f x ys there)

pub among-map : {X Y : Type 0} (f : X → Y) (y : Y) (xs : List X) → Among y (map f xs) → (x : X) × Among x xs × (f x ≡ y)
among-map f y [] there = absurd there
among-map f y (x ∷ xs) (inl e) = (x, inl refl, e)
among-map f y (x ∷ xs) (inr there) = let at = among-map f y xs there in (at.0, inr at.1, at.2)

pub filter-among : {X : Type 0} (p : X → Bool) (x : X) (xs : List X) → p x ≡ true → Among x xs → Among x (filter p xs)
filter-among p x [] passes there = absurd there
filter-among {X = X} p x (y ∷ ys) passes there = go (p y) refl there (filter-among p x ys passes)
  where
    go : (b : Bool) → p y ≡ b → (y ≡ x) ⊎ Among x ys → (Among x ys → Among x (filter p ys)) → Among x (cond b (y ∷ filter p ys) (filter p ys))
    go true e (inl same) rest = inl same
    go true e (inr there) rest = inr (rest there)
    go false e (inl same) rest = absurd (true≢false (sym passes ∙ ap p (sym same) ∙ e))
    go false e (inr there) rest = rest there

pub among-filter : {X : Type 0} (p : X → Bool) (x : X) (xs : List X) → Among x (filter p xs) → Among x xs × (p x ≡ true)
among-filter p x [] there = absurd there
among-filter {X = X} p x (y ∷ ys) there = go (p y) refl there (among-filter p x ys)
  where
    go : (b : Bool) → p y ≡ b → Among x (cond b (y ∷ filter p ys) (filter p ys)) → (Among x (filter p ys) → Among x ys × (p x ≡ true)) → Among x (y ∷ ys) × (p x ≡ true)
    go true e (inl same) rest = (inl same, ap p (sym same) ∙ e)
    go true e (inr there) rest = let at = rest there in (inr at.0, at.1)
    go false e there rest = let at = rest there in (inr at.0, at.1)

-- ---- joins

pub left-among : {X : Type 0} (x : X) (xs ys : List X) → Among x xs → Among x (xs ++ ys)
left-among x [] ys there = absurd there
left-among x (y ∷ xs) ys (inl e) = inl e
left-among x (y ∷ xs) ys (inr there) = inr (left-among x xs ys there)

pub right-among : {X : Type 0} (x : X) (xs ys : List X) → Among x ys → Among x (xs ++ ys)
right-among x [] ys there = there
right-among x (y ∷ xs) ys there = inr (right-among x xs ys there)

pub among-either : {X : Type 0} (x : X) (xs ys : List X) → Among x (xs ++ ys) → Among x xs ⊎ Among x ys
among-either x [] ys there = inr there
among-either x (y ∷ xs) ys (inl e) = inl (inl e)
among-either {X = X} x (y ∷ xs) ys (inr there) = go (among-either x xs ys there)
  where
    go : Among x xs ⊎ Among x ys → Among x (y ∷ xs) ⊎ Among x ys
    go (inl at) = inl (inr at)
    go (inr at) = inr at

pub flat-among : {X Y : Type 0} (f : X → List Y) (x : X) (y : Y) (xs : List X) → Among x xs → Among y (f x) → Among y (flat_map f xs)
flat-among f x y [] there own = absurd there
flat-among f x y (z ∷ zs) (inl e) own = left-among y (f z) (flat_map f zs) (subst (λ w. Among y (f w)) (sym e) own)
flat-among f x y (z ∷ zs) (inr there) own = right-among y (f z) (flat_map f zs) (flat-among f x y zs there own)

pub among-flat : {X Y : Type 0} (f : X → List Y) (y : Y) (xs : List X) → Among y (flat_map f xs) → (x : X) × Among x xs × Among y (f x)
among-flat f y [] there = absurd there
among-flat {X = X} f y (x ∷ xs) there = go (among-either y (f x) (flat_map f xs) there) (among-flat f y xs)
  where
    go : Among y (f x) ⊎ Among y (flat_map f xs) → (Among y (flat_map f xs) → (w : X) × Among w xs × Among y (f w)) → (w : X) × Among w (x ∷ xs) × Among y (f w)
    go (inl own) further = (x, inl refl, own)
    go (inr rest) further = let at = further rest in (at.0, inr at.1, at.2)

pub chosen-among : {X Y : Type 0} (f : X → Option Y) (x : X) (y : Y) (xs : List X) → Among x xs → f x ≡ Some y → Among y (filter_map f xs)
chosen-among f x y [] there is = absurd there
chosen-among f x y (z ∷ zs) (inl e) is = subst (λ o. Among y (cons_option o (filter_map f zs))) (sym (ap f e ∙ is)) (inl refl)
chosen-among {Y = Y} f x y (z ∷ zs) (inr there) is = go (f z) (chosen-among f x y zs there is)
  where
    go : (o : Option Y) → Among y (filter_map f zs) → Among y (cons_option o (filter_map f zs))
    go None at = at
    go (Some w) at = inr at

pub among-chosen : {X Y : Type 0} (f : X → Option Y) (y : Y) (xs : List X) → Among y (filter_map f xs) → (x : X) × Among x xs × (f x ≡ Some y)
among-chosen f y [] there = absurd there
among-chosen {X = X} {Y = Y} f y (x ∷ xs) there = go (f x) refl there (among-chosen f y xs)
  where
    go : (o : Option Y) → f x ≡ o → Among y (cons_option o (filter_map f xs)) → (Among y (filter_map f xs) → (w : X) × Among w xs × (f w ≡ Some y)) → (w : X) × Among w (x ∷ xs) × (f w ≡ Some y)
    go None e there rest = let at = rest there in (at.0, inr at.1, at.2)
    go (Some w) e (inl same) rest = (x, inl refl, e ∙ ap (λ z. Some z) same)
    go (Some w) e (inr there) rest = let at = rest there in (at.0, inr at.1, at.2)

-- ---- what holds of each, of some, and in a place

pub each-among : {X : Type 0} (P : X → Type 0) (x : X) (xs : List X) → AllByRecursion P xs → Among x xs → P x
each-among P x [] all there = absurd there
each-among P x (y ∷ ys) all (inl e) = subst P e all.0
each-among P x (y ∷ ys) all (inr there) = each-among P x ys all.1 there

pub any-among : {X : Type 0} (p : X → Bool) (xs : List X) → list_any p xs ≡ true → (x : X) × Among x xs × (p x ≡ true)
any-among p [] h = absurd (true≢false (sym h))
any-among {X = X} p (x ∷ xs) h = go (p x) refl h (any-among p xs)
  where
    go : (b : Bool) → p x ≡ b → (b || list_any p xs) ≡ true → (list_any p xs ≡ true → (w : X) × Among w xs × (p w ≡ true)) → (w : X) × Among w (x ∷ xs) × (p w ≡ true)
    go true e h rest = (x, inl refl, e)
    go false e h rest = let at = rest h in (at.0, inr at.1, at.2)

pub any-agree : {X : Type 0} (p q : X → Bool) (xs : List X) → AllByRecursion (λ x. p x ≡ q x) xs → list_any p xs ≡ list_any q xs
any-agree p q [] same = refl
any-agree p q (x ∷ xs) same = λ i. same.0 i || any-agree p q xs same.1 i

pub any-map : {X Y : Type 0} (f : X → Y) (p : Y → Bool) (xs : List X) → list_any p (map f xs) ≡ list_any (λ x. p (f x)) xs
any-map f p [] = refl
any-map f p (x ∷ xs) = ap (λ b. p (f x) || b) (any-map f p xs)

pub place-among : {X : Type 0} (i : ℕ) (x : X) (xs : List X) → slice_get xs i ≡ Some x → Among x xs
place-among i x [] at = absurd (none-some x at)
place-among zero x (y ∷ ys) at = inl (same_Some y x at)
place-among (suc i) x (y ∷ ys) at = inr (place-among i x ys at)
