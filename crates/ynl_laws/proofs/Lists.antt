-- Lists: what holds of each element, and what filters, finds, maps and updates leave of it.
use Rattle.std.proofs.Common.{zero, suc, ◌≡◌, ◌<◌, ℕ, not, ◌&&◌, Bool, true, false, cond, ◌||◌, List, [], ◌∷◌, ◌++◌, map, Option, Some, None, option_map, filter, find, fold, refl, sym, ap, subst, ◌∙◌, arith}
use Rattle.std.specs.Prelude.{flat_map, IfSome, All, if◌then◌else◌, ◌+◌}
use Rattle.std.specs.List.{AllByRecursion, AllPairs, Contains, list_any, list_all, prefix_len}
use Rattle.std.proofs.lemmas.Bool.{and_from, and_parts}
use Rattle.std.proofs.lemmas.List.Folds.{list_all-append}
use mathlib.Core.Bool.{true≢false}
use Rattle.ynl_resource.specs.Tables.{update, put}
use Rattle.ynl_laws.specs.Working.{Pairs}
use Rattle.std.proofs.lemmas.List.Kept.{AllPairs-cons}

-- ---- each element

-- each element of a list, kept by what makes lists of lists
pub Each-filter : {X : Type 0} (P : X → Type 0) (p : X → Bool) (xs : List X) → AllByRecursion P xs → AllByRecursion P (filter p xs)
Each-filter P p [] h = tt
Each-filter P p (x ∷ xs) h = go (p x) (Each-filter P p xs h.1)
  where
    go : (b : Bool) → AllByRecursion P (filter p xs) → AllByRecursion P (cond b (x ∷ filter p xs) (filter p xs))
    go true rest = (h.0, rest)
    go false rest = rest

pub Each-append : {X : Type 0} (P : X → Type 0) (xs ys : List X) → AllByRecursion P xs → AllByRecursion P ys → AllByRecursion P (xs ++ ys)
Each-append P [] ys h k = k
Each-append P (x ∷ xs) ys h k = (h.0, Each-append P xs ys h.1 k)

pub Each-split : {X : Type 0} (P : X → Type 0) (xs ys : List X) → AllByRecursion P (xs ++ ys) → AllByRecursion P xs × AllByRecursion P ys
Each-split P [] ys h = (tt, h)
Each-split P (x ∷ xs) ys h = let rest = Each-split P xs ys h.1 in ((h.0, rest.0), rest.1)

pub Each-map : {X Y : Type 0} (P : X → Type 0) (Q : Y → Type 0) (f : X → Y) → ((x : X) → P x → Q (f x)) → (xs : List X) → AllByRecursion P xs → AllByRecursion Q (map f xs)
Each-map P Q f step [] h = tt
Each-map P Q f step (x ∷ xs) h = (step x h.0, Each-map P Q f step xs h.1)

pub Each-unmap : {X Y : Type 0} (f : X → Y) (P : Y → Type 0) (xs : List X) → AllByRecursion P (map f xs) → AllByRecursion (λ x. P (f x)) xs
Each-unmap f P [] h = tt
Each-unmap f P (x ∷ xs) h = (h.0, Each-unmap f P xs h.1)

-- what holds of each holds at each index
pub all-of : {X : Type 0} (P : X → Type 0) (xs : List X) → AllByRecursion P xs → All P xs
all-of P [] h k d below = absurd (grind (arith, below))
all-of P (x ∷ xs) h zero d below = h.0
all-of P (x ∷ xs) h (suc k) d below = all-of P xs h.1 k d (grind (arith, below))

pub Each-all : {X : Type 0} (P : X → Type 0) → ((x : X) → P x) → (xs : List X) → AllByRecursion P xs
Each-all P all [] = tt
Each-all P all (x ∷ xs) = (all x, Each-all P all xs)

pub Each-flat : {X Y : Type 0} (P : X → Type 0) (Q : Y → Type 0) (f : X → List Y) → ((x : X) → P x → AllByRecursion Q (f x)) → (xs : List X) → AllByRecursion P xs → AllByRecursion Q (flat_map f xs)
Each-flat P Q f step [] h = tt
Each-flat P Q f step (x ∷ xs) h = Each-append Q (f x) (flat_map f xs) (step x h.0) (Each-flat P Q f step xs h.1)

pub Each-kept : {X : Type 0} (P : X → Type 0) (p : X → Bool) (xs : List X) → AllByRecursion (λ x. p x ≡ true → P x) xs → AllByRecursion P (filter p xs)
Each-kept P p [] h = tt
Each-kept P p (x ∷ xs) h = go (p x) refl (Each-kept P p xs h.1)
  where
    go : (b : Bool) → p x ≡ b → AllByRecursion P (filter p xs) → AllByRecursion P (cond b (x ∷ filter p xs) (filter p xs))
    go true e rest = (h.0 e, rest)
    go false e rest = rest

-- what holds of what a filter leaves holds of each that it passes
pub Each-unkept : {X : Type 0} (P : X → Type 0) (p : X → Bool) (xs : List X) → AllByRecursion P (filter p xs) → AllByRecursion (λ x. p x ≡ true → P x) xs
Each-unkept P p [] h = tt
Each-unkept P p (x ∷ xs) h = go (p x) refl h (Each-unkept P p xs)
  where
    go : (b : Bool) → p x ≡ b → AllByRecursion P (cond b (x ∷ filter p xs) (filter p xs)) → (AllByRecursion P (filter p xs) → AllByRecursion (λ x. p x ≡ true → P x) xs) → (p x ≡ true → P x) × AllByRecursion (λ x. p x ≡ true → P x) xs
    go true e h rest = (λ f. h.0, rest h.1)
    go false e h rest = (λ f. absurd (true≢false (sym f ∙ e)), rest h)

pub Each-weaker : {X : Type 0} (P Q : X → Type 0) → ((x : X) → P x → Q x) → (xs : List X) → AllByRecursion P xs → AllByRecursion Q xs
Each-weaker P Q step [] h = tt
Each-weaker P Q step (x ∷ xs) h = (step x h.0, Each-weaker P Q step xs h.1)

pub filter-passes : {X : Type 0} (p : X → Bool) (xs : List X) → AllByRecursion (λ x. p x ≡ true) (filter p xs)
filter-passes p xs = Each-kept (λ x. p x ≡ true) p xs (Each-all (λ x. p x ≡ true → p x ≡ true) (λ x h. h) xs)

pub Each-both : {X : Type 0} (P Q : X → Type 0) (xs : List X) → AllByRecursion P xs → AllByRecursion Q xs → AllByRecursion (λ x. P x × Q x) xs
Each-both P Q [] h k = tt
Each-both P Q (x ∷ xs) h k = ((h.0, k.0), Each-both P Q xs h.1 k.1)

pub Each-with : {X : Type 0} (P Q R : X → Type 0) → ((x : X) → P x → Q x → R x) → (xs : List X) → AllByRecursion P xs → AllByRecursion Q xs → AllByRecursion R xs
Each-with P Q R step [] h k = tt
Each-with P Q R step (x ∷ xs) h k = (step x h.0 k.0, Each-with P Q R step xs h.1 k.1)

pub Each-find : {X : Type 0} (P : X → Type 0) (q : X → Bool) (xs : List X) → AllByRecursion P xs → (x : X) → find q xs ≡ Some x → P x × (q x ≡ true)
Each-find P q [] h x e = cc
Each-find P q (y ∷ ys) h x e = go (q y) refl e (Each-find P q ys h.1 x)
  where
    go : (b : Bool) → q y ≡ b → cond b (Some y) (find q ys) ≡ Some x → (find q ys ≡ Some x → P x × (q x ≡ true)) → P x × (q x ≡ true)
    go true at e rest = let same : y ≡ x = cc in (subst P same h.0, ap q (sym same) ∙ at)
    go false at e rest = rest e

-- what is found in a list has what each has
pub Each-found : {X : Type 0} (P : X → Type 0) (q : X → Bool) (xs : List X) → AllByRecursion P xs → IfSome (find q xs) P
Each-found P q [] h = tt
Each-found P q (x ∷ xs) h = go (q x) (Each-found P q xs h.1)
  where
    go : (b : Bool) → IfSome (find q xs) P → IfSome (cond b (Some x) (find q xs)) P
    go true rest = h.0
    go false rest = rest

-- what is found passes the test
pub found-passes : {X : Type 0} (q : X → Bool) (xs : List X) → IfSome (find q xs) (λ x. q x ≡ true)
found-passes q [] = tt
found-passes q (x ∷ xs) = go (q x) refl (found-passes q xs)
  where
    go : (b : Bool) → q x ≡ b → IfSome (find q xs) (λ y. q y ≡ true) → IfSome (cond b (Some x) (find q xs)) (λ y. q y ≡ true)
    go true e rest = e
    go false e rest = rest

-- a test of all elements, and what it says of each
pub each-of : {X : Type 0} (f : X → Bool) (xs : List X) → list_all f xs ≡ true → AllByRecursion (λ x. f x ≡ true) xs
each-of f [] h = tt
each-of f (x ∷ xs) h = ((and_parts (f x) _ h).0, each-of f xs (and_parts (f x) _ h).1)

pub all-each : {X : Type 0} (f : X → Bool) (xs : List X) → AllByRecursion (λ x. f x ≡ true) xs → list_all f xs ≡ true
all-each f [] h = refl
all-each f (x ∷ xs) h = and_from _ _ h.0 (all-each f xs h.1)

-- each element of a list is in it
pub each-contained : {X : Type 0} (xs : List X) → AllByRecursion (Contains xs) xs
each-contained [] = tt
each-contained (x ∷ xs) = ((0, omega arith, refl), Each-weaker (Contains xs) (Contains (x ∷ xs)) (λ y k. (suc k.0, later k.1, k.2)) xs (each-contained xs))
  where
    later : {k n : ℕ} → k < n → suc k < suc n
    later h = omega (arith, h)

-- ---- tests of all elements and of any

pub all-map : {A B : Type 0} (p : B → Bool) (f : A → B) → ((x : A) → p (f x) ≡ true) → (xs : List A) → list_all p (map f xs) ≡ true
all-map p f h [] = refl
all-map p f h (x ∷ xs) = and_from _ _ (h x) (all-map p f h xs)

pub all-same : {A : Type 0} (w f g : A → Bool) → ((x : A) → w x ≡ true → f x ≡ g x) → (xs : List A) → list_all w xs ≡ true → list_all f xs ≡ list_all g xs
all-same w f g h [] all = refl
all-same w f g h (x ∷ xs) all = λ i. h x (and_parts (w x) (list_all w xs) all).0 i && all-same w f g h xs (and_parts (w x) (list_all w xs) all).1 i

pub any-filter_step : {A : Type 0} (p w : A → Bool) (x : A) (xs : List A) → (p x ≡ true → w x ≡ true) → list_any p (filter w xs) ≡ list_any p xs → (a b : Bool) → w x ≡ a → p x ≡ b →
    list_any p (cond (w x) (x ∷ filter w xs) (filter w xs)) ≡ (p x || list_any p xs)
any-filter_step p w x xs h rest true b e f = (λ i. list_any p (cond (e i) (x ∷ filter w xs) (filter w xs))) ∙ ap (λ (found : Bool). p x || found) rest
any-filter_step p w x xs h rest false true e f = absurd (true≢false (sym (h f) ∙ e))
any-filter_step p w x xs h rest false false e f = (λ i. list_any p (cond (e i) (x ∷ filter w xs) (filter w xs))) ∙ rest ∙ (λ i. sym f i || list_any p xs)

pub any-filter : {A : Type 0} (p w : A → Bool) → ((x : A) → p x ≡ true → w x ≡ true) → (xs : List A) → list_any p (filter w xs) ≡ list_any p xs
any-filter p w h [] = refl
any-filter p w h (x ∷ xs) = any-filter_step p w x xs (h x) (any-filter p w h xs) (w x) (p x) refl refl

pub all-filter_step : {A : Type 0} (w f : A → Bool) (x : A) (xs : List A) (b : Bool) → w x ≡ true → list_all w (filter f xs) ≡ true → list_all w (cond b (x ∷ filter f xs) (filter f xs)) ≡ true
all-filter_step w f x xs true here more = and_from _ _ here more
all-filter_step w f x xs false here more = more

pub all-filter : {A : Type 0} (w f : A → Bool) (xs : List A) → list_all w xs ≡ true → list_all w (filter f xs) ≡ true
all-filter w f [] all = refl
all-filter w f (x ∷ xs) all = all-filter_step w f x xs (f x) (and_parts (w x) (list_all w xs) all).0 (all-filter w f xs (and_parts (w x) (list_all w xs) all).1)

pub all-flat : {A B : Type 0} (g : A → Bool) (w : B → Bool) (f : A → List B) → ((x : A) → g x ≡ true → list_all w (f x) ≡ true) → (xs : List A) → list_all g xs ≡ true → list_all w (flat_map f xs) ≡ true
all-flat g w f h [] all = refl
all-flat g w f h (x ∷ xs) all = list_all-append w (f x) (flat_map f xs) ∙ and_from _ _ (h x (and_parts (g x) (list_all g xs) all).0) (all-flat g w f h xs (and_parts (g x) (list_all g xs) all).1)

pub all-self_step : {A : Type 0} (w : A → Bool) (x : A) (xs : List A) → list_all w (filter w xs) ≡ true → (b : Bool) → w x ≡ b → list_all w (cond b (x ∷ filter w xs) (filter w xs)) ≡ true
all-self_step w x xs rest true e = and_from _ _ e rest
all-self_step w x xs rest false e = rest

pub all-self : {A : Type 0} (w : A → Bool) (xs : List A) → list_all w (filter w xs) ≡ true
all-self w [] = refl
all-self w (x ∷ xs) = all-self_step w x xs (all-self w xs) (w x) refl

pub all-constant : {A : Type 0} (b : Bool) → b ≡ true → (xs : List A) → list_all (λ x. b) xs ≡ true
all-constant b e [] = refl
all-constant b e (x ∷ xs) = and_from _ _ e (all-constant b e xs)

pub all-weaker : {X : Type 0} (f g : X → Bool) → ((x : X) → f x ≡ true → g x ≡ true) → (xs : List X) → list_all f xs ≡ true → list_all g xs ≡ true
all-weaker f g step [] h = refl
all-weaker f g step (x ∷ xs) h = and_from _ _ (step x (and_parts (f x) (list_all f xs) h).0) (all-weaker f g step xs (and_parts (f x) (list_all f xs) h).1)

pub any-later : {X : Type 0} (q : X → Bool) (x : X) (xs : List X) → list_any q xs ≡ true → list_any q (x ∷ xs) ≡ true
any-later q x xs h = go (q x)
  where
    go : (b : Bool) → (b || list_any q xs) ≡ true
    go true = refl
    go false = h

pub any-last : {X : Type 0} (q : X → Bool) (xs : List X) (x : X) → q x ≡ true → list_any q (xs ++ x ∷ []) ≡ true
any-last q [] x h = ap (λ b. b || false) h
any-last q (y ∷ xs) x h = grind (arith, any-last q xs x h)

pub any-other : {X : Type 0} (q : X → Bool) (xs : List X) (x : X) → q x ≡ false → list_any q (xs ++ x ∷ []) ≡ list_any q xs
any-other q [] x h = ap (λ b. b || false) h
any-other q (y ∷ xs) x h = ap (λ b. q y || b) (any-other q xs x h)

pub fold-same : {A B : Type 0} (w : A → Bool) (f g : B → A → B) → ((b : B) (x : A) → w x ≡ true → f b x ≡ g b x) → (xs : List A) → list_all w xs ≡ true → (b : B) → fold f b xs ≡ fold g b xs
fold-same w f g h [] all b = refl
fold-same w f g h (x ∷ xs) all b = ap (λ a. fold f a xs) (h b x (and_parts (w x) (list_all w xs) all).0) ∙ fold-same w f g h xs (and_parts (w x) (list_all w xs) all).1 (g b x)

-- ---- what is found

pub find-filter_step : {A : Type 0} (p w : A → Bool) (x : A) (xs : List A) → (p x ≡ true → w x ≡ true) → find p (filter w xs) ≡ find p xs → (a b : Bool) → w x ≡ a → p x ≡ b →
    find p (cond (w x) (x ∷ filter w xs) (filter w xs)) ≡ cond (p x) (Some x) (find p xs)
find-filter_step {A} p w x xs h rest true b e f = (λ i. find p (cond (e i) (x ∷ filter w xs) (filter w xs))) ∙ ap (λ (found : Option A). cond (p x) (Some x) found) rest
find-filter_step p w x xs h rest false true e f = absurd (true≢false (sym (h f) ∙ e))
find-filter_step p w x xs h rest false false e f = (λ i. find p (cond (e i) (x ∷ filter w xs) (filter w xs))) ∙ rest ∙ (λ i. cond (sym f i) (Some x) (find p xs))

-- where what is left out does not pass, nothing is missed
pub find-filter : {A : Type 0} (p w : A → Bool) → ((x : A) → p x ≡ true → w x ≡ true) → (xs : List A) → find p (filter w xs) ≡ find p xs
find-filter p w h [] = refl
find-filter p w h (x ∷ xs) = find-filter_step p w x xs (h x) (find-filter p w h xs) (w x) (p x) refl refl

-- what is found passes the second test, where that is known of the list's elements
pub find-in : {A : Type 0} (g p w : A → Bool) → ((x : A) → g x ≡ true → p x ≡ true → w x ≡ true) → (xs : List A) → list_all g xs ≡ true → find p (filter w xs) ≡ find p xs
find-in g p w h [] all = refl
find-in g p w h (x ∷ xs) all = find-filter_step p w x xs (h x (and_parts (g x) (list_all g xs) all).0) (find-in g p w h xs (and_parts (g x) (list_all g xs) all).1) (w x) (p x) refl refl

pub find-same : {A : Type 0} (w f g : A → Bool) → ((x : A) → w x ≡ true → f x ≡ g x) → (xs : List A) → list_all w xs ≡ true → find f xs ≡ find g xs
find-same w f g h [] all = refl
find-same w f g h (x ∷ xs) all =
    λ i. cond (h x (and_parts (w x) (list_all w xs) all).0 i) (Some x) (find-same w f g h xs (and_parts (w x) (list_all w xs) all).1 i)

pub find-append_none : {X : Type 0} (q : X → Bool) (xs ys : List X) → find q xs ≡ None → find q (xs ++ ys) ≡ find q ys
find-append_none q [] ys h = refl
find-append_none q (y ∷ more) ys h = go (q y) h (find-append_none q more ys)
  where
    go : (b : Bool) → cond b (Some y) (find q more) ≡ None → (find q more ≡ None → find q (more ++ ys) ≡ find q ys) → cond b (Some y) (find q (more ++ ys)) ≡ find q ys
    go true e rest = cc
    go false e rest = rest e

pub find-map : {A B : Type 0} (f : A → B) (p : B → Bool) (xs : List A) → find p (map f xs) ≡ option_map f (find (λ x. p (f x)) xs)
find-map f p [] = refl
find-map f p (x ∷ xs) =
    elim (p (f x)) as (λ b. cond b (Some (f x)) (find p (map f xs)) ≡ option_map f (cond b (Some x) (find (λ y. p (f y)) xs))) [ true ↦ refl | false ↦ find-map f p xs ]

-- what is found in a map that keeps the test
pub find-through : {X : Type 0} (f : X → X) (q : X → Bool) → ((x : X) → q (f x) ≡ q x) → (xs : List X) → find q (map f xs) ≡ option_map f (find q xs)
find-through f q same [] = refl
find-through f q same (x ∷ xs) = grind (arith, same x, find-through f q same xs)

-- where none passes none is found
pub find-nothing : {X : Type 0} (q : X → Bool) (xs : List X) → AllByRecursion (λ x. q x ≡ false) xs → find q xs ≡ None
find-nothing q [] h = refl
find-nothing q (x ∷ xs) h = (λ i. cond (h.0 i) (Some x) (find q xs)) ∙ find-nothing q xs h.1

pub none-found : {X : Type 0} (q : X → Bool) (xs : List X) → find q xs ≡ None → AllByRecursion (λ x. q x ≡ false) xs
none-found q [] h = tt
none-found q (x ∷ xs) h = go (q x) refl h (none-found q xs)
  where
    go : (b : Bool) → q x ≡ b → cond b (Some x) (find q xs) ≡ None → (find q xs ≡ None → AllByRecursion (λ x. q x ≡ false) xs) → (q x ≡ false) × AllByRecursion (λ x. q x ≡ false) xs
    go true e h rest = cc
    go false e h rest = (e, rest h)

-- ---- what a filter leaves

-- filters that agree on the elements
pub filter-agree : {X : Type 0} (P : X → Type 0) (p q : X → Bool) → ((x : X) → P x → p x ≡ q x) → (xs : List X) → AllByRecursion P xs → filter p xs ≡ filter q xs
filter-agree P p q same [] h = refl
filter-agree P p q same (x ∷ xs) h =
    let e : p x ≡ q x = same x h.0 in let rest : filter p xs ≡ filter q xs = filter-agree P p q same xs h.1 in rw (e, rest) refl

pub filter-same : {A : Type 0} (w f g : A → Bool) → ((x : A) → w x ≡ true → f x ≡ g x) → (xs : List A) → list_all w xs ≡ true → filter f xs ≡ filter g xs
filter-same w f g h [] all = refl
filter-same w f g h (x ∷ xs) all =
    λ i. cond (h x (and_parts (w x) (list_all w xs) all).0 i) (x ∷ filter-same w f g h xs (and_parts (w x) (list_all w xs) all).1 i) (filter-same w f g h xs (and_parts (w x) (list_all w xs) all).1 i)

-- two filters in the other order
pub filter-swap : {X : Type 0} (p q : X → Bool) (xs : List X) → filter q (filter p xs) ≡ filter p (filter q xs)
filter-swap p q [] = refl
filter-swap p q (x ∷ xs) = grind (arith, filter-swap p q xs)

-- a filter of a filter, where the second implies the first
pub filter-filter : {X : Type 0} (p q : X → Bool) → ((x : X) → q x ≡ true → p x ≡ true) → (xs : List X) → filter q (filter p xs) ≡ filter q xs
filter-filter p q implies [] = refl
filter-filter {X} p q implies (x ∷ xs) = grind (arith, implies x, filter-filter p q implies xs)

pub filter-within_step : {A : Type 0} (f w : A → Bool) (x : A) (xs : List A) → (f x ≡ true → w x ≡ true) → filter f (filter w xs) ≡ filter f xs → (a b : Bool) → w x ≡ a → f x ≡ b →
    filter f (cond (w x) (x ∷ filter w xs) (filter w xs)) ≡ cond (f x) (x ∷ filter f xs) (filter f xs)
filter-within_step f w x xs h rest true b e k = (λ i. filter f (cond (e i) (x ∷ filter w xs) (filter w xs))) ∙ (λ i. cond (f x) (x ∷ rest i) (rest i))
filter-within_step f w x xs h rest false true e k = absurd (true≢false (sym (h k) ∙ e))
filter-within_step f w x xs h rest false false e k = (λ i. filter f (cond (e i) (x ∷ filter w xs) (filter w xs))) ∙ rest ∙ (λ i. cond (sym k i) (x ∷ filter f xs) (filter f xs))

pub filter-in_step : {A : Type 0} (f w : A → Bool) (x : A) (xs : List A) → (f x ≡ true → w x ≡ true) → filter f (filter w xs) ≡ filter f xs → filter f (cond (w x) (x ∷ filter w xs) (filter w xs)) ≡ cond (f x) (x ∷ filter f xs) (filter f xs)
filter-in_step f w x xs h rest = filter-within_step f w x xs h rest (w x) (f x) refl refl

-- the same, where that is known of the list's elements alone
pub filter-in : {A : Type 0} (g f w : A → Bool) → ((x : A) → g x ≡ true → f x ≡ true → w x ≡ true) → (xs : List A) → list_all g xs ≡ true → filter f (filter w xs) ≡ filter f xs
filter-in g f w h [] all = refl
filter-in g f w h (x ∷ xs) all = filter-in_step f w x xs (h x (and_parts (g x) (list_all g xs) all).0) (filter-in g f w h xs (and_parts (g x) (list_all g xs) all).1)

-- what is left where nothing that the filter takes goes
pub filter-rest : {X : Type 0} (f gone : X → Bool) (xs : List X) → filter f (filter gone xs) ≡ [] → filter f (filter (λ x. not (gone x)) xs) ≡ filter f xs
filter-rest f gone [] h = refl
filter-rest f gone (x ∷ xs) h = go (gone x) (f x) refl h (filter-rest f gone xs)
  where
    go : (a b : Bool) → f x ≡ b → filter f (cond a (x ∷ filter gone xs) (filter gone xs)) ≡ [] → (filter f (filter gone xs) ≡ [] → filter f (filter (λ x. not (gone x)) xs) ≡ filter f xs) →
        filter f (cond (not a) (x ∷ filter (λ x. not (gone x)) xs) (filter (λ x. not (gone x)) xs)) ≡ cond b (x ∷ filter f xs) (filter f xs)
    go true true e h rest = let none : x ∷ filter f (filter gone xs) ≡ [] = (λ i. cond (sym e i) (x ∷ filter f (filter gone xs)) (filter f (filter gone xs))) ∙ h in cc
    go true false e h rest = rest ((λ i. cond (sym e i) (x ∷ filter f (filter gone xs)) (filter f (filter gone xs))) ∙ h)
    go false b e h rest = λ i. cond (e i) (x ∷ rest h i) (rest h i)

-- two tests that fail
pub filter-twice : {X : Type 0} (a b : X → Bool) (xs : List X) → filter (λ x. not (b x)) (filter (λ x. not (a x)) xs) ≡ filter (λ x. not (a x || b x)) xs
filter-twice a b [] = refl
filter-twice a b (x ∷ xs) = go (a x) (filter-twice a b xs)
  where
    go : (t : Bool) → filter (λ x. not (b x)) (filter (λ x. not (a x)) xs) ≡ filter (λ x. not (a x || b x)) xs →
        filter (λ x. not (b x)) (cond (not t) (x ∷ filter (λ x. not (a x)) xs) (filter (λ x. not (a x)) xs)) ≡ cond (not (t || b x)) (x ∷ filter (λ x. not (a x || b x)) xs) (filter (λ x. not (a x || b x)) xs)
    go true h = h
    go false h = λ i. cond (not (b x)) (x ∷ h i) (h i)

-- where none passes a filter leaves nothing
pub filter-nothing : {X : Type 0} (f : X → Bool) (xs : List X) → AllByRecursion (λ x. f x ≡ false) xs → filter f xs ≡ []
filter-nothing f [] h = refl
filter-nothing f (x ∷ xs) h = (λ i. cond (h.0 i) (x ∷ filter f xs) (filter f xs)) ∙ filter-nothing f xs h.1

pub filter-none_step : {A : Type 0} (f : A → Bool) (x : A) (xs : List A) (b : Bool) → f x ≡ b → not b ≡ true → filter f xs ≡ [] → filter f (x ∷ xs) ≡ []
filter-none_step f x xs true e h rest = absurd (true≢false (sym h))
filter-none_step f x xs false e h rest = (λ i. cond (e i) (x ∷ filter f xs) (filter f xs)) ∙ rest

pub filter-none : {A : Type 0} (f : A → Bool) (xs : List A) → list_all (λ x. not (f x)) xs ≡ true → filter f xs ≡ []
filter-none f [] all = refl
filter-none f (x ∷ xs) all = filter-none_step f x xs (f x) refl (and_parts _ _ all).0 (filter-none f xs (and_parts _ (list_all (λ y. not (f y)) xs) all).1)

-- a test that does not look
pub filter-constant : {A : Type 0} (b : Bool) (xs : List A) → filter (λ x. b) xs ≡ cond b xs []
filter-constant true [] = refl
filter-constant false [] = refl
filter-constant true (x ∷ xs) = ap (λ ys. x ∷ ys) (filter-constant true xs)
filter-constant false (x ∷ xs) = filter-constant false xs

pub filter-all : {X : Type 0} (f : X → Bool) (xs : List X) → AllByRecursion (λ x. f x ≡ true) xs → filter f xs ≡ xs
filter-all f [] h = refl
filter-all f (x ∷ xs) h = λ i. cond (h.0 i) (x ∷ filter-all f xs h.1 i) (filter-all f xs h.1 i)

-- ---- maps, and lists of lists

pub map-same : {A B : Type 0} (w : A → Bool) (f g : A → B) → ((x : A) → w x ≡ true → f x ≡ g x) → (xs : List A) → list_all w xs ≡ true → map f xs ≡ map g xs
map-same w f g e [] all = refl
map-same w f g e (x ∷ xs) all = λ i. e x (and_parts (w x) (list_all w xs) all).0 i ∷ map-same w f g e xs (and_parts (w x) (list_all w xs) all).1 i

pub map-map : {A B C : Type 0} (g : B → C) (f : A → B) (xs : List A) → map g (map f xs) ≡ map (λ x. g (f x)) xs
map-map g f [] = refl
map-map g f (x ∷ xs) = ap (λ ys. g (f x) ∷ ys) (map-map g f xs)

pub filter-map : {A B : Type 0} (f : A → B) (p : B → Bool) (xs : List A) → filter p (map f xs) ≡ map f (filter (λ x. p (f x)) xs)
filter-map f p [] = refl
filter-map f p (x ∷ xs) =
    elim (p (f x)) as (λ b. cond b (f x ∷ filter p (map f xs)) (filter p (map f xs)) ≡ map f (cond b (x ∷ filter (λ y. p (f y)) xs) (filter (λ y. p (f y)) xs)))
    [ true ↦ ap (λ ys. f x ∷ ys) (filter-map f p xs) | false ↦ filter-map f p xs ]

pub prefix-map : {A B : Type 0} (f : A → B) (p : B → Bool) (xs : List A) → prefix_len p (map f xs) ≡ prefix_len (λ x. p (f x)) xs
prefix-map f p [] = refl
prefix-map f p (x ∷ xs) = ap (λ n. cond (p (f x)) (1 + n) 0) (prefix-map f p xs)

pub flat-filter : {A B : Type 0} (f : A → List B) (w : A → Bool) (xs : List A) → flat_map f (filter w xs) ≡ flat_map (λ x. cond (w x) (f x) []) xs
flat-filter f w [] = refl
flat-filter f w (x ∷ xs) =
    elim (w x) as (λ b. flat_map f (cond b (x ∷ filter w xs) (filter w xs)) ≡ cond b (f x) [] ++ flat_map (λ y. cond (w y) (f y) []) xs)
    [ true ↦ ap (λ ys. f x ++ ys) (flat-filter f w xs) | false ↦ flat-filter f w xs ]

pub flat-map : {A B C : Type 0} (g : B → List C) (f : A → B) (xs : List A) → flat_map g (map f xs) ≡ flat_map (λ x. g (f x)) xs
flat-map g f [] = refl
flat-map g f (x ∷ xs) = ap (λ ys. g (f x) ++ ys) (flat-map g f xs)

pub flat-same : {A B : Type 0} (w : A → Bool) (f g : A → List B) → ((x : A) → w x ≡ true → f x ≡ g x) → (xs : List A) → list_all w xs ≡ true → flat_map f xs ≡ flat_map g xs
flat-same w f g h [] all = refl
flat-same w f g h (x ∷ xs) all = λ i. h x (and_parts (w x) (list_all w xs) all).0 i ++ flat-same w f g h xs (and_parts (w x) (list_all w xs) all).1 i

-- ---- pairs of elements

pub Pairs-filter : {X : Type 0} (R : X → X → Type 0) (f : X → Bool) (xs : List X) → Pairs R xs → Pairs R (filter f xs)
Pairs-filter R f [] h = tt
Pairs-filter R f (x ∷ xs) h = go (f x) (Pairs-filter R f xs h.1)
  where
    go : (b : Bool) → Pairs R (filter f xs) → Pairs R (cond b (x ∷ filter f xs) (filter f xs))
    go true rest = (Each-filter (R x) f xs h.0, rest)
    go false rest = rest

pub Pairs-map : {X : Type 0} (R : X → X → Type 0) (f : X → X) → ((a b : X) → R a b → R (f a) (f b)) → (xs : List X) → Pairs R xs → Pairs R (map f xs)
Pairs-map R f step [] h = tt
Pairs-map R f step (x ∷ xs) h = (Each-map (R x) (R (f x)) f (step x) xs h.0, Pairs-map R f step xs h.1)

pub Pairs-last : {X : Type 0} (R : X → X → Type 0) (xs : List X) (y : X) → Pairs R xs → AllByRecursion (λ x. R x y) xs → Pairs R (xs ++ y ∷ [])
Pairs-last R [] y h k = (tt, tt)
Pairs-last R (x ∷ xs) y h k = (Each-append (R x) xs (y ∷ []) h.0 (k.0, tt), Pairs-last R xs y h.1 k.1)

pub pairs-of : {X : Type 0} (R : X → X → Type 0) (xs : List X) → Pairs R xs → AllPairs R xs
pairs-of R [] h = λ i j d less below. absurd (grind (arith, below))
pairs-of R (x ∷ xs) h = AllPairs-cons R x xs (all-of (R x) xs h.0) (pairs-of R xs h.1)

pub pairs-unmap : {X Y : Type 0} (f : X → Y) (R : Y → Y → Type 0) (xs : List X) → Pairs R (map f xs) → Pairs (λ a b. R (f a) (f b)) xs
pairs-unmap f R [] h = tt
pairs-unmap f R (x ∷ xs) h = (Each-unmap f (R (f x)) xs h.0, pairs-unmap f R xs h.1)

pub pairs-weaker : {X : Type 0} (R S : X → X → Type 0) → ((a b : X) → R a b → S a b) → (xs : List X) → Pairs R xs → Pairs S xs
pairs-weaker R S step [] h = tt
pairs-weaker R S step (x ∷ xs) h = (Each-weaker (R x) (S x) (step x) xs h.0, pairs-weaker R S step xs h.1)

-- ---- rows that are updated or put

-- an update of rows
pub Each-update : {X : Type 0} (P : X → Type 0) (w : X → Bool) (change : X → X) → ((x : X) → P x → P (change x)) → (xs : List X) → AllByRecursion P xs → AllByRecursion P (update w change xs)
Each-update P w change step xs h = Each-map P P (λ x. if w x then change x else x) (λ x. go (w x) x) xs h
  where
    go : (b : Bool) (x : _) → P x → P (cond b (change x) x)
    go true x h = step x h
    go false x h = h

pub Each-put : {X : Type 0} (P : X → Type 0) (test : X → Bool) (new : X) → P new → (xs : List X) → AllByRecursion P xs → AllByRecursion P (put test new xs)
Each-put P test new n [] h = (n, tt)
Each-put P test new n (x ∷ xs) h = go (test x) (Each-put P test new n xs h.1)
  where
    go : (b : Bool) → AllByRecursion P (put test new xs) → AllByRecursion P (cond b (new ∷ xs) (x ∷ put test new xs))
    go true rest = (n, h.1)
    go false rest = (h.0, rest)

-- a change that a test and a field do not see
pub find-updated : {X Y : Type 0} (test w : X → Bool) (field : X → Y) (change : X → X) → ((x : X) → w x ≡ true → test (change x) ≡ test x) → ((x : X) → field (change x) ≡ field x) → (xs : List X) →
    option_map field (find test (update w change xs)) ≡ option_map field (find test xs)
find-updated test w field change same kept [] = refl
find-updated test w field change same kept (x ∷ xs) = grind (arith, same x, kept x, find-updated test w field change same kept xs)

pub find-other : {X : Type 0} (test w : X → Bool) (change : X → X) → ((x : X) → test (change x) ≡ test x) → ((x : X) → test x ≡ true → w x ≡ false) → (xs : List X) → find test (update w change xs) ≡ find test xs
find-other test w change same other [] = refl
find-other test w change same other (x ∷ xs) = grind (arith, same x, other x, find-other test w change same other xs)

-- an update that changes nothing that is there
pub update-none : {X : Type 0} (w : X → Bool) (change : X → X) (xs : List X) → list_any w xs ≡ false → update w change xs ≡ xs
update-none w change [] h = refl
update-none w change (x ∷ xs) h = go (w x) refl h (update-none w change xs)
  where
    go : (b : Bool) → w x ≡ b → (b || list_any w xs) ≡ false → (list_any w xs ≡ false → update w change xs ≡ xs) → cond (w x) (change x) x ∷ update w change xs ≡ x ∷ xs
    go true e h rest = absurd (true≢false h)
    go false e h rest = λ i. cond (e i) (change x) x ∷ rest h i

-- a change that a function does not see
pub map-update : {A B : Type 0} (f : A → B) (test : A → Bool) (change : A → A) → ((x : A) → f (change x) ≡ f x) → (xs : List A) → map f (update test change xs) ≡ map f xs
map-update f test change unseen [] = refl
map-update f test change unseen (x ∷ xs) =
    elim (test x) as (λ b. f (cond b (change x) x) ∷ map f (update test change xs) ≡ f x ∷ map f xs)
    [ true ↦ (λ i. unseen x i ∷ map-update f test change unseen xs i) | false ↦ ap (λ ys. f x ∷ ys) (map-update f test change unseen xs) ]

-- an update that the test does not see
pub filter-update : {X : Type 0} (f w : X → Bool) (change : X → X) → ((x : X) → f (change x) ≡ f x) → (xs : List X) → filter f (update w change xs) ≡ update w change (filter f xs)
filter-update {X} f w change same xs = filter-map (λ x. if w x then change x else x) f xs ∙ (λ i. map (λ x. if w x then change x else x) (filter (λ x. seen x i) xs))
  where
    seen : (x : X) → f (cond (w x) (change x) x) ≡ f x
    seen x = elim (w x) as (λ b. f (cond b (change x) x) ≡ f x) [ true ↦ same x | false ↦ refl ]

-- an update of what a filter leaves out
pub update-off : {X : Type 0} (f w : X → Bool) (change : X → X) → ((x : X) → f x ≡ true → w x ≡ false) → (xs : List X) → update w change (filter f xs) ≡ filter f xs
update-off f w change off [] = refl
update-off f w change off (x ∷ xs) = go (f x) refl (update-off f w change off xs)
  where
    go : (b : Bool) → f x ≡ b → update w change (filter f xs) ≡ filter f xs → update w change (cond b (x ∷ filter f xs) (filter f xs)) ≡ cond b (x ∷ filter f xs) (filter f xs)
    go true e rest = λ i. cond (off x e i) (change x) x ∷ rest i
    go false e rest = rest

-- an update that changes nothing that is left
pub filter-update_off : {X : Type 0} (f w : X → Bool) (change : X → X) → ((x : X) → f (change x) ≡ f x) → ((x : X) → f x ≡ true → w x ≡ false) → (xs : List X) → filter f (update w change xs) ≡ filter f xs
filter-update_off f w change same off xs = filter-update f w change same xs ∙ update-off f w change off xs

-- an ask that a test passes is put among those that it passes
pub filter-put : {X : Type 0} (f same : X → Bool) (new : X) → f new ≡ true → ((x : X) → same x ≡ true → f x ≡ true) → (xs : List X) → filter f (put same new xs) ≡ put same new (filter f xs)
filter-put f same new good agrees [] = λ i. cond (good i) (new ∷ []) []
filter-put f same new good agrees (x ∷ xs) = go (same x) (f x) refl refl (filter-put f same new good agrees xs)
  where
    go : (a b : Bool) → same x ≡ a → f x ≡ b → filter f (put same new xs) ≡ put same new (filter f xs) →
        filter f (cond a (new ∷ xs) (x ∷ put same new xs)) ≡ put same new (cond b (x ∷ filter f xs) (filter f xs))
    go true true e k rest = (λ i. cond (good i) (new ∷ filter f xs) (filter f xs)) ∙ sym (λ i. cond (e i) (new ∷ filter f xs) (x ∷ put same new (filter f xs)))
    go true false e k rest = absurd (true≢false (sym (agrees x e) ∙ k))
    go false true e k rest = (λ i. cond (k i) (x ∷ rest i) (rest i)) ∙ sym (λ i. cond (e i) (new ∷ filter f xs) (x ∷ put same new (filter f xs)))
    go false false e k rest = (λ i. cond (k i) (x ∷ rest i) (rest i))

-- and one that it does not pass changes nothing there
pub filter-put_off : {X : Type 0} (f same : X → Bool) (new : X) → f new ≡ false → ((x : X) → same x ≡ true → f x ≡ false) → (xs : List X) → filter f (put same new xs) ≡ filter f xs
filter-put_off f same new off agrees [] = λ i. cond (off i) (new ∷ []) []
filter-put_off f same new off agrees (x ∷ xs) = go (same x) refl (filter-put_off f same new off agrees xs)
  where
    go : (a : Bool) → same x ≡ a → filter f (put same new xs) ≡ filter f xs → filter f (cond a (new ∷ xs) (x ∷ put same new xs)) ≡ filter f (x ∷ xs)
    go true e rest = (λ i. cond (off i) (new ∷ filter f xs) (filter f xs)) ∙ sym (λ i. cond (agrees x e i) (x ∷ filter f xs) (filter f xs))
    go false e rest = λ i. cond (f x) (x ∷ rest i) (rest i)

-- ---- rows with keys

-- each row is the one that its key finds: two rows of one key are the same
abbrev pub EachKeyed : {X K : Type 0} → (K → K → Bool) → (X → K) → List X → Type 0
EachKeyed same key rows = AllByRecursion (λ row. find (λ other. same (key other) (key row)) rows ≡ Some row) rows

-- an update that keeps the keys keeps that
pub keyed-update : {X K : Type 0} (same : K → K → Bool) (key : X → K) (w : X → Bool) (change : X → X) → ((row : X) → key (change row) ≡ key row) → (rows : List X) → EachKeyed same key rows → EachKeyed same key (update w change rows)
keyed-update {X} same key w change keeps rows h =
    Each-map _ _ at (λ row e. ap (λ k. find (λ other. same (key other) k) (map at rows)) (kept row) ∙ find-through at (λ other. same (key other) (key row)) (λ other. ap (λ k. same k (key row)) (kept other)) rows ∙ ap (option_map at) e) rows h
  where
    at : X → X
    at row = if w row then change row else row

    kept : (row : X) → key (at row) ≡ key row
    kept row = elim (w row) as (λ b. key (cond b (change row) row) ≡ key row) [ true ↦ keeps row | false ↦ refl ]

-- it holds of rows that are told by their keys
pub keyed-made : {X Y K : Type 0} (same : K → K → Bool) (key : X → K) (make : Y → X) → ((k : K) → same k k ≡ true) → ((a b : Y) → same (key (make a)) (key (make b)) ≡ true → make a ≡ make b) → (ys : List Y) → EachKeyed same key (map make ys)
keyed-made {Y = Y} same key make self told ys = Each-map _ _ make (λ y e. e) ys (each ys)
  where
    each : (ys : List Y) → AllByRecursion (λ y. find (λ other. same (key other) (key (make y))) (map make ys) ≡ Some (make y)) ys
    each [] = tt
    each (y ∷ ys) = ((λ i. cond (self (key (make y)) i) (Some (make y)) (find (λ other. same (key other) (key (make y))) (map make ys))), Each-weaker _ _ (λ other k. go other (same (key (make y)) (key (make other))) refl k) ys (each ys))
      where
        go : (other : Y) (b : Bool) → same (key (make y)) (key (make other)) ≡ b → find (λ another. same (key another) (key (make other))) (map make ys) ≡ Some (make other) →
            cond b (Some (make y)) (find (λ another. same (key another) (key (make other))) (map make ys)) ≡ Some (make other)
        go other true e k = ap (λ x. Some x) (told y other e)
        go other false e k = k
