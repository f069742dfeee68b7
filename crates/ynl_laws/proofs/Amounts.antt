-- The order of amounts, and what sums of sizes do in it.
use Rattle.std.proofs.Common.{◌≡◌, Bool, true, false, cond, List, [], ◌∷◌, ◌++◌, map, filter, refl, ap, arith}
use Rattle.std.specs.List.{AllByRecursion}
use Rattle.std.proofs.lemmas.Bool.Decides.{nat_tests}
use Rattle.ynl_resource.specs.Amounts.{nothing, plus, fits_in, total_of}
use Rattle.ynl_resource.specs.declared.amounts.Resource.{Resource}

pub fits-refl : (a : Resource) → fits_in a a ≡ true
fits-refl a = grind (arith, nat_tests)

pub fits-trans : (a b c : Resource) → fits_in a b ≡ true → fits_in b c ≡ true → fits_in a c ≡ true
fits-trans a b c h k = grind (arith, nat_tests)

pub fits-more : (a b : Resource) → fits_in b (plus a b) ≡ true
fits-more a b = grind (arith, nat_tests)

pub fits-plus : (a b c : Resource) → fits_in b c ≡ true → fits_in (plus a b) (plus a c) ≡ true
fits-plus a b c h = grind (arith, nat_tests)

-- a sum over fewer things
pub fits-filter : {X : Type 0} (size : X → Resource) (f : X → Bool) (xs : List X) → fits_in (total_of size (filter f xs)) (total_of size xs) ≡ true
fits-filter size f [] = fits-refl nothing
fits-filter size f (x ∷ xs) = go (f x) (fits-filter size f xs)
  where
    go : (b : Bool) → fits_in (total_of size (filter f xs)) (total_of size xs) ≡ true → fits_in (total_of size (cond b (x ∷ filter f xs) (filter f xs))) (plus (size x) (total_of size xs)) ≡ true
    go true h = fits-plus (size x) _ _ h
    go false h = fits-trans (total_of size (filter f xs)) (total_of size xs) (plus (size x) (total_of size xs)) h (fits-more (size x) (total_of size xs))

pub total-append : {X : Type 0} (size : X → Resource) (xs : List X) (x : X) → total_of size (xs ++ x ∷ []) ≡ plus (total_of size xs) (size x)
total-append size [] x = grind (arith)
total-append size (y ∷ xs) x = let e : total_of size (xs ++ x ∷ []) ≡ plus (total_of size xs) (size x) = total-append size xs x in grind (arith, e)

pub fits-both : (a b x y : Resource) → fits_in a x ≡ true → fits_in b y ≡ true → fits_in (plus a b) (plus x y) ≡ true
fits-both a b x y h k = grind (arith, nat_tests)

-- sums that are smaller one by one
pub fits-each : {X : Type 0} (f g : X → Resource) (xs : List X) → AllByRecursion (λ x. fits_in (f x) (g x) ≡ true) xs → fits_in (total_of f xs) (total_of g xs) ≡ true
fits-each f g [] h = fits-refl nothing
fits-each f g (x ∷ xs) h = fits-both (f x) (total_of f xs) (g x) (total_of g xs) h.0 (fits-each f g xs h.1)

pub total-map : {X Y : Type 0} (size : Y → Resource) (f : X → Y) (xs : List X) → total_of size (map f xs) ≡ total_of (λ x. size (f x)) xs
total-map size f [] = refl
total-map size f (x ∷ xs) = ap (plus (size (f x))) (total-map size f xs)
