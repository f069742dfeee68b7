-- A test of a list, as one alternative after another.
use Rattle.std.proofs.Common.{◌≡◌, List, [], ◌∷◌, Bool, true, false, ◌||◌, refl, ◌∙◌}
use Rattle.std.specs.List.{list_any}

-- whether the first holds, or an element passes the test
abbrev pub or_any : {X : Type 0} → (X → Bool) → Bool → List X → Bool
or_any test first [] = first
or_any test first (x ∷ xs) = or_any test (first || test x) xs

or_false : (b : Bool) → b || false ≡ b
or_false true = refl
or_false false = refl

or_assoc : (a b c : Bool) → a || (b || c) ≡ (a || b) || c
or_assoc true b c = refl
or_assoc false b c = refl

or_any_is : {X : Type 0} (test : X → Bool) (first : Bool) (xs : List X) → first || list_any test xs ≡ or_any test first xs
or_any_is test first [] = or_false first
or_any_is test first (x ∷ xs) = or_assoc first (test x) (list_any test xs) ∙ or_any_is test (first || test x) xs

-- the same of the elements alone
abbrev pub any_of : {X : Type 0} → (X → Bool) → List X → Bool
any_of test [] = false
any_of test (x ∷ xs) = or_any test (test x) xs

pub any_is : {X : Type 0} (test : X → Bool) (xs : List X) → list_any test xs ≡ any_of test xs
any_is test [] = refl
any_is test (x ∷ xs) = or_any_is test (test x) xs
