-- What a table gives a word, row by row.
use Rattle.std.proofs.Common.{◌≡◌, List, [], ◌∷◌, Bool, true, false, cond, Option, Some, None, refl, ap, ◌∙◌}
use Rattle.std.specs.List.{find}
use Rattle.std.specs.Option.{option_map}

-- what the first row that passes the test has
abbrev pub first_in : {A B : Type 0} → (A → Bool) → (A → B) → List A → Option B
first_in test field [] = None
first_in test field (row ∷ rows) = cond (test row) (Some (field row)) (first_in test field rows)

module _ {A B : Type 0} (test : A → Bool) (field : A → B) where
  found_or : (b : Bool) (row : A) (other : Option A) → option_map field (cond b (Some row) other) ≡ cond b (Some (field row)) (option_map field other)
  found_or true row other = refl
  found_or false row other = refl

  pub first_is : (rows : List A) → option_map field (find test rows) ≡ first_in test field rows
  first_is [] = refl
  first_is (row ∷ rows) = found_or (test row) row (find test rows) ∙ ap (λ o. cond (test row) (Some (field row)) o) (first_is rows)
