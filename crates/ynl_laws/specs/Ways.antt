-- Things under numbers, and a way of numbers along which some of them are changed.
use Rattle.std.specs.Prelude.{ℕ, suc, ◌≡◌, ◌≢◌, ◌==◌, ◌<◌, ⊤, Bool, List, [], ◌∷◌, length, slice_index_or, if◌then◌else◌}
use Rattle.std.specs.List.{AllByRecursion, list_any}

-- no number stands twice
abbrev pub AreApart : List ℕ → Type 0
AreApart [] = ⊤
AreApart (q ∷ qs) = AllByRecursion (λ k. q ≢ k) qs × AreApart qs

-- the things from a number on are changed whose number passes the test
abbrev pub changed_from : {X : Type 0} → ℕ → (ℕ → Bool) → (X → X) → List X → List X
changed_from n test change [] = []
changed_from n test change (x ∷ xs) = (if test n then change x else x) ∷ changed_from (suc n) test change xs

-- whether a way has a number
abbrev pub has_number : List ℕ → ℕ → Bool
has_number way n = list_any (λ k. k == n) way

-- the things are changed whose numbers a way has
abbrev pub along : {X : Type 0} → (X → X) → List ℕ → List X → List X
along change way xs = changed_from 0 (has_number way) change xs

-- a way has the numbers of just the things that pass a test, and each once
pub record IsWay {X : Type 0} (things : List X) (test : X → Bool) (way : List ℕ) : Type 0 where
  pub apart : AreApart way
  pub inside : AllByRecursion (λ n. n < length things) way
  pub is : (n : ℕ) (d : X) → n < length things → has_number way n ≡ test (slice_index_or things n d)
