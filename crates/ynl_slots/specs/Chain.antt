-- Chains of rows: each row names the one before it and the one after it.
use Rattle.std.specs.Prelude.{◌≡◌, ◌≢◌, ⊤, ℕ, List, [], ◌∷◌, ◌++◌, map, nat_eq, Option, Some, None, option_map}
use Rattle.std.specs.List.{AllByRecursion}
use Rattle.std.specs.Map.{lookup}
use Rattle.ynl_slots.specs.declared.chain.Links.{Links}
use Rattle.ynl_slots.specs.declared.chain.Chain.{Chain}

-- the first of the numbers, or this
abbrev pub first_or : Option ℕ → List ℕ → Option ℕ
first_or other [] = other
first_or other (n ∷ _) = Some n

-- the last of the numbers, or this
abbrev pub last_or : Option ℕ → List ℕ → Option ℕ
last_or other [] = other
last_or other (n ∷ numbers) = last_or (Some n) numbers

-- no number comes twice
abbrev pub AreDistinct : List ℕ → Type 0
AreDistinct [] = ⊤
AreDistinct (n ∷ numbers) = AllByRecursion (λ m. m ≢ n) numbers × AreDistinct numbers

abbrev pub next_set : Option ℕ → Links → Links
next_set next links = record { prev = links.prev; next = next }

abbrev pub prev_set : Option ℕ → Links → Links
prev_set prev links = record { prev = prev; next = links.next }

-- the links of the row under a number
abbrev pub links_at : {X : Type 0} → (X → Links) → List (ℕ × X) → ℕ → Option Links
links_at links entries number = option_map links (lookup (nat_eq number) entries)

-- each of the numbers names the one before it and the one after it
abbrev pub IsRun : (ℕ → Option Links) → Option ℕ → List ℕ → Option ℕ → Type 0
IsRun at before [] after = ⊤
IsRun at before (n ∷ numbers) after = (at n ≡ Some (record { prev = before; next = first_or after numbers })) × IsRun at (Some n) numbers after

-- the chain has these numbers, where rows have these links
pub record IsChain (at : ℕ → Option Links) (chain : Chain) (numbers : List ℕ) : Type 0 where
  pub first : chain.first ≡ first_or None numbers
  pub last : chain.last ≡ last_or None numbers
  pub run : IsRun at None numbers None
  pub distinct : AreDistinct numbers

-- the row of a number, if there is one, has other links, and every other row stays
pub record SetsLinks {X : Type 0} (with_links : X → Links → X) (number : Option ℕ) (to : X → Links) (old new : List (ℕ × X)) : Type 0 where
  pub row : (n : ℕ) → number ≡ Some n → lookup (nat_eq n) new ≡ option_map (λ r. with_links r (to r)) (lookup (nat_eq n) old)
  pub others : (n : ℕ) → number ≢ Some n → lookup (nat_eq n) new ≡ lookup (nat_eq n) old
  pub numbers : map (λ e. e.0) new ≡ map (λ e. e.0) old

module _ {X : Type 0} (links : X → Links) (entries : List (ℕ × X)) (chain : Chain) where
  -- the chain has some numbers
  abbrev pub IsLinked : Type 0
  IsLinked = (numbers : List ℕ) × IsChain (links_at links entries) chain numbers

  -- the chain has this number, between others
  abbrev pub IsIn : ℕ → Type 0
  IsIn number = (front : List ℕ) × (back : List ℕ) × IsChain (links_at links entries) chain (front ++ number ∷ back)

  -- the number comes last in the chain
  abbrev pub Appends : ℕ → List (ℕ × X) → Chain → Type 0
  Appends number new chain' =
      (numbers : List ℕ) → IsChain (links_at links entries) chain numbers → AllByRecursion (λ n. n ≢ number) numbers
      → IsChain (links_at links new) chain' (numbers ++ number ∷ [])

  -- the number goes from the chain
  abbrev pub Removes : ℕ → List (ℕ × X) → Chain → Type 0
  Removes number new chain' =
      (front back : List ℕ) → IsChain (links_at links entries) chain (front ++ number ∷ back)
      → IsChain (links_at links new) chain' (front ++ back)

module _ {X : Type 0} (links : X → Links) (with_links : X → Links → X) where
  -- the row of a number, if there is one, names another number after it
  abbrev pub SetsNext : Option ℕ → Option ℕ → List (ℕ × X) → List (ℕ × X) → Type 0
  SetsNext number next old new = SetsLinks with_links number (λ r. next_set next (links r)) old new

  -- or before it
  abbrev pub SetsPrev : Option ℕ → Option ℕ → List (ℕ × X) → List (ℕ × X) → Type 0
  SetsPrev number prev old new = SetsLinks with_links number (λ r. prev_set prev (links r)) old new

  -- the links of the row that comes last, and of the one before it, are all that changes
  abbrev pub AppendsAt : Option ℕ → ℕ → List (ℕ × X) → List (ℕ × X) → Type 0
  AppendsAt last number old new =
      (middle : List (ℕ × X)) × SetsNext last (Some number) old middle
      × SetsLinks with_links (Some number) (λ _. record { prev = last; next = None }) middle new

  -- the links of the rows before and after the one that goes are all that changes
  abbrev pub RemovesAt : ℕ → List (ℕ × X) → List (ℕ × X) → Type 0
  RemovesAt number old new =
      (middle : List (ℕ × X)) × (row : X) × (lookup (nat_eq number) old ≡ Some row)
      × SetsNext (links row).prev (links row).next old middle
      × SetsPrev (links row).next (links row).prev middle new
