-- Rows under the numbers of their slots, as a contract sees them.
use Rattle.std.specs.Prelude.{◌≡◌, ◌≢◌, ⊤, ℕ, not, ◌+◌, List, [], ◌∷◌, filter, map, nat_eq, slice_get, if◌then◌else◌, Option, Some, IsSome, refl}
use Rattle.std.specs.List.{AllByRecursion}
use Rattle.std.specs.Map.{lookup}
use Rattle.std.specs.Coded.{Coded, code_by, coded×, coded_ℕ, coded_list}

-- the pairs of a number and a row in the order of the pushes, and how many pushes take no memory
pub record Numbered (T : Type 0) : Type 0 where
  pub entries : List (ℕ × T)
  pub room : ℕ

-- these are coded if the rows are
abbrev pub numbered_code : {T : Type 0} → Coded T → Coded (Numbered T)
numbered_code {T} code =
    code_by (List (ℕ × T) × ℕ) (coded× (coded_list (coded× coded_ℕ code)) coded_ℕ) (λ v. (v.entries, v.room))
    (λ p. record { entries = p.0; room = p.1 }) (λ _. refl)

-- a row is under the number
abbrev pub IsLive : {X : Type 0} → ℕ → List (ℕ × X) → Type 0
IsLive number entries = IsSome (lookup (nat_eq number) entries)

-- the number of the entry in a place
abbrev pub number_in : {X : Type 0} → List (ℕ × X) → ℕ → Option ℕ
number_in entries i = slice_get (map (λ e. e.0) entries) i

-- this is the number after one, in the order of the pushes
abbrev pub IsAfter : {X : Type 0} → ℕ → List (ℕ × X) → Option ℕ → Type 0
IsAfter number entries next = (i : ℕ) → number_in entries i ≡ Some number → next ≡ number_in entries (i + 1)

-- no row is under the number
abbrev pub IsUnused : {X : Type 0} → ℕ → List (ℕ × X) → Type 0
IsUnused number entries = AllByRecursion (λ e. e.0 ≢ number) entries

-- no row but this is under the number
abbrev pub IsOnly : {X : Type 0} → ℕ → X → List (ℕ × X) → Type 0
IsOnly number row entries = AllByRecursion (λ e. e.0 ≡ number → e.1 ≡ row) entries

-- no two rows are under one number
abbrev pub HasDistinctNumbers : {X : Type 0} → List (ℕ × X) → Type 0
HasDistinctNumbers [] = ⊤
HasDistinctNumbers (e ∷ entries) = IsUnused e.0 entries × HasDistinctNumbers entries

-- the entries with this row under the number, in place of the one there
abbrev pub with_row : {X : Type 0} → ℕ → X → List (ℕ × X) → List (ℕ × X)
with_row number row entries = map (λ e. if nat_eq number e.0 then (e.0, row) else e) entries

-- the entries without what is under the number
abbrev pub without : {X : Type 0} → ℕ → List (ℕ × X) → List (ℕ × X)
without number entries = filter (λ e. not (nat_eq number e.0)) entries
