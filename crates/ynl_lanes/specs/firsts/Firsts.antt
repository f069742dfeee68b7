-- Values in places, as a contract sees them.
use Rattle.std.specs.Prelude.{◌≡◌, ℕ, ◌-◌, ◌<◌, ◌≤◌, List, ◌++◌, length, replicate}
use Rattle.std.specs.List.{HoldsAt, AllWithin}

-- from a place on no value passes
abbrev pub NonePasses : {T : Type 0} → (T → Type 0) → List T → ℕ → Type 0
NonePasses holds values from = AllWithin (λ v. ¬ (holds v)) values from (length values)

-- k is the first place, from a place on, whose value passes
pub record IsFirst {T : Type 0} (holds : T → Type 0) (values : List T) (from k : ℕ) : Type 0 where
  pub from_on : from ≤ k
  pub within : k < length values
  pub passes : HoldsAt holds values k
  pub before : AllWithin (λ v. ¬ (holds v)) values from k

-- the old values are in front, and behind them is none
abbrev pub IsFilledUp : {T : Type 0} → T → List T → List T → Type 0
IsFilledUp none old new = new ≡ old ++ replicate (length new - length old) none
