-- Lists that are filled from the front.
use Rattle.std.proofs.Common.{◌≡◌, ℕ, ◌<◌, List, length, get_or}

-- there are n things, and of each something holds
pub record Hold {X : Type 0} (P : ℕ → X → Type 0) (n : ℕ) (xs : List X) : Type 0 where
  pub many : length xs ≡ n
  pub each : (k : ℕ) → k < n → (d : X) → P k (get_or xs k d)
