-- A short list kept in a place of fixed length: the list, and fillers after it. The place gives the list back, and the list the place.
use Rattle.std.specs.Prelude.{◌≡◌, ℕ, ◌-◌, ◌≤◌, List, ◌++◌, length, take, drop, replicate}
use Rattle.std.proofs.Common.{arith, sym, ap, ◌∙◌, length-take-le}
use Rattle.std.proofs.lemmas.List.{take-append-drop}

-- the list, and fillers up to the size
abbrev pub padded : {X : Type 0} → ℕ → X → List X → List X
padded size filler xs = xs ++ replicate (size - length xs) filler

-- a place of this size that begins with a list of the given length and goes on with fillers
pub record IsPadded {X : Type 0} (size : ℕ) (filler : X) (place : List X) (len : ℕ) : Type 0 where
  pub whole : length place ≡ size
  pub within : len ≤ size
  pub rest : drop len place ≡ replicate (size - len) filler

-- what stands in a place is as long as the given length
pub length-kept : {X : Type 0} (size : ℕ) (filler : X) (place : List X) (len : ℕ) → IsPadded size filler place len → length (take len place) ≡ len
length-kept size filler place len p = let h : len ≤ length place = omega (arith, p.whole, p.within) in length-take-le len place h

-- what stands in a place gives the place back
pub padded-take : {X : Type 0} (size : ℕ) (filler : X) (place : List X) (len : ℕ) → IsPadded size filler place len → padded size filler (take len place) ≡ place
padded-take size filler place len p =
    ap (λ n. take len place ++ replicate (size - n) filler) (length-kept size filler place len p)
    ∙ ap (λ rest. take len place ++ rest) (sym p.rest)
    ∙ take-append-drop len place
