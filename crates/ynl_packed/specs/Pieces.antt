-- Byte strings one behind another, by where each ends.
use Rattle.std.specs.Prelude.{◌≡◌, ℕ, zero, suc, slice_index, ◌-◌, ◌≤◌, List, [], ◌∷◌, length, take, drop}

-- the bytes from one place up to another
abbrev pub between : List ℕ → ℕ → ℕ → List ℕ
between bytes start end = take (end - start) (drop start bytes)

-- the pieces, of which the first begins at a place
abbrev pub pieces_from : List ℕ → ℕ → List ℕ → List (List ℕ)
pieces_from bytes start [] = []
pieces_from bytes start (end ∷ ends) = between bytes start end ∷ pieces_from bytes end ends

-- each ends where it begins or behind that, and the last at the end
abbrev pub AreEnds : ℕ → ℕ → List ℕ → Type 0
AreEnds len start [] = start ≡ len
AreEnds len start (end ∷ ends) = (start ≤ end) × AreEnds len end ends

-- where the piece of a number begins
abbrev pub start_of : ℕ → List ℕ → ℕ → ℕ
start_of start ends zero = start
start_of start ends (suc i) = slice_index ends i
