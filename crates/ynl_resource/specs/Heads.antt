-- The front of a text as one number, by which most names are told apart.
use Rattle.std.specs.Prelude.{ℕ, zero, suc, ◌+◌, ◌*◌, ◌^◌, List, [], ◌∷◌, length, nat_le, Option, Some, None, if◌then◌else◌}

-- the first bytes of a text, so many, as digits of one number; a byte that is not there is 0
abbrev pub head_of : ℕ → List ℕ → ℕ
head_of zero xs = 0
head_of (suc n) [] = 0
head_of (suc n) (x ∷ xs) = x * 256 ^ n + head_of n xs

-- all of a text as one number, if it has at most sixteen bytes
abbrev pub code_of : List ℕ → Option ℕ
code_of text = if nat_le (length text) 16 then Some (head_of 16 text) else None
