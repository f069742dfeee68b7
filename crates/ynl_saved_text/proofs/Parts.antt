-- Texts to which more than one piece is added at once.
use Rattle.std.proofs.Common.{◌≡◌, List, ℕ, ◌++◌, ap, ◌∙◌, append_assoc}
use Rattle.ynl_fields.proofs.Pieces.{both}

-- what follows four pieces stands behind them
pub behind : (old mid a b c d rest new : List ℕ) → mid ≡ old ++ (a ++ (b ++ (c ++ d))) → new ≡ mid ++ rest → new ≡ old ++ (a ++ (b ++ (c ++ (d ++ rest))))
behind old mid a b c d rest new first more =
    both old mid new (a ++ (b ++ (c ++ d))) rest first more ∙ ap (λ t. old ++ t) (simp append_assoc)
