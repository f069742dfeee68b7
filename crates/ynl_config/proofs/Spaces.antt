-- Spaces before and after a text.
use Rattle.std.proofs.Common.{◌≡◌, ◌≢◌, ℕ, List, [], ◌∷◌, ◌++◌, reverse, refl, ap, ◌∙◌, sym, ne_eqb}
use Rattle.std.proofs.lemmas.List.{reverse-append, reverse-reverse}
use Rattle.ynl_config.specs.Access.{skip_spaces, cut_spaces}

-- a text that does not begin with a space has none to skip
pub skip_none : (text : List ℕ) → ((rest : List ℕ) → text ≢ 32 ∷ rest) → skip_spaces text ≡ text
skip_none [] other = refl
skip_none (b ∷ text) other = rw (ne_eqb b 32 (λ e. other text (ap (λ x. x ∷ text) e)))

-- a last space is cut
pub cut_one : (text : List ℕ) → cut_spaces (text ++ 32 ∷ []) ≡ cut_spaces text
unfolding cut_spaces
cut_one text = ap (λ t. reverse (skip_spaces t)) (reverse-append text (32 ∷ []))

-- a text that does not end with a space has none to cut
pub cut_none : (text : List ℕ) → ((front : List ℕ) → text ≢ front ++ 32 ∷ []) → cut_spaces text ≡ text
unfolding cut_spaces
cut_none text other =
    ap reverse (skip_none (reverse text) (λ rest e. other (reverse rest) (sym (reverse-reverse text) ∙ ap reverse e ∙ reverse-append (32 ∷ []) rest)))
    ∙ reverse-reverse text
