-- Texts with dots.
use Rattle.std.proofs.Common.{◌≡◌, ℕ, ◌+◌, ◌<◌, get_or, take, length, Bool, true, false, cond, ◌||◌, List, [], ◌∷◌, ◌++◌, refl, ap, ◌∙◌}
use Rattle.std.specs.List.{list_any}
use Rattle.std.proofs.lemmas.List.{take_more}
use Rattle.std.proofs.lemmas.List.Folds.{list_any-append}
use Rattle.ynl_resource.specs.Texts.{is_dot}
use Rattle.ynl_queues.specs.Written.{above}

-- a text with one more byte, which is a dot
pub above-dot : (text : List ℕ) (b : ℕ) → is_dot b ≡ true → above (text ++ b ∷ []) ≡ text
above-dot [] b dot = refl
above-dot (x ∷ text) b dot =
    let here : list_any is_dot (text ++ b ∷ []) ≡ true = list_any-append is_dot text (b ∷ []) ∙ rw dot (or-true (list_any is_dot text)) in
    rw here (ap (λ t. x ∷ t) (above-dot text b dot))
  where
    or-true : (a : Bool) → (a || true) ≡ true
    or-true true = refl
    or-true false = refl

-- a text with one more byte, which is no dot
pub above-other : (text : List ℕ) (b : ℕ) → is_dot b ≡ false → above (text ++ b ∷ []) ≡ above text
above-other [] b other = refl
above-other (x ∷ text) b other =
    let here : list_any is_dot (text ++ b ∷ []) ≡ list_any is_dot text = list_any-append is_dot text (b ∷ []) ∙ rw other (or-false (list_any is_dot text)) in
    rw here (ap (λ t. cond (list_any is_dot text) (x ∷ t) []) (above-other text b other))
  where
    or-false : (a : Bool) → (a || false) ≡ a
    or-false true = refl
    or-false false = refl

-- the first bytes of a text, the last of which is a dot
pub above_at_dot : (text : List ℕ) (i end : ℕ) → end ≡ i + 1 → i < length text → is_dot (get_or text i 0) ≡ true → above (take end text) ≡ take i text
above_at_dot text i end next within dot = rw (next, take_more text i 0 within) (above-dot (take i text) (get_or text i 0) dot)

-- the first bytes of a text, the last of which is no dot
pub above_at_other : (text : List ℕ) (i end : ℕ) → end ≡ i + 1 → i < length text → is_dot (get_or text i 0) ≡ false → above (take end text) ≡ above (take i text)
above_at_other text i end next within other = rw (next, take_more text i 0 within) (above-other (take i text) (get_or text i 0) other)
