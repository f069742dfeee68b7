-- What bytes read as by a reader of texts: its value where they are UTF-8, and else none.
use Rattle.std.proofs.Common.{◌≡◌, ℕ, List, Bool, true, false, cond, Option, Some, None, Result, Ok, Err, refl, sym, ap, ◌∙◌}
use Rattle.std.proofs.lemmas.Str.{IsUtf8-from_is_utf8, is_utf8-from_IsUtf8}
use Rattle.std.specs.Prelude.{IsUtf8, IfOk, IfErr, IsErr, option_map}
use Rattle.std.specs.Str.{is_utf8}

module _ {D : Type 0} (read : List ℕ → Option D) where
  abbrev reading : List ℕ → Option D
  reading bytes = cond (is_utf8 bytes) (read bytes) None

  -- UTF-8 that is the text of a value reads as it
  pub reading-text : (bytes : List ℕ) (d : D) → IsUtf8 bytes → read bytes ≡ Some d → reading bytes ≡ Some d
  reading-text bytes d utf8 e = ap (λ b. cond b (read bytes) None) (is_utf8-from_IsUtf8 bytes utf8) ∙ e

  -- bytes that are not UTF-8, or not the text of a value, read as none
  reading-none : (bytes : List ℕ) → (IsUtf8 bytes → read bytes ≡ None) → reading bytes ≡ None
  reading-none bytes h = by (is_utf8 bytes) refl
    where
      by : (b : Bool) → is_utf8 bytes ≡ b → cond b (read bytes) None ≡ None
      by true e = h (IsUtf8-from_is_utf8 bytes e)
      by false e = refl

  -- what a call found is what the bytes read as, where it gives up where it is out of memory alone
  pub read_found : {V E F : Type 0} (view : V → D) (IsMemory : E → Type 0) (bytes : List ℕ) (r : Result V E) (f : Result (Option V) F) → IfOk r (λ v. IsUtf8 bytes × (read bytes ≡ Some (view v)))
      → IfErr r (λ e. ¬ IsMemory e → IsUtf8 bytes → read bytes ≡ None) → IfOk r (λ v. f ≡ Ok (Some v)) → IfErr r (λ e. ¬ IsMemory e → f ≡ Ok None) → IfErr r (λ e. IsMemory e → IsErr f)
      → IfOk f (λ found. option_map view found ≡ reading bytes)
  read_found view IsMemory bytes r (Err e) ok err value none memory = tt
  read_found view IsMemory bytes (Ok v) (Ok found) ok err value none memory =
      let is : found ≡ Some v = cc in
      ap (option_map view) is ∙ sym (reading-text bytes (view v) ok.0 ok.1)
  read_found view IsMemory bytes (Err e) (Ok found) ok err value none memory =
      let other : ¬ IsMemory e = λ m. let bad = memory m in cc in
      let is : found ≡ None = let same = none other in cc in
      ap (option_map view) is ∙ sym (reading-none bytes (err other))
