-- Which texts of numbers are whole numbers of 64 bits.
use mathlib.Core.Bool.{true≢false}
use Rattle.std.proofs.Common.{◌≡◌, ℕ, ◌<◌, ◌^◌, Bool, true, false, cond, List, length, drop, arith, Option, Some, None, SomeIff, IfSome, IfNone, refl, sym, ap, subst, ◌∙◌, lt-ltb}
use Rattle.std.specs.Prelude.{◌&&◌, ◌==◌, nat_lt, nat_le, slice_index}
use Rattle.std.specs.Float.{binary64, float_is_finite}
use Rattle.std.proofs.lemmas.Bool.Decides.{nat_tests}
use Rattle.fast_float.specs.Text.{Parts, IsInteger, scan, digits_of, nearest, with_sign}
use Rattle.serde_json.specs.Data.{unsigned, negative, float}
use Rattle.serde_json.specs.Read.{number_of, number_from, float_of, is_integer}
use Rattle.ynl_fields.specs.Trees.{is_unsigned}

-- a float is none
no_float : (sign : Bool) (p : Parts) → is_unsigned (float_of sign p) ≡ false
no_float sign p = go (float_is_finite (nearest binary64 sign p))
  where
    go : (b : Bool) → is_unsigned (cond b (Some (float (nearest binary64 sign p))) None) ≡ false
    go true = refl
    go false = refl

-- whether a numeral is one
abbrev pub fits : Parts → Bool
fits p = is_integer p && nat_lt (digits_of p) (2 ^ 64)

unsigned_fits : (p : Parts) → fits p ≡ true → number_from false p ≡ Some (unsigned (digits_of p))
unsigned_fits p e = ap (λ (b : Bool). cond b (Some (unsigned (digits_of p))) (float_of false p)) e

unsigned_none : (p : Parts) → fits p ≡ false → is_unsigned (number_from false p) ≡ false
unsigned_none p e = ap (λ (b : Bool). is_unsigned (cond b (Some (unsigned (digits_of p))) (float_of false p))) e ∙ no_float false p

negative_none : (p : Parts) → is_unsigned (number_from true p) ≡ false
negative_none p = go (is_integer p && nat_lt 0 (digits_of p) && nat_le (digits_of p) (2 ^ 63))
  where
    go : (b : Bool) → is_unsigned (cond b (Some (negative (with_sign true (digits_of p)))) (float_of true p)) ≡ false
    go true = refl
    go false = no_float true p

module _ (s : List ℕ) (first : (slice_index s 0 == 45) ≡ false) where
  -- so a text that begins with no minus is one just where its numeral fits
  pub whole_some : fits (scan s) ≡ true → number_of s ≡ Some (unsigned (digits_of (scan s)))
  unfolding number_of
  whole_some e = ap (λ (b : Bool). cond b (number_from true (scan (drop 1 s))) (number_from false (scan s))) first ∙ unsigned_fits (scan s) e

  pub whole_none : fits (scan s) ≡ false → (n : ℕ) → number_of s ≡ Some (unsigned n) → ⊥
  unfolding number_of
  whole_none e n is = true≢false (sym (ap is_unsigned is) ∙ ap (λ (b : Bool). is_unsigned (cond b (number_from true (scan (drop 1 s))) (number_from false (scan s)))) first ∙ unsigned_none (scan s) e)

-- and one that begins with a minus is none
pub minus_none : (s : List ℕ) → (slice_index s 0 == 45) ≡ true → (n : ℕ) → number_of s ≡ Some (unsigned n) → ⊥
unfolding number_of
minus_none s first n is = true≢false (sym (ap is_unsigned is) ∙ ap (λ (b : Bool). is_unsigned (cond b (number_from true (scan (drop 1 s))) (number_from false (scan s)))) first ∙ negative_none (scan (drop 1 s)))

-- a numeral fits just where it is an integer of 64 bits
pub fits_if : (p : Parts) → IsInteger p × (digits_of p < 2 ^ 64) → fits p ≡ true
fits_if p h =
    let point : p.point ≡ false = h.0.1 in
    let exponent : length p.exponent ≡ 0 = h.0.2 in
    rw (lt-ltb _ _ h.0.0, point, exponent, lt-ltb _ _ h.1)

pub fits_only : (p : Parts) → (IsInteger p × (digits_of p < 2 ^ 64) → ⊥) → fits p ≡ false
fits_only p lacks = go (fits p) refl
  where
    go : (b : Bool) → fits p ≡ b → b ≡ false
    go false e = refl
    go true e = absurd (lacks (grind (arith, nat_tests, e)))

-- what the reader of a numeral found is what the text writes
pub whole_by : (s bytes : List ℕ) (r : Option ℕ) (p : Parts) → bytes ≡ s → (slice_index bytes 0 == 45) ≡ false → p ≡ scan bytes → SomeIff r (IsInteger p × (digits_of p < 2 ^ 64)) (digits_of p)
    → (IfSome r (λ n. number_of s ≡ Some (unsigned n))) × (IfNone r ((n : ℕ) → number_of s ≡ Some (unsigned n) → ⊥))
whole_by s bytes r p e first is h = go r (subst (λ (p : Parts). SomeIff r (IsInteger p × (digits_of p < 2 ^ 64)) (digits_of p)) (is ∙ ap scan e) h)
  where
    begins : (slice_index s 0 == 45) ≡ false
    begins = ap (λ (s : List ℕ). slice_index s 0 == 45) (sym e) ∙ first

    go : (r : Option ℕ) → SomeIff r (IsInteger (scan s) × (digits_of (scan s) < 2 ^ 64)) (digits_of (scan s)) → (IfSome r (λ n. number_of s ≡ Some (unsigned n))) × (IfNone r ((n : ℕ) → number_of s ≡ Some (unsigned n) → ⊥))
    go None h = (tt, whole_none s begins (fits_only (scan s) h))
    go (Some n) h = (whole_some s begins (fits_if (scan s) h.0) ∙ ap (λ m. Some (unsigned m)) (sym h.1), tt)
