-- What needs no escape in a text of JSON.
use Rattle.std.proofs.Common.{◌≡◌, ◌≤◌, ℕ, List, [], ◌∷◌, ◌++◌, true, ◌+◌, ◌-◌, ◌*◌, ◌^◌, ◌<◌, length, take, get_or, decimal, refl, sym, ap, ap₂, ◌∙◌, arith}
use Rattle.std.specs.List.{list_all}
use Rattle.std.proofs.lemmas.Bool.{and_parts}
use Rattle.std.proofs.lemmas.Bool.Decides.{nat_tests}
use Rattle.std.proofs.lemmas.Fmt.{digits_decimal, decimal-digits_value}
use Rattle.std.proofs.lemmas.Grind.{flat_map-append}
use Rattle.std.proofs.lemmas.Int.Digits.{digits_value_more}
use Rattle.std.proofs.lemmas.Str.{digit_value_digit}
use Rattle.std.proofs.lemmas.Str.Parse.{IsNumeralModel, numerals_by_value, tells_all_ascii_digits}
use Rattle.std.specs.Char.{is_ascii_digit, digit_value}
use Rattle.std.specs.Str.{all_ascii_digits}
use Rattle.std.specs.Str.Parse.{digits_value}
use Rattle.json.specs.Print.{escape, escape_byte}
use Rattle.json.proofs.Printed.Strings.{escape_byte_plain}
use Rattle.ynl_resource.specs.NameText.{is_name, is_name_byte}
use Rattle.ynl_resource.proofs.IdTexts.{all_digits}

not_quote : (x : ℕ) → is_name_byte x ≡ true → x ≡ 34 → ⊥
not_quote x h e = grind (arith, nat_tests)

not_backslash : (x : ℕ) → is_name_byte x ≡ true → x ≡ 92 → ⊥
not_backslash x h e = grind (arith, nat_tests)

not_control : (x : ℕ) → is_name_byte x ≡ true → 32 ≤ x
not_control x h = grind (arith, nat_tests)

pub escape_bytes : (xs : List ℕ) → list_all is_name_byte xs ≡ true → escape xs ≡ xs
escape_bytes [] h = refl
escape_bytes (x ∷ xs) h =
    let here = (and_parts (is_name_byte x) _ h).0 in
    ap₂ (λ a b. a ++ b) (escape_byte_plain x (not_quote x here) (not_backslash x here) (not_control x here)) (escape_bytes xs (and_parts (is_name_byte x) _ h).1)

-- a name needs no escape
pub escape_name : (xs : List ℕ) → is_name xs ≡ true → escape xs ≡ xs
escape_name xs h = escape_bytes xs (and_parts _ (list_all is_name_byte xs) h).1

digit_named : (x : ℕ) → is_ascii_digit x ≡ true → is_name_byte x ≡ true
digit_named x h = grind (arith, nat_tests)

digits_named : (xs : List ℕ) → all_ascii_digits xs ≡ true → list_all is_name_byte xs ≡ true
digits_named [] h = refl
digits_named (x ∷ xs) h = let parts = and_parts (is_ascii_digit x) _ h in rw (digit_named x parts.0) (digits_named xs parts.1)

pub own : IsNumeralModel (λ ds. all_ascii_digits ds ≡ true) (digits_value 10)
own = numerals_by_value _ tells_all_ascii_digits

digit_worth : (x : ℕ) → is_ascii_digit x ≡ true → digit_value x + 48 ≡ x
digit_worth x h =
    let low : 48 ≤ x = grind (arith, nat_tests) in
    let high : x ≤ 57 = grind (arith, nat_tests) in
    digit_value_digit x (low, high)

-- one digit more
pub digits_more : (bytes : List ℕ) (i number digit : ℕ) → i < length bytes → is_ascii_digit (get_or bytes i 0) ≡ true → number ≡ digits_value 10 (take i bytes) → digit ≡ get_or bytes i 0 - 48
    → number * 10 + digit ≡ digits_value 10 (take (i + 1) bytes)
digits_more bytes i number digit inside is value here = omega (arith, digits_value_more 10 bytes i inside, digit_worth (get_or bytes i 0) is)

-- digits that are written of a number are the digits of what they are worth
pub digits_back : (ds : List ℕ) (n : ℕ) → list_all is_ascii_digit ds ≡ true → n ≡ digits_value 10 ds → 0 < length ds → (get_or ds 0 0 ≡ 48 → length ds ≡ 1) → n < 2 ^ 64 → decimal n ≡ ds
digits_back ds n digits value some front fits = ap decimal value ∙ decimal-digits_value own ds (sym (all_digits ds) ∙ digits) some front (omega (arith, value))

-- nor do digits
pub escape_number : (n : ℕ) → n < 2 ^ 64 → escape (decimal n) ≡ decimal n
escape_number n h = escape_bytes (decimal n) (digits_named (decimal n) (digits_decimal own n h))

-- so an id escapes as its label does: `#` and digits follow it
pub escape_id : (label digits : List ℕ) → escape digits ≡ digits → escape (label ++ 35 ∷ digits) ≡ escape label ++ 35 ∷ digits
unfolding escape_byte
escape_id label digits plain = flat_map-append escape_byte label (35 ∷ digits) ∙ ap (λ d. escape label ++ 35 ∷ d) plain
