-- The texts of names, labels, paths, ids and numbers are UTF-8, and numbers in range have 64 bits.
use Rattle.std.proofs.Common.{◌≡◌, ◌<◌, ◌^◌, ℕ, List, [], ◌∷◌, true, codes, decimal, refl, arith}
use Rattle.std.specs.Prelude.{IsUtf8, nat_lt}
use Rattle.std.specs.Char.{is_ascii_digit}
use Rattle.std.specs.Str.{all_ascii_digits}
use Rattle.std.proofs.lemmas.Bool.{and_parts}
use Rattle.std.proofs.lemmas.Bool.Decides.{nat_tests}
use Rattle.std.proofs.lemmas.Fmt.{digits_decimal}
use Rattle.std.proofs.lemmas.Str.{IsUtf8-append, IsUtf8-nil}
use Rattle.json.proofs.Printed.Utf8.{are_ascii, IsUtf8-are_ascii}
use Rattle.ynl_fields.proofs.Escapes.{own}
use Rattle.std.specs.List.{list_all, join_with_byte}
use Rattle.ynl_resource.specs.declared.amounts.Resource.{Resource}
use Rattle.ynl_resource.specs.declared.labels.Label.{Label}
use Rattle.ynl_resource.specs.declared.labels.Label.TheVariants.{Unlabelled, Named}
use Rattle.ynl_resource.specs.declared.paths.Path.{Path}
use Rattle.ynl_resource.specs.declared.ids.Id.{Id}
use Rattle.ynl_resource.specs.Amounts.{IsSize}
use Rattle.ynl_resource.specs.NameText.{is_name}
use Rattle.ynl_resource.specs.Texts.{label_text, path_text, id_text}
use Rattle.ynl_resource.proofs.Ascii.{utf8_name}
use Rattle.ynl_fields.specs.Reading.{HasClock}
use Rattle.ynl_fields.specs.Sound.{IsLabel}

digit_ascii : (x : ℕ) → is_ascii_digit x ≡ true → nat_lt x 128 ≡ true
digit_ascii x h = grind (arith, nat_tests)

digits_ascii : (xs : List ℕ) → all_ascii_digits xs ≡ true → are_ascii xs ≡ true
digits_ascii [] h = refl
digits_ascii (x ∷ xs) h = let parts = and_parts (is_ascii_digit x) _ h in rw (digit_ascii x parts.0) (digits_ascii xs parts.1)

pub utf8_decimal : (n : ℕ) → n < 2 ^ 64 → IsUtf8 (decimal n)
utf8_decimal n fits = IsUtf8-are_ascii (decimal n) (digits_ascii (decimal n) (digits_decimal own n fits))

pub ascii : (text : List ℕ) → are_ascii text ≡ true → IsUtf8 text
ascii = IsUtf8-are_ascii

pub label_utf8 : (l : Label) → IsLabel l → IsUtf8 (label_text l)
label_utf8 Unlabelled h = IsUtf8-nil
label_utf8 (Named name) h = utf8_name name h

pub id_utf8 : (id : Id) → IsLabel id.label → id.clock < 2 ^ 64 → IsUtf8 (id_text id)
id_utf8 id h fits =
    IsUtf8-append (label_text id.label) (35 ∷ decimal id.clock) (label_utf8 id.label h)
    (IsUtf8-append (35 ∷ []) (decimal id.clock) (ascii (35 ∷ []) refl) (utf8_decimal id.clock fits))

pub clock_fits : (id : Id) → HasClock id → id.clock < 2 ^ 64
clock_fits id h = omega (arith, h.1)

joined_utf8 : (text : List ℕ) (names : List (List ℕ)) → IsUtf8 text → list_all is_name names ≡ true → IsUtf8 (join_with_byte 46 (text ∷ names))
joined_utf8 text [] t h = t
joined_utf8 text (name ∷ names) t h =
    let p = and_parts (is_name name) _ h in
    IsUtf8-append text (46 ∷ join_with_byte 46 (name ∷ names)) t
    (IsUtf8-append (46 ∷ []) (join_with_byte 46 (name ∷ names)) (ascii (46 ∷ []) refl) (joined_utf8 name names (utf8_name name p.0) p.1))

pub path_utf8 : (path : Path) → list_all is_name path ≡ true → IsUtf8 (path_text path)
unfolding path_text
path_utf8 path h = joined_utf8 (codes "root") path (ascii (codes "root") refl) h

pub memory_fits : (size : Resource) → IsSize size → size.memory < 2 ^ 64
memory_fits size h = omega (arith, h.memory)

pub vcores_fit : (size : Resource) → IsSize size → size.vcores < 2 ^ 64
vcores_fit size h = omega (arith, h.vcores)
