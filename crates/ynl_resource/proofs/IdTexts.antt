-- The text of an id, and reading it.
use Rattle.std.proofs.Common.{◌≡◌, ℕ, suc, zero, ◌<◌, ◌≤◌, ◌^◌, Bool, true, false, ◌&&◌, ◌==◌, List, [], ◌∷◌, ◌++◌, length, get_or, slice_index, refl, sym, ap, ◌∙◌, arith, Result, Ok, Err, if◌then◌else◌}
use Rattle.std.proofs.lemmas.Bool.{and_parts, true≢false}
use Rattle.std.proofs.lemmas.Bool.Decides.{nat_tests}
use Rattle.std.proofs.lemmas.Fmt.{digits_decimal, digits_value-decimal, first_decimal}
use Rattle.std.proofs.lemmas.Str.Parse.{IsNumeralModel, numerals_by_value, tells_all_ascii_digits, parse_digits}
use Rattle.std.specs.Char.{is_ascii_digit}
use Rattle.std.specs.Fmt.{decimal}
use Rattle.std.specs.List.{list_all}
use Rattle.std.specs.Result.{OkIff}
use Rattle.std.specs.Str.{all_ascii_digits}
use Rattle.std.specs.Str.Parse.{digits_value, ParsesUnsigned}
use Rattle.ynl_resource.specs.NameText.{is_name, is_name_byte}
use Rattle.ynl_resource.specs.Names.{Name, Label, Id}
use Rattle.ynl_resource.specs.declared.names.BadName.{BadName}
use Rattle.ynl_resource.specs.Texts.{is_clock, read_name, read_label, read_id, label_text, bad_name, named}
use Rattle.ynl_resource.specs.Ranges.{most_clock}
use Rattle.ynl_resource.proofs.Bytes.{Lacks, before_first-at, after_first-at}

pub all_digits : (xs : List ℕ) → list_all is_ascii_digit xs ≡ all_ascii_digits xs
all_digits [] = refl
all_digits (x ∷ xs) = ap (λ b. is_ascii_digit x && b) (all_digits xs)

own : IsNumeralModel (λ ds. all_ascii_digits ds ≡ true) (digits_value 10)
own = numerals_by_value _ tells_all_ascii_digits

pub clock_parts : (ds : List ℕ) → is_clock ds ≡ true → (all_ascii_digits ds ≡ true) × (1 ≤ digits_value 10 ds) × (digits_value 10 ds ≤ most_clock) × ((slice_index ds 0 == 48) ≡ false)
clock_parts ds h = grind (arith, nat_tests)

pub clock_from : (ds : List ℕ) → all_ascii_digits ds ≡ true → 1 ≤ digits_value 10 ds → digits_value 10 ds ≤ most_clock → (slice_index ds 0 == 48) ≡ false → is_clock ds ≡ true
clock_from ds digits some small front = grind (arith, nat_tests)

-- what `parse` gives of digits
pub parsed : {E : Type 0} (ds : List ℕ) (r : Result ℕ E) → ParsesUnsigned 64 10 ds r → all_ascii_digits ds ≡ true → OkIff r ((0 < length ds) × (digits_value 10 ds < 2 ^ 64)) (digits_value 10 ds)
parsed ds r h digits = parse_digits own 64 ds r h digits

pub nonempty : (ds : List ℕ) → 1 ≤ digits_value 10 ds → 0 < length ds
nonempty [] h = omega arith
nonempty (d ∷ ds) h = omega arith

pub name_lacks : (c : ℕ) → is_name_byte c ≡ false → (xs : List ℕ) → list_all is_name_byte xs ≡ true → Lacks c xs
name_lacks c other [] h i lt e = omega arith
name_lacks c other (x ∷ xs) h zero lt e = true≢false (sym (and_parts (is_name_byte x) _ h).0 ∙ ap is_name_byte e ∙ other)
name_lacks c other (x ∷ xs) h (suc i) lt e = name_lacks c other xs (and_parts (is_name_byte x) _ h).1 i (omega arith) e

pub is_name_lacks : (c : ℕ) → is_name_byte c ≡ false → (xs : List ℕ) → is_name xs ≡ true → Lacks c xs
is_name_lacks c other xs h = name_lacks c other xs (and_parts _ (list_all is_name_byte xs) h).1

-- what reading a name says of the text
name_chosen : (b : Bool) (t n : List ℕ) → ◌≡◌ {A = Result Name BadName} (if b then Ok t else Err bad_name) (Ok n) → (n ≡ t) × (b ≡ true)
name_chosen true t n h = (cc, refl)
name_chosen false t n h = absurd cc

name_refused : (b : Bool) (t : List ℕ) (e : BadName) → ◌≡◌ {A = Result Name BadName} (if b then Ok t else Err bad_name) (Err e) → b ≡ false
name_refused true t e h = absurd cc
name_refused false t e h = refl

pub name_read : (t n : List ℕ) → read_name t ≡ Ok n → (n ≡ t) × (is_name t ≡ true)
unfolding read_name
name_read t n h = name_chosen (is_name t) t n h

pub name_unread : (t : List ℕ) (e : BadName) → read_name t ≡ Err e → is_name t ≡ false
unfolding read_name
name_unread t e h = name_refused (is_name t) t e h

label_chosen : (r : Result Name BadName) (label : Label) → named r ≡ Ok label → (n : Name) × (r ≡ Ok n)
label_chosen (Ok n) label h = (n, refl)
label_chosen (Err e) label h = absurd cc

pub clock_decimal : (n : ℕ) → 1 ≤ n → n ≤ most_clock → is_clock (decimal n) ≡ true
clock_decimal n some small =
    let v : digits_value 10 (decimal n) ≡ n = digits_value-decimal own n (omega arith) in
    let d : all_ascii_digits (decimal n) ≡ true = digits_decimal own n (omega arith) in
    let f : 48 < get_or (decimal n) 0 0 = first_decimal n (omega arith) (omega arith) in
    clock_from (decimal n) d (omega (arith, v)) (omega (arith, v)) (grind (arith, nat_tests))

label_lacks : (text : List ℕ) (label : Label) → read_label text ≡ Ok label → Lacks 35 text
unfolding read_label
label_lacks [] label h i lt e = omega arith
label_lacks (x ∷ xs) label h i lt e =
    let some : (length (x ∷ xs) == 0) ≡ false = grind (arith, nat_tests) in
    let found = label_chosen (read_name (x ∷ xs)) label (rw some at h) in
    is_name_lacks 35 refl (x ∷ xs) (name_read (x ∷ xs) found.0 found.1).1 i lt e

pub reads_id : (id : Id) (text : List ℕ) → 1 ≤ id.clock → id.clock ≤ most_clock → text ≡ label_text id.label → read_label text ≡ Ok id.label → read_id (label_text id.label ++ 35 ∷ decimal id.clock) ≡ Ok id
unfolding read_id
reads_id id text some small same reads =
    let lacks = label_lacks text id.label reads in
    rw (← same) (rw (before_first-at 35 text (decimal id.clock) lacks, after_first-at 35 text (decimal id.clock) lacks, reads, clock_decimal id.clock some small, digits_value-decimal own id.clock (omega arith)))
