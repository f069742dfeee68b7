-- A name is a text.
use Rattle.std.proofs.Common.{◌≡◌, ℕ, zero, suc, ◌<◌, ◌≤◌, ◌≢◌, List, [], ◌∷◌, length, get_or, nat_cmp, nat_le, Bool, true, false, cond, Some, None, refl, sym, ◌∙◌, arith}
use Rattle.std.proofs.lemmas.Bool.{and_parts}
use Rattle.std.proofs.lemmas.Bool.Decides.{nat_tests}
use Rattle.std.proofs.lemmas.Option.{same_Some, none-some}
use Rattle.std.proofs.lemmas.Str.{IsUtf8-from_ascii}
use Rattle.std.specs.Prelude.{IsUtf8}
use Rattle.std.specs.Cmp.Lexicographic.{slice_cmp}
use Rattle.std.specs.List.{list_all}
use Rattle.ynl_resource.specs.NameText.{is_name, is_name_byte}
use Rattle.ynl_resource.specs.Heads.{code_of, head_of}
use Rattle.ynl_resource.proofs.Heads.{AreBytes, ArePositive, heads_decide, heads_tell}

byte_ascii : (x : ℕ) → is_name_byte x ≡ true → x < 128
byte_ascii x h = grind (arith, nat_tests)

bytes_ascii : (xs : List ℕ) (i : ℕ) → list_all is_name_byte xs ≡ true → get_or xs i 0 < 128
bytes_ascii [] i h = omega arith
bytes_ascii (x ∷ xs) zero h = byte_ascii x (and_parts (is_name_byte x) _ h).0
bytes_ascii (x ∷ xs) (suc i) h = bytes_ascii xs i (and_parts (is_name_byte x) _ h).1

pub utf8_name : (xs : List ℕ) → is_name xs ≡ true → IsUtf8 xs
utf8_name xs h = IsUtf8-from_ascii xs (λ i. bytes_ascii xs i (and_parts _ (list_all is_name_byte xs) h).1)

all_bytes : (xs : List ℕ) → list_all is_name_byte xs ≡ true → AreBytes xs
all_bytes [] h = tt
all_bytes (x ∷ xs) h = (let small = byte_ascii x (and_parts (is_name_byte x) _ h).0 in omega (arith, small), all_bytes xs (and_parts (is_name_byte x) _ h).1)

bytes_name : (xs : List ℕ) → is_name xs ≡ true → AreBytes xs
bytes_name xs h = all_bytes xs (and_parts _ (list_all is_name_byte xs) h).1

byte_positive : (x : ℕ) → is_name_byte x ≡ true → 0 < x
byte_positive x h = grind (arith, nat_tests)

all_positive : (xs : List ℕ) → list_all is_name_byte xs ≡ true → ArePositive xs
all_positive [] h = tt
all_positive (x ∷ xs) h = (byte_positive x (and_parts (is_name_byte x) _ h).0, all_positive xs (and_parts (is_name_byte x) _ h).1)

positive_name : (xs : List ℕ) → is_name xs ≡ true → ArePositive xs
positive_name xs h = all_positive xs (and_parts _ (list_all is_name_byte xs) h).1

-- names whose first bytes differ stand in the order of these
pub heads_order : (xs ys : List ℕ) → is_name xs ≡ true → is_name ys ≡ true → head_of 8 xs ≢ head_of 8 ys → slice_cmp nat_cmp xs ys ≡ nat_cmp (head_of 8 xs) (head_of 8 ys)
heads_order xs ys a b differ = heads_decide 8 xs ys (bytes_name xs a) (bytes_name ys b) differ

-- and short names whose first bytes are the same are the same
pub short_same : (xs ys : List ℕ) → is_name xs ≡ true → is_name ys ≡ true → length xs ≤ 8 → length ys ≤ 8 → head_of 8 xs ≡ head_of 8 ys → xs ≡ ys
short_same xs ys a b k l e = heads_tell 8 xs ys k l (bytes_name xs a) (bytes_name ys b) (positive_name xs a) (positive_name ys b) e

-- and no two names have one code
pub code_tells : (xs ys : List ℕ) (code : ℕ) → is_name xs ≡ true → is_name ys ≡ true → code_of xs ≡ Some code → code_of ys ≡ Some code → xs ≡ ys
code_tells xs ys code a b e f = go (nat_le (length xs) 16) (nat_le (length ys) 16) refl refl e f
  where
    go : (k l : Bool) → nat_le (length xs) 16 ≡ k → nat_le (length ys) 16 ≡ l → cond k (Some (head_of 16 xs)) None ≡ Some code → cond l (Some (head_of 16 ys)) None ≡ Some code → xs ≡ ys
    go false l p q e f = absurd (none-some code e)
    go true false p q e f = absurd (none-some code f)
    go true true p q e f = heads_tell 16 xs ys (grind (arith, nat_tests)) (grind (arith, nat_tests)) (bytes_name xs a) (bytes_name ys b) (positive_name xs a) (positive_name ys b) (same_Some _ _ (e ∙ sym f))
