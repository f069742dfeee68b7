-- Sizes and other numbers are in range by the test just where they are by the words.
use Rattle.std.proofs.Common.{◌≡◌, ◌≤◌, ℕ, leb, Bool, true, false, cond, Option, Some, None, Ok, Err, refl, ap, sym, ◌∙◌, arith}
use Rattle.std.specs.Option.{SomeIff}
use Rattle.std.specs.Cmp.Derive.{both_true}
use Rattle.std.proofs.lemmas.Bool.{false≢true, le-leb}
use Rattle.std.proofs.lemmas.Bool.Decides.{nat_tests}
use Rattle.ynl_resource.specs.declared.amounts.Resource.{Resource}
use Rattle.ynl_resource.specs.Amounts.{amount, IsSize}
use Rattle.ynl_fields.specs.Reading.{or_fault, is_size, size_or, within_or}

pub is_size-from_IsSize : (m v : ℕ) → IsSize (amount m v) → is_size m v ≡ true
is_size-from_IsSize m v h =
    both_true (both_true (both_true (le-leb 1 m h.some_memory) (le-leb m 4294967295 (omega arith))) (le-leb 1 v h.some_vcores)) (le-leb v 65536 h.vcores)

pub IsSize-from_is_size : (m v : ℕ) → is_size m v ≡ true → IsSize (amount m v)
IsSize-from_is_size m v e = record {
  some_memory = grind (arith, nat_tests);
  memory = grind (arith, nat_tests);
  some_vcores = grind (arith, nat_tests);
  vcores = grind (arith, nat_tests);
}

module _ {E : Type 0} (fault : E) (m v : ℕ) where
  by_test : (b : Bool) (o : Option Resource) → is_size m v ≡ b → SomeIff o (IsSize (amount m v)) (amount m v) → or_fault fault o ≡ cond b (Ok (amount m v)) (Err fault)
  by_test true (Some x) e h = ap Ok h.1
  by_test true None e h = absurd (h (IsSize-from_is_size m v e))
  by_test false (Some x) e h = absurd (false≢true (sym e ∙ is_size-from_IsSize m v h.0))
  by_test false None e h = refl

  pub size_from_new : (o : Option Resource) → SomeIff o (IsSize (amount m v)) (amount m v) → or_fault fault o ≡ size_or fault m v
  unfolding size_or
  size_from_new o h = by_test (is_size m v) o refl h

-- a size that is in range is read from its parts
pub size_back : {E : Type 0} (fault : E) (size : Resource) → IsSize size → size_or fault size.memory size.vcores ≡ Ok size
unfolding size_or
size_back fault size h = ap (λ b. cond b (Ok size) (Err fault)) (is_size-from_IsSize size.memory size.vcores h)

-- a number that is at most so large is read as it stands
pub within_back : {E : Type 0} (fault : E) (most n : ℕ) → n ≤ most → within_or fault most n ≡ Ok n
unfolding within_or
within_back fault most n h = ap (λ b. cond b (Ok n) (Err fault)) (le-leb n most h)

module _ {E : Type 0} (fault : E) (most n : ℕ) where
  share_by : (b : Bool) (o : Option ℕ) → leb n most ≡ b → SomeIff o (n ≤ most) n → or_fault fault o ≡ cond b (Ok n) (Err fault)
  share_by true (Some x) e h = ap Ok h.1
  share_by true None e h = absurd (h (grind (arith, nat_tests)))
  share_by false (Some x) e h = absurd (false≢true (sym e ∙ le-leb n most h.0))
  share_by false None e h = refl

  pub within_from_new : (o : Option ℕ) → SomeIff o (n ≤ most) n → or_fault fault o ≡ within_or fault most n
  unfolding within_or
  within_from_new o h = share_by (leb n most) o refl h
