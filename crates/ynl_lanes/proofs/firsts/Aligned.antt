-- Numbers that a power of two divides, and the node so many levels above a leaf.
use Rattle.std.proofs.Common.{◌≡◌, ℕ, zero, suc, ◌*◌, ◌/◌, ◌%◌, ◌^◌, ◌<◌, ◌≤◌, refl, sym, ap, subst, ◌∙◌, arith, add-one, pow-suc, w64}
use Rattle.std.specs.Int.{trailing_zeros}
use Rattle.std.proofs.lemmas.Nat.{shr-shr}
use Rattle.std.proofs.lemmas.Nat.Bits.{bit_at-trailing_zeros}

-- a power of two divides the number
abbrev pub IsAligned : ℕ → ℕ → Type 0
IsAligned height n = n / 2 ^ height * 2 ^ height ≡ n

-- one level further up
pub halved : (n d : ℕ) → n / 2 ^ suc d ≡ n / 2 ^ d / 2
halved n d = ap (λ (k : ℕ). n / 2 ^ k) (sym (add-one d)) ∙ sym (shr-shr n d 1)

twice : (a b x y : ℕ) → b * 2 ≡ a → y ≡ x * 2 → b * y ≡ a * x
twice a b x y e f = ap (λ (z : ℕ). b * z) f ∙ subst (λ (z : ℕ). b * (x * 2) ≡ z * x) e (omega arith)

-- where no bit is set below a place, a power of two divides the number
aligned_from_bits : (t n : ℕ) → ((i : ℕ) → i < t → n / 2 ^ i % 2 ≡ 0) → IsAligned t n
aligned_from_bits zero n h = omega arith
aligned_from_bits (suc t) n h =
    let even : n / 2 ^ t / 2 * 2 ≡ n / 2 ^ t = omega (arith, h t (omega arith)) in
    ap (λ (a : ℕ). a * 2 ^ suc t) (halved n t)
    ∙ twice (n / 2 ^ t) (n / 2 ^ t / 2) (2 ^ t) (2 ^ suc t) even (pow-suc 2 t)
    ∙ aligned_from_bits t n (λ i below. h i (omega arith))

pub aligned-zeros : (n : ℕ) → 0 < n → n < 2 ^ 64 → (trailing_zeros w64 n < 64) × IsAligned (trailing_zeros w64 n) n
aligned-zeros n some fits =
    let bits = bit_at-trailing_zeros w64 n some fits in
    (bits.0, aligned_from_bits (trailing_zeros w64 n) n bits.2)

-- the first child has the same first leaf
pub doubled : (node height : ℕ) → node * 2 ^ suc height ≡ node * 2 * 2 ^ height
doubled node height = twice (node * 2) node (2 ^ height) (2 ^ suc height) refl (pow-suc 2 height)

-- a multiple that is not 0 is at least what it is a multiple of
pub multiple-le : (a x n : ℕ) → a * x ≡ n → 0 < n → (0 < a) × (x ≤ n)
multiple-le zero x n e some = absurd (omega (arith, e))
multiple-le (suc a) x n e some = (omega arith, omega (arith, e))
