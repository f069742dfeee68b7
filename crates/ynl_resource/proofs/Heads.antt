-- The front of a text as a number, and the order of texts.
use native.Mathlib.Nat.{mul-le-mul_right}
use Rattle.std.proofs.Common.{◌≡◌, ◌≢◌, ℕ, zero, suc, ◌+◌, ◌*◌, ◌^◌, ◌<◌, ◌≤◌, Bool, true, cond, nat_le, List, [], ◌∷◌, Some, None, refl, sym, ap, ◌∙◌, arith, ◌-◌, length, get_or, take, drop, replicate}
use Rattle.std.proofs.lemmas.Bool.Decides.{nat_tests}
use Rattle.std.proofs.Common.{Ordering, Less, Equal, Greater, nat_cmp}
use Rattle.std.specs.Bool.{⊤}
use Rattle.std.specs.Ordering.{MatchOrdering, ordering_then}
use Rattle.std.specs.Cmp.Lexicographic.{slice_cmp}
use Rattle.std.specs.Cmp.{nat_cmp_is, ranks}
use Rattle.ynl_resource.specs.Heads.{code_of, head_of}
use Rattle.ynl_resource.specs.Padded.{IsPadded, length-kept}

-- each is a byte
abbrev pub AreBytes : List ℕ → Type 0
AreBytes [] = ⊤
AreBytes (x ∷ xs) = (x < 256) × AreBytes xs

digits : (x p : ℕ) → (x + 1) * p ≡ x * p + p
digits x p = omega arith

one_more : (n : ℕ) → 256 ^ suc n ≡ 255 * 256 ^ n + 256 ^ n
one_more n = omega arith

below : (n : ℕ) (xs : List ℕ) → AreBytes xs → head_of n xs < 256 ^ n
below zero xs h = omega arith
below (suc n) [] h = let more = below n [] tt in let all = one_more n in omega (arith, more, all)
below (suc n) (x ∷ xs) h =
    let more : head_of n xs < 256 ^ n = below n xs h.1 in
    let first : x * 256 ^ n ≤ 255 * 256 ^ n = mul-le-mul_right (256 ^ n) (let small = h.0 in omega (arith, small)) in
    let all = one_more n in
    omega (arith, more, first, all)

less : (x y p h k : ℕ) → x < y → h < p → x * p + h < y * p + k
less x y p h k lt small =
    let more : (x + 1) * p ≤ y * p = mul-le-mul_right p (omega (arith, lt)) in
    let one = digits x p in
    omega (arith, more, one, small)

-- where the fronts of two texts differ, these decide
decided : (n x y : ℕ) (xs ys : List ℕ) (o : Ordering) → AreBytes xs → AreBytes ys → MatchOrdering o (x < y) (x ≡ y) (y < x) →
    (head_of n xs ≢ head_of n ys → slice_cmp nat_cmp xs ys ≡ nat_cmp (head_of n xs) (head_of n ys)) →
    x * 256 ^ n + head_of n xs ≢ y * 256 ^ n + head_of n ys →
    ordering_then o (slice_cmp nat_cmp xs ys) ≡ nat_cmp (x * 256 ^ n + head_of n xs) (y * 256 ^ n + head_of n ys)
decided n x y xs ys Less a b lt rest differ = nat_cmp_is _ _ Less (less x y (256 ^ n) (head_of n xs) (head_of n ys) lt (below n xs a))
decided n x y xs ys Greater a b gt rest differ = nat_cmp_is _ _ Greater (less y x (256 ^ n) (head_of n ys) (head_of n xs) gt (below n ys b))
decided n x y xs ys Equal a b same rest differ =
    let same_part : x * 256 ^ n ≡ y * 256 ^ n = ap (λ x. x * 256 ^ n) same in
    let differ_there : head_of n xs ≢ head_of n ys = λ e. differ (omega (arith, same_part, e)) in
    rest differ_there ∙ nat_cmp_is _ _ _ (tail (nat_cmp (head_of n xs) (head_of n ys)) (ranks (head_of n xs) (head_of n ys)))
  where
    tail : (o : Ordering) → MatchOrdering o (head_of n xs < head_of n ys) (head_of n xs ≡ head_of n ys) (head_of n ys < head_of n xs)
        → MatchOrdering o (x * 256 ^ n + head_of n xs < y * 256 ^ n + head_of n ys) (x * 256 ^ n + head_of n xs ≡ y * 256 ^ n + head_of n ys) (y * 256 ^ n + head_of n ys < x * 256 ^ n + head_of n xs)
    tail Less r = let s = ap (λ x. x * 256 ^ n) same in omega (arith, s, r)
    tail Equal r = let s = ap (λ x. x * 256 ^ n) same in omega (arith, s, r)
    tail Greater r = let s = ap (λ x. x * 256 ^ n) same in omega (arith, s, r)

pub heads_decide : (n : ℕ) (xs ys : List ℕ) → AreBytes xs → AreBytes ys → head_of n xs ≢ head_of n ys → slice_cmp nat_cmp xs ys ≡ nat_cmp (head_of n xs) (head_of n ys)
heads_decide zero xs ys a b differ = absurd (differ refl)
heads_decide (suc n) [] [] a b differ = absurd (differ refl)
heads_decide (suc n) [] (y ∷ ys) a b differ = nat_cmp_is 0 (head_of (suc n) (y ∷ ys)) Less (omega (arith, differ))
heads_decide (suc n) (x ∷ xs) [] a b differ = nat_cmp_is (head_of (suc n) (x ∷ xs)) 0 Greater (omega (arith, differ))
heads_decide (suc n) (x ∷ xs) (y ∷ ys) a b differ = decided n x y xs ys (nat_cmp x y) a.1 b.1 (ranks x y) (heads_decide n xs ys a.1 b.1) differ

-- ---- of a place with zeros behind the text

zeros : (n k : ℕ) → head_of n (replicate k 0) ≡ 0
zeros zero k = refl
zeros (suc n) zero = refl
zeros (suc n) (suc k) = let rest = zeros n k in omega (arith, rest)

head_kept : (n k len : ℕ) (place : List ℕ) → drop len place ≡ replicate k 0 → head_of n (take len place) ≡ head_of n place
head_kept zero k len place h = refl
head_kept (suc n) k zero place h = sym (ap (head_of (suc n)) h ∙ zeros (suc n) k)
head_kept (suc n) k (suc len) [] h = refl
head_kept (suc n) k (suc len) (x ∷ place) h = ap (λ rest. x * 256 ^ n + rest) (head_kept n k len place h)

-- the bytes from a place on, so many, as digits of one number
abbrev pub digits_at : ℕ → ℕ → List ℕ → ℕ
digits_at zero k bytes = 0
digits_at (suc n) k bytes = get_or bytes k 0 * 256 ^ n + digits_at n (suc k) bytes

digits_none : (n k : ℕ) → digits_at n k [] ≡ 0
digits_none zero k = refl
digits_none (suc n) k = let rest = digits_none n (suc k) in omega (arith, rest)

digits_behind : (n k x : ℕ) (xs : List ℕ) → digits_at n (suc k) (x ∷ xs) ≡ digits_at n k xs
digits_behind zero k x xs = refl
digits_behind (suc n) k x xs = ap (λ rest. get_or xs k 0 * 256 ^ n + rest) (digits_behind n (suc k) x xs)

digits_head : (n : ℕ) (bytes : List ℕ) → digits_at n 0 bytes ≡ head_of n bytes
digits_head zero bytes = refl
digits_head (suc n) [] = digits_none (suc n) 0
digits_head (suc n) (x ∷ xs) = ap (λ rest. x * 256 ^ n + rest) (digits_behind n 0 x xs ∙ digits_head n xs)

-- what the digits of a place come to, of which zeros stand behind the text
pub digits_read : (n : ℕ) (place : List ℕ) (len : ℕ) → IsPadded 64 0 place len → digits_at n 0 place ≡ head_of n (take len place)
digits_read n place len p = digits_head n place ∙ sym (head_kept n (64 - len) len place p.rest)

-- the number of a short text is the code that it has
pub code_read : (place text : List ℕ) (len number : ℕ) → IsPadded 64 0 place len → take len place ≡ text → len ≤ 16 → number ≡ digits_at 16 0 place → Some number ≡ code_of text
code_read place text len number p same small is =
    ap (λ (n : ℕ). Some n) (is ∙ digits_read 16 place len p ∙ ap (head_of 16) same)
    ∙ ap (λ (b : Bool). cond b (Some (head_of 16 text)) None) (sym short)
  where
    short : nat_le (length text) 16 ≡ true
    short = let long = ap length (sym same) ∙ length-kept 64 0 place len p in grind (arith, nat_tests)

-- ---- of a text that is no longer than that

-- each is a byte but 0
abbrev pub ArePositive : List ℕ → Type 0
ArePositive [] = ⊤
ArePositive (x ∷ xs) = (0 < x) × ArePositive xs

something : (n x : ℕ) (xs : List ℕ) → 0 < x → head_of (suc n) (x ∷ xs) ≢ 0
something n x xs positive e =
    let more : 1 * 256 ^ n ≤ x * 256 ^ n = mul-le-mul_right (256 ^ n) (omega (arith, positive)) in
    let whole = below n [] tt in
    omega (arith, e, more, whole)

same_rest : (n x y : ℕ) (xs ys : List ℕ) (o : Ordering) → AreBytes xs → AreBytes ys → MatchOrdering o (x < y) (x ≡ y) (y < x) →
    x * 256 ^ n + head_of n xs ≡ y * 256 ^ n + head_of n ys → (x ≡ y) × (head_of n xs ≡ head_of n ys)
same_rest n x y xs ys Less a b lt e = absurd (let apart = less x y (256 ^ n) (head_of n xs) (head_of n ys) lt (below n xs a) in omega (arith, e, apart))
same_rest n x y xs ys Greater a b gt e = absurd (let apart = less y x (256 ^ n) (head_of n ys) (head_of n xs) gt (below n ys b) in omega (arith, e, apart))
same_rest n x y xs ys Equal a b same e = (same, let front = ap (λ x. x * 256 ^ n) same in omega (arith, e, front))

pub heads_tell : (n : ℕ) (xs ys : List ℕ) → length xs ≤ n → length ys ≤ n → AreBytes xs → AreBytes ys → ArePositive xs → ArePositive ys → head_of n xs ≡ head_of n ys → xs ≡ ys
heads_tell n [] [] k l a b p q e = refl
heads_tell zero [] (y ∷ ys) k l a b p q e = absurd (omega (arith, l))
heads_tell zero (x ∷ xs) ys k l a b p q e = absurd (omega (arith, k))
heads_tell (suc n) [] (y ∷ ys) k l a b p q e = absurd (something n y ys q.0 (sym e))
heads_tell (suc n) (x ∷ xs) [] k l a b p q e = absurd (something n x xs p.0 e)
heads_tell (suc n) (x ∷ xs) (y ∷ ys) k l a b p q e =
    let both = same_rest n x y xs ys (nat_cmp x y) a.1 b.1 (ranks x y) e in
    ap (λ x. x ∷ xs) both.0 ∙ ap (λ rest. y ∷ rest) (heads_tell n xs ys (omega (arith, k)) (omega (arith, l)) a.1 b.1 p.1 q.1 both.1)
