-- A text, cut at the first byte that is c.
use Rattle.std.proofs.Common.{◌||◌, ◌≡◌, ◌≢◌, ℕ, ◌+◌, ◌<◌, true, false, ◌==◌, List, [], ◌∷◌, ◌++◌, length, get_or, refl, sym, ap, ◌∙◌, arith, take, drop}
use Rattle.std.proofs.lemmas.List.{take_at, drop_at, take_all, drop_all, append_assoc, get_or_append_left, get_or_at, length_push}
use Rattle.std.proofs.lemmas.List.Sums.{position_or_len_is}
use Rattle.std.proofs.lemmas.Bool.Decides.{nat_tests}
use Rattle.std.proofs.lemmas.Grind.{common_steps}
use Rattle.std.specs.List.{list_any, slice_split, before_first, after_first, position_or_len}

-- no byte of the list is c
abbrev pub Lacks : ℕ → List ℕ → Type 0
Lacks c xs = (i : ℕ) → i < length xs → get_or xs i 0 ≢ c

head_differs : (c x : ℕ) (xs : List ℕ) → Lacks c (x ∷ xs) → (x == c) ≡ false
head_differs c x xs h = let ne : x ≢ c = h 0 (grind (arith, common_steps)) in grind (arith, nat_tests)

Lacks-tail : (c x : ℕ) (xs : List ℕ) → Lacks c (x ∷ xs) → Lacks c xs
Lacks-tail c x xs h i lt = let k = h (i + 1) (grind (arith, common_steps)) in grind (arith, common_steps)

pub list_any-Lacks : (c : ℕ) (xs : List ℕ) → Lacks c xs → list_any (λ x. x == c) xs ≡ false
list_any-Lacks c [] h = refl
list_any-Lacks c (x ∷ xs) h = rw (head_differs c x xs h) (list_any-Lacks c xs (Lacks-tail c x xs h))

same_test : (c : ℕ) → (c == c) ≡ true
same_test c = grind (arith, nat_tests)

pub list_any-at : (c : ℕ) (xs ys : List ℕ) → list_any (λ x. x == c) (xs ++ c ∷ ys) ≡ true
list_any-at c [] ys = rw (same_test c)
list_any-at c (x ∷ xs) ys = let rest = list_any-at c xs ys in elim (x == c) as (λ b. ◌||◌ b (list_any (λ y. y == c) (xs ++ c ∷ ys)) ≡ true) [ true ↦ refl | false ↦ rest ]

position_or_len-Lacks : (c : ℕ) (xs : List ℕ) → Lacks c xs → position_or_len (λ x. x == c) xs ≡ length xs
position_or_len-Lacks c xs h =
    position_or_len_is (λ x. x == c) xs (length xs) 0 (omega arith) (λ k lt. let ne = h k lt in grind (arith, nat_tests)) (λ lt. absurd (omega arith))

position_or_len-at : (c : ℕ) (xs ys : List ℕ) → Lacks c xs → position_or_len (λ x. x == c) (xs ++ c ∷ ys) ≡ length xs
position_or_len-at c xs ys h =
    position_or_len_is (λ x. x == c) (xs ++ c ∷ ys) (length xs) 0 (grind (arith, common_steps))
    (λ k lt. let ne = h k lt in rw get_or_append_left (grind (arith, nat_tests))) (λ _. rw (get_or_at xs c ys 0 (length xs) refl) (same_test c))

pub before_first-Lacks : (c : ℕ) (xs : List ℕ) → Lacks c xs → before_first (λ x. x == c) xs ≡ xs
before_first-Lacks c xs h = ap (λ n. take n xs) (position_or_len-Lacks c xs h) ∙ take_all (length xs) xs (omega arith)

pub before_first-at : (c : ℕ) (xs ys : List ℕ) → Lacks c xs → before_first (λ x. x == c) (xs ++ c ∷ ys) ≡ xs
before_first-at c xs ys h = ap (λ n. take n (xs ++ c ∷ ys)) (position_or_len-at c xs ys h) ∙ take_at xs (c ∷ ys) (length xs) refl

pub after_first-Lacks : (c : ℕ) (xs : List ℕ) → Lacks c xs → after_first (λ x. x == c) xs ≡ []
after_first-Lacks c xs h = ap (λ n. drop (n + 1) xs) (position_or_len-Lacks c xs h) ∙ drop_all (length xs + 1) xs (omega arith)

pub after_first-at : (c : ℕ) (xs ys : List ℕ) → Lacks c xs → after_first (λ x. x == c) (xs ++ c ∷ ys) ≡ ys
after_first-at c xs ys h =
    ap (λ n. drop (n + 1) (xs ++ c ∷ ys)) (position_or_len-at c xs ys h)
    ∙ ap (drop (length xs + 1)) (sym (append_assoc xs (c ∷ []) ys)) ∙ drop_at (xs ++ c ∷ []) ys (length xs + 1) (length_push xs c)

pub slice_split-Lacks : (c : ℕ) (xs : List ℕ) → Lacks c xs → slice_split (λ x. x == c) xs ≡ xs ∷ []
slice_split-Lacks c [] h = refl
slice_split-Lacks c (x ∷ xs) h = rw (head_differs c x xs h, slice_split-Lacks c xs (Lacks-tail c x xs h))

pub slice_split-at : (c : ℕ) (xs ys : List ℕ) → Lacks c xs → slice_split (λ x. x == c) (xs ++ c ∷ ys) ≡ xs ∷ slice_split (λ x. x == c) ys
slice_split-at c [] ys h = rw (same_test c)
slice_split-at c (x ∷ xs) ys h = rw (head_differs c x xs h, slice_split-at c xs ys (Lacks-tail c x xs h))
