-- What the receipts of a closed history have in common with its entries: any test counts alike over both.
use Rattle.std.proofs.Common.{◌≡◌, ℕ, zero, suc, ◌+◌, ◌*◌, ◌<◌, ◌≤◌, refl, sym, ap, ◌∙◌, arith, List, [], ◌∷◌, length, eqb, Some, All}
use Rattle.std.specs.Prelude.{sum_by, slice_get}
use Rattle.std.proofs.lemmas.List.Sums.{sum_by-cons}
use Rattle.std.proofs.lemmas.List.Elements.{All-head, All-tail}
use Rattle.ynl_model.specs.declared.entries.Entry.{Entry}
use Rattle.ynl_live.specs.declared.receipts.Receipt.{Receipt}
use Rattle.ynl_live.specs.Receipts.{times_at, IsAt, entry_of}
use Rattle.ynl_live.specs.Counts.{CountAlike}
use Rattle.ynl_live.proofs.Marks.{as_number}

-- f of the entry at p, where the entries begin at place b
value_at : (Entry → ℕ) → List Entry → ℕ → ℕ → ℕ
value_at f [] b p = 0
value_at f (e ∷ es) b p = as_number (eqb p b) * f e + value_at f es (b + 1) p

-- f of each entry, as often as receipts stand at its place
weight : (Entry → ℕ) → List Entry → ℕ → List Receipt → ℕ
weight f [] b rs = 0
weight f (e ∷ es) b rs = times_at b rs * f e + weight f es (b + 1) rs

-- without receipts nothing is counted
weight-nil : (f : Entry → ℕ) (es : List Entry) (b : ℕ) → weight f es b [] ≡ 0
unfolding weight
weight-nil f [] b = refl
weight-nil f (e ∷ es) b = let h = weight-nil f es (b + 1) in omega arith

-- one receipt more counts the entry at its place once more
weight-cons : (f : Entry → ℕ) (es : List Entry) (b : ℕ) (r : Receipt) (rs : List Receipt) → weight f es b (r ∷ rs) ≡ value_at f es b r.place + weight f es b rs
unfolding weight value_at
weight-cons f [] b r rs = refl
weight-cons f (e ∷ es) b r rs =
    let t = sum_by-cons (λ (x : Receipt). as_number (eqb x.place b)) r rs in
    let m = ap (λ n. n * f e) t in
    let h = weight-cons f es (b + 1) r rs in
    omega (arith, m, h)

-- where each place is in exactly one receipt, each entry is counted once
weight_once : (f : Entry → ℕ) (es : List Entry) (b : ℕ) (rs : List Receipt) → ((p : ℕ) → b ≤ p → p < b + length es → times_at p rs ≡ 1) → weight f es b rs ≡ sum_by f es
unfolding weight
weight_once f [] b rs once = refl
weight_once f (e ∷ es) b rs once =
    let m = ap (λ n. n * f e) (once b (omega arith) (omega arith)) in
    let h = weight_once f es (b + 1) rs (λ p low high. once p (omega arith) (omega arith)) in
    omega (arith, m, h, sum_by-cons f e es)

-- no entry stands before the first place
value_before : (f : Entry → ℕ) (es : List Entry) (b p : ℕ) → p < b → value_at f es b p ≡ 0
unfolding value_at
value_before f [] b p low = refl
value_before f (e ∷ es) b p low =
    let none : as_number (eqb p b) ≡ 0 = grind arith in
    let m = ap (λ n. n * f e) none in
    let h = value_before f es (b + 1) p (omega arith) in
    omega (arith, m, h)

-- the value at a place is that of the entry there
value_there : (f : Entry → ℕ) (es : List Entry) (b k p : ℕ) (x : Entry) → p ≡ b + k → slice_get es k ≡ Some x → value_at f es b p ≡ f x
unfolding value_at
value_there f [] b k p x is at = cc
value_there f (e ∷ es) b zero p x is at =
    let one : as_number (eqb p b) ≡ 1 = grind arith in
    let m = ap (λ n. n * f e) one in
    let same : e ≡ x = cc in
    let h = value_before f es (b + 1) p (omega arith) in
    omega (arith, m, h, ap f same)
value_there f (e ∷ es) b (suc k) p x is at =
    let none : as_number (eqb p b) ≡ 0 = grind arith in
    let m = ap (λ n. n * f e) none in
    let h = value_there f es (b + 1) k p x (omega arith) at in
    omega (arith, m, h)

-- receipts that are at their places count the entries there
sum_by_receipts : (f : Entry → ℕ) (es : List Entry) (rs : List Receipt) → All (IsAt es) rs → sum_by (λ r. f (entry_of r)) rs ≡ weight f es 0 rs
sum_by_receipts f es [] at = sym (weight-nil f es 0)
sum_by_receipts f es (r ∷ rs) at =
    let here = value_there f es 0 r.place r.place (entry_of r) (omega arith) (All-head (IsAt es) r rs at) in
    let rest = sum_by_receipts f es rs (All-tail (IsAt es) r rs at) in
    omega (arith, sum_by-cons (λ (x : Receipt). f (entry_of x)) r rs, weight-cons f es 0 r rs, here, rest)

-- where each place stands in exactly one receipt, sums over the receipts are sums over the entries
pub count_alike : CountAlike
count_alike f es rs once at = sum_by_receipts f es rs at ∙ weight_once f es 0 rs (λ p low high. once p (omega arith))
