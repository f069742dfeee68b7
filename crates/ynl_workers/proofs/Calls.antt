-- The receipts of calls on one seat.
use Rattle.std.proofs.Common.{ℕ, ◌+◌, ◌-◌, ◌<◌, ◌≤◌, refl, arith, List, [], ◌++◌, length, get_or, length-append, All, ◌⊎◌, inl, inr}
use Rattle.std.proofs.lemmas.Bool.{cases_lt}
use Rattle.std.proofs.lemmas.List.{get_or_append_left, get_or-append_right}
use Rattle.std.proofs.lemmas.List.Elements.{All-nil, All-append, All-weaker}
use Rattle.ynl_live.specs.declared.receipts.Receipt.{Receipt}
use Rattle.ynl_live.specs.Receipts.{Rises}
use Rattle.ynl_live.specs.Seats.{Standing}
use Rattle.ynl_workers.specs.Works.{AreCallsOn}

-- a receipt between two fronts
abbrev IsBetween : ℕ → ℕ → Receipt → Type 0
IsBetween low high receipt = (low ≤ receipt.place) × (receipt.place < high)

pub AreCallsOn-none : (seat : Standing) → AreCallsOn seat seat []
AreCallsOn-none seat = record { calls = omega arith; front = omega arith; rises = λ i j d low high. absurd (omega (arith, high)); between = All-nil (IsBetween seat.front seat.front) }

-- places that rise, and then others that rise behind them
Rises-append : (xs ys : List Receipt) (middle : ℕ) → Rises xs → Rises ys → All (λ r. r.place < middle) xs → All (λ r. middle ≤ r.place) ys → Rises (xs ++ ys)
Rises-append xs ys middle a b below above i j d low high = at (cases_lt i (length xs)) (cases_lt j (length xs))
  where
    at : (i < length xs) ⊎ (length xs ≤ i) → (j < length xs) ⊎ (length xs ≤ j) → (get_or (xs ++ ys) i d).place < (get_or (xs ++ ys) j d).place
    at (inl h) (inl k) = rw (get_or_append_left xs ys d i h, get_or_append_left xs ys d j k) (a i j d low k)
    at (inl h) (inr k) =
        let p = below i d h in
        let q = above (j - length xs) d (omega (arith, k, high, length-append xs ys)) in
        rw (get_or_append_left xs ys d i h, get_or-append_right xs ys (length xs) j d refl k) (omega (arith, p, q))
    at (inr h) (inl k) = absurd (omega (arith, h, k, low))
    at (inr h) (inr k) =
        rw (get_or-append_right xs ys (length xs) i d refl h, get_or-append_right xs ys (length xs) j d refl k)
        (b (i - length xs) (j - length xs) d (omega (arith, h, k, low)) (omega (arith, k, high, length-append xs ys)))

pub AreCallsOn-append : (a b c : Standing) (rs ss : List Receipt) → AreCallsOn a b rs → AreCallsOn b c ss → AreCallsOn a c (rs ++ ss)
AreCallsOn-append a b c rs ss first next = record {
  calls = omega (arith, first.calls, next.calls, length-append rs ss);
  front = omega (arith, first.front, next.front);
  rises = Rises-append rs ss b.front first.rises next.rises
      (All-weaker (IsBetween a.front b.front) (λ r. r.place < b.front) (λ r h. h.1) rs first.between)
      (All-weaker (IsBetween b.front c.front) (λ r. b.front ≤ r.place) (λ r h. h.0) ss next.between);
  between = All-append (IsBetween a.front c.front) rs ss
      (All-weaker (IsBetween a.front b.front) (IsBetween a.front c.front) (λ r h. (h.0, (let p = h.1 in let q = next.front in omega (arith, p, q)))) rs first.between)
      (All-weaker (IsBetween b.front c.front) (IsBetween a.front c.front) (λ r h. ((let p = h.0 in let q = first.front in omega (arith, p, q)), h.1)) ss next.between);
}
