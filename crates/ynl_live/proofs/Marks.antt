-- Places that are marked one by one.
use Rattle.std.proofs.Common.{◌≡◌, ◌≢◌, ℕ, zero, suc, ◌+◌, ◌<◌, ◌≤◌, refl, sym, ap, ◌∙◌, arith, List, [], ◌∷◌, ◌++◌, Bool, true, false, cond, length, take, get_or, set, subst, append_assoc, length-append, All, Some, eqb, get_or-set_same, get_or-set_other}
use Rattle.std.specs.Prelude.{count_by}
use Rattle.std.proofs.lemmas.Bool.{eqb-true, false≢true}
use Rattle.std.proofs.Math.Seq.{get_or-append_seam}
use Rattle.std.proofs.lemmas.List.{take_more, get_or_append_left}
use Rattle.std.proofs.lemmas.Option.{slice_get-get_or, slice_get_within}
use Rattle.std.proofs.lemmas.List.Sums.{sum_by_push, sum_by-set, sum_by-cons, count_by-le-length}
use Rattle.std.proofs.lemmas.List.Elements.{All-push, All-weaker}
use Rattle.std.proofs.lemmas.List.Quantifiers.{all_pairs_push}
use Rattle.ynl_model.specs.declared.entries.Entry.{Entry}
use Rattle.ynl_live.specs.declared.receipts.Receipt.{Receipt}
use Rattle.ynl_live.specs.Receipts.{times_at, EachOnce, IsAt, Rises, entry_of}
use Rattle.ynl_live.specs.Marks.{IsMarked, CanMark}
use Rattle.ynl_live.specs.Misfits.{FitBehind, IsFirstMisfit}

-- a number is itself
eqb-same : (n : ℕ) → eqb n n ≡ true
eqb-same n = grind arith

-- what holds of all holds of the last
All-last : (P : Receipt → Type 0) (xs : List Receipt) (r : Receipt) → All P (xs ++ r ∷ []) → P r
All-last P xs r all = subst P (get_or-append_seam xs r [] r) (all (length xs) r (omega (arith, length-append xs (r ∷ []))))

-- 1 for true
abbrev pub as_number : Bool → ℕ
as_number b = cond b 1 0

-- the number of receipts at a place, with one receipt more
times_push : (marks : List Bool) (seen : List Receipt) (r : Receipt) (p : ℕ) → r.place < length marks → get_or marks r.place false ≡ false → times_at p seen ≡ cond (get_or marks p false) 1 0 → (b : Bool) → eqb r.place p ≡ b → times_at p (seen ++ r ∷ []) ≡ cond (get_or (set marks r.place true) p false) 1 0
times_push marks seen r p inside free times true is =
    let same : r.place ≡ p = eqb-true r.place p is in
    let none : as_number (get_or marks p false) ≡ 0 = ap as_number (ap (λ k. get_or marks k false) (sym same) ∙ free) in
    let marked : get_or (set marks r.place true) p false ≡ true = ap (λ k. get_or (set marks r.place true) k false) (sym same) ∙ get_or-set_same marks r.place true false inside in
    let one : as_number (eqb r.place p) ≡ 1 = ap as_number is in
    let now : as_number (get_or (set marks r.place true) p false) ≡ 1 = ap as_number marked in
    omega (arith, sum_by_push (λ (x : Receipt). as_number (eqb x.place p)) seen r, times, none, one, now)
times_push marks seen r p inside free times false is =
    let other : p ≢ r.place = λ e. false≢true (sym is ∙ ap (λ k. eqb r.place k) e ∙ eqb-same r.place) in
    let same : get_or (set marks r.place true) p false ≡ get_or marks p false = get_or-set_other marks r.place p true false other in
    let none : as_number (eqb r.place p) ≡ 0 = ap as_number is in
    let now : as_number (get_or (set marks r.place true) p false) ≡ as_number (get_or marks p false) = ap as_number same in
    omega (arith, sum_by_push (λ (x : Receipt). as_number (eqb x.place p)) seen r, times, none, now)

-- one place more is marked, with one receipt more
pub IsMarked-push : (marks : List Bool) (seen : List Receipt) (r : Receipt) → r.place < length marks → get_or marks r.place false ≡ false → IsMarked marks seen → IsMarked (set marks r.place true) (seen ++ r ∷ [])
IsMarked-push marks seen r inside free m =
    let none : as_number (get_or marks r.place false) ≡ 0 = ap as_number free in
    record {
      times = λ p. times_push marks seen r p inside free (m.times p) (eqb r.place p) refl;
      total = omega (arith, sum_by-set as_number marks r.place true false inside, none, m.total, length-append seen (r ∷ []));
    }

-- what marking a list keeps, as far as the place i
pub record IsMarkedTo (entries : List Entry) (first now : List Bool) (list : List Receipt) (i front : ℕ) : Type 0 where
  pub rises : Rises (take i list)
  pub behind : All (λ r. r.place < front) (take i list)
  pub fits : All (IsAt entries) (take i list)
  pub marks : (seen : List Receipt) → IsMarked first seen → IsMarked now (seen ++ take i list)
  pub least : (q : ℕ) → All (λ r. r.place < q) (take i list) → front ≤ q

-- the same after one receipt more
pub IsMarkedTo-more : (entries : List Entry) (first met now : List Bool) (list : List Receipt) (i front : ℕ) (r : Receipt) → IsMarkedTo entries first met list i front → i < length list → r ≡ get_or list i r → length met ≡ length entries → CanMark entries met front r → now ≡ set met r.place true → IsMarkedTo entries first now list (i + 1) (r.place + 1)
IsMarkedTo-more entries first met now list i front r done inside at len can is =
    let more : take (i + 1) list ≡ take i list ++ r ∷ [] = take_more list i r inside ∙ ap (λ (x : Receipt). take i list ++ x ∷ []) (sym at) in
    let M : List Receipt → Type 0 = λ xs. Rises xs × All (λ x. x.place < r.place + 1) xs × All (IsAt entries) xs × ((seen : List Receipt) → IsMarked first seen → IsMarked now (seen ++ xs)) in
    let N : List Bool → List Receipt → Type 0 = λ b xs. IsMarked b xs in
    let before : All (λ (x : Receipt). x.place < r.place + 1) (take i list) = All-weaker (λ (x : Receipt). x.place < front) (λ x. x.place < r.place + 1) (λ x h. let p = can.0 in omega arith) (take i list) done.behind in
    let mark : (seen : List Receipt) → IsMarked first seen → IsMarked now (seen ++ (take i list ++ r ∷ [])) = λ seen m. subst (λ b. N b (seen ++ (take i list ++ r ∷ []))) (sym is) (subst (N (set met r.place true)) (append_assoc seen (take i list) (r ∷ [])) (IsMarked-push met (seen ++ take i list) r (let q = can.1 in omega arith) can.3 (done.marks seen m))) in
    let all : M (take (i + 1) list) = subst M (sym more) (
      all_pairs_push (λ (a b : Receipt). a.place < b.place) (take i list) r done.rises (λ k d h. let p = can.0 in let b = done.behind k d h in omega arith),
      All-push (λ (x : Receipt). x.place < r.place + 1) (take i list) r before (omega arith),
      All-push (IsAt entries) (take i list) r done.fits can.2,
      mark,
    ) in
    record {
      rises = all.0;
      behind = all.1;
      fits = all.2;
      marks = all.3;
      least = λ q below. let last = All-last (λ x. x.place < q) (take i list) r (subst (All (λ x. x.place < q)) more below) in omega (arith, last);
    }

-- no place is marked twice
once_from_marks : (marks : List Bool) (seen : List Receipt) → IsMarked marks seen → (p : ℕ) → times_at p seen ≤ 1
once_from_marks marks seen m p = let t = m.times p in at_most (get_or marks p false) t
  where
    at_most : (b : Bool) → times_at p seen ≡ cond b 1 0 → times_at p seen ≤ 1
    at_most true t = omega (arith, t)
    at_most false t = omega (arith, t)

-- a place that no receipt has is not marked
unmarked_from_none : (marks : List Bool) (seen : List Receipt) (p : ℕ) → IsMarked marks seen → times_at p seen ≡ 0 → get_or marks p false ≡ false
unmarked_from_none marks seen p m none = at (get_or marks p false) (m.times p)
  where
    at : (b : Bool) → times_at p seen ≡ cond b 1 0 → b ≡ false
    at true t = absurd (omega (arith, t, none))
    at false t = refl

-- where the receipts up to this one and with it fit, it can be marked
can_be_marked : (entries : List Entry) (first now : List Bool) (list seen : List Receipt) (i front : ℕ) (r : Receipt) → IsMarkedTo entries first now list i front → IsMarked first seen → FitBehind entries seen (take i list ++ r ∷ []) → CanMark entries now front r
can_be_marked entries first now list seen i front r done met fit =
    let xs = take i list in
    let at : IsAt entries r = All-last (IsAt entries) xs r fit.fits.at in
    let B : Receipt → Receipt → Type 0 = λ x y. x.place < y.place in
    let below : All (λ x. x.place < r.place) xs = λ k d h.
    subst (B (get_or xs k d)) (get_or-append_seam xs r [] d) (subst (λ x. B x (get_or (xs ++ r ∷ []) (length xs) d)) (get_or_append_left xs (r ∷ []) d k h) (fit.fits.rises k (length xs) d h (omega (arith, length-append xs (r ∷ []))))) in
    let one : as_number (eqb r.place r.place) ≡ 1 = ap as_number (eqb-same r.place) in
    let all : times_at r.place (seen ++ (xs ++ r ∷ [])) ≡ times_at r.place (seen ++ xs) + as_number (eqb r.place r.place) =
    ap (times_at r.place) (sym (append_assoc seen xs (r ∷ []))) ∙ sum_by_push (λ (x : Receipt). as_number (eqb x.place r.place)) (seen ++ xs) r in
    let once = fit.once r.place in
    (done.least r.place below, slice_get_within entries r.place (entry_of r) at, at, unmarked_from_none now (seen ++ xs) r.place (done.marks seen met) (omega (arith, one, all, once)))

-- the first receipt that cannot be marked is the first that does not fit
pub IsFirstMisfit-here : (entries : List Entry) (first now : List Bool) (list : List Receipt) (i front : ℕ) (r : Receipt) → IsMarkedTo entries first now list i front → i < length list → r ≡ get_or list i r → (CanMark entries now front r → ⊥) → (seen : List Receipt) → IsMarked first seen → IsFirstMisfit entries seen list r.place
IsFirstMisfit-here entries first now list i front r done inside at cannot seen met =
    let more : take (i + 1) list ≡ take i list ++ r ∷ [] = take_more list i r inside ∙ ap (λ (x : Receipt). take i list ++ x ∷ []) (sym at) in
    record {
      before = i;
      receipt = r;
      at = slice_get-get_or list i r inside ∙ ap (λ (x : Receipt). Some x) (sym at);
      told = refl;
      fit = record { fits = record { rises = done.rises; at = done.fits }; once = once_from_marks now (seen ++ take i list) (done.marks seen met) };
      misfit = λ fit. cannot (can_be_marked entries first now list seen i front r done met (subst (FitBehind entries seen) more fit));
    }

-- where as many are marked as there are, each is
all_marked : (marks : List Bool) (p : ℕ) → count_by (λ b. b) marks ≡ length marks → p < length marks → get_or marks p false ≡ true
all_marked [] p all inside = absurd (omega arith)
all_marked (true ∷ bs) zero all inside = refl
all_marked (true ∷ bs) (suc p) all inside =
    all_marked bs p (omega (arith, sum_by-cons as_number true bs)) (omega arith)
all_marked (false ∷ bs) p all inside =
    absurd (omega (arith, sum_by-cons as_number false bs, count_by-le-length (λ (b : Bool). b) bs))

-- where there are as many receipts as places, each place is in exactly one
pub EachOnce-from_marks : (marks : List Bool) (rs : List Receipt) → IsMarked marks rs → length rs ≡ length marks → EachOnce (length marks) rs
EachOnce-from_marks marks rs m len p inside = m.times p ∙ ap as_number (all_marked marks p (m.total ∙ len) inside)
