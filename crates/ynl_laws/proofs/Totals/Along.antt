-- Things that are changed one after another along a way.
use Rattle.std.proofs.Common.{◌≡◌, ℕ, zero, suc, ◌+◌, ◌<◌, ◌≤◌, ◌≢◌, Bool, true, false, cond, ◌||◌, eqb, List, [], ◌∷◌, map, length, get_or, set, take, refl, sym, ap, subst, ◌∙◌, arith}
use Rattle.std.proofs.lemmas.List.{take_more, take_all, length-set, length-map, get_or-map, get_or-set_same, get_or-set_other, same_lists}
use Rattle.std.proofs.lemmas.List.Folds.{list_any-append}
use Rattle.std.proofs.lemmas.Bool.Decides.{nat_tests}
use Rattle.ynl_laws.specs.Ways.{AreApart, changed_from, has_number, along, IsWay}
use Rattle.ynl_laws.proofs.Lists.{all-of}

-- the things of the first numbers of a way are changed, and the others stay
pub record IsAlong {X : Type 0} (f : X → X) (old new : List X) (way : List ℕ) (i : ℕ) : Type 0 where
  pub len : length new ≡ length old
  pub each : (q : ℕ) (d : X) → q < length old → get_or new q d ≡ cond (has_number (take i way) q) (f (get_or old q d)) (get_or old q d)

or_false : (b : Bool) → (b || false) ≡ b
or_false true = refl
or_false false = refl

or_true : (b : Bool) → (b || true) ≡ true
or_true true = refl
or_true false = refl

-- the number at a place does not stand before it
not-before : (way : List ℕ) → AreApart way → (i d : ℕ) → i < length way → has_number (take i way) (get_or way i d) ≡ false
not-before [] h i d inside = absurd (omega arith)
not-before (q ∷ way) h zero d inside = refl
not-before (q ∷ way) h (suc i) d inside =
    let apart : q ≢ get_or way i d = all-of (λ k. q ≢ k) way h.0 i d (omega arith) in
    grind (arith, nat_tests, apart, not-before way h.1 i d (omega arith))

module _ {X : Type 0} (f : X → X) (old new : List X) (way : List ℕ) (i : ℕ) (h : IsAlong f old new way i) where
  -- one more thing is changed
  pub along_more : AreApart way → (n : ℕ) → i < length way → n ≡ get_or way i 0 → n < length old → (y : X) → ((d : X) → y ≡ f (get_or new n d)) → IsAlong f old (set new n y) way (i + 1)
  along_more apart n inside at within y is = record {
    len = length-set new n y ∙ h.len;
    each = λ q d lt.
        let fresh : has_number (take i way) n ≡ false = subst (λ m. has_number (take i way) m ≡ false) (sym at) (not-before way apart i 0 inside) in
        let longer : has_number (take (i + 1) way) q ≡ (has_number (take i way) q || eqb n q) =
        ap (λ w. has_number w q) (take_more way i 0 inside) ∙ list_any-append (λ k. eqb k q) (take i way) (get_or way i 0 ∷ []) ∙ ap (λ m. has_number (take i way) q || (eqb m q || false)) (sym at) ∙ ap (λ b. has_number (take i way) q || b) (or_false (eqb n q)) in
        let long : n < length new = omega (arith, h.len, within) in
        go q d lt (eqb n q) refl fresh longer long;
  }
    where
      go : (q : ℕ) (d : X) → q < length old → (b : Bool) → eqb n q ≡ b → has_number (take i way) n ≡ false → has_number (take (i + 1) way) q ≡ (has_number (take i way) q || eqb n q) → n < length new
          → get_or (set new n y) q d ≡ cond (has_number (take (i + 1) way) q) (f (get_or old q d)) (get_or old q d)
      go q d lt true e fresh longer long =
          let same : n ≡ q = grind (arith, nat_tests) in
          let read : get_or new n d ≡ get_or old n d = h.each n d within ∙ ap (λ b. cond b (f (get_or old n d)) (get_or old n d)) fresh in
          let written : get_or (set new n y) n d ≡ f (get_or old n d) = get_or-set_same new n y d long ∙ is d ∙ ap f read in
          let tested : has_number (take (i + 1) way) n ≡ true = subst (λ m. has_number (take (i + 1) way) m ≡ true) (sym same) (longer ∙ ap (λ b. has_number (take i way) q || b) e ∙ or_true (has_number (take i way) q)) in
          subst (λ m. get_or (set new n y) m d ≡ cond (has_number (take (i + 1) way) m) (f (get_or old m d)) (get_or old m d)) same (written ∙ sym (ap (λ b. cond b (f (get_or old n d)) (get_or old n d)) tested))
      go q d lt false e fresh longer long =
          let differs : q ≢ n = λ (k : q ≡ n). grind (arith, nat_tests) in
          get_or-set_other new n q y d differs ∙ h.each q d lt ∙ sym (ap (λ b. cond b (f (get_or old q d)) (get_or old q d)) (longer ∙ ap (λ b. has_number (take i way) q || b) e ∙ or_false (has_number (take i way) q)))

  -- past the last number of the way
  along_end : length way ≤ i → (q : ℕ) (d : X) → q < length old → get_or new q d ≡ cond (has_number way q) (f (get_or old q d)) (get_or old q d)
  along_end past q d lt = h.each q d lt ∙ ap (λ w. cond (has_number w q) (f (get_or old q d)) (get_or old q d)) (take_all i way past)

  -- the thing of the number that comes next is as it was
  pub next_cell : AreApart way → (n : ℕ) → i < length way → n ≡ get_or way i 0 → n < length old → (d : X) → get_or new n d ≡ get_or old n d
  next_cell apart n inside at within d =
      let fresh : has_number (take i way) n ≡ false = subst (λ m. has_number (take i way) m ≡ false) (sym at) (not-before way apart i 0 inside) in
      h.each n d within ∙ ap (λ b. cond b (f (get_or old n d)) (get_or old n d)) fresh

length-changed : {X : Type 0} (n : ℕ) (t : ℕ → Bool) (f : X → X) (xs : List X) → length (changed_from n t f xs) ≡ length xs
length-changed n t f [] = refl
length-changed n t f (x ∷ xs) = ap suc (length-changed (suc n) t f xs)

get-changed : {X : Type 0} (n : ℕ) (t : ℕ → Bool) (f : X → X) (xs : List X) (q m : ℕ) (d : X) → m ≡ n + q → q < length xs → get_or (changed_from n t f xs) q d ≡ cond (t m) (f (get_or xs q d)) (get_or xs q d)
get-changed n t f [] q m d e lt = absurd (omega arith)
get-changed n t f (x ∷ xs) zero m d e lt = let same : n ≡ m = omega arith in ap (λ k. cond (t k) (f x) x) same
get-changed n t f (x ∷ xs) (suc q) m d e lt = get-changed (suc n) t f xs q m d (omega arith) (omega arith)

-- all things are changed along the way
pub along_is : {X : Type 0} (f : X → X) (old new : List X) (way : List ℕ) (i : ℕ) → IsAlong f old new way i → length way ≤ i → new ≡ along f way old
along_is f old new way i h past =
    same_lists new (along f way old) (h.len ∙ sym (length-changed 0 (has_number way) f old)) (λ q d lt.
    let within : q < length old = omega (arith, lt, h.len) in
    along_end f old new way i h past q d within ∙ sym (get-changed 0 (has_number way) f old q q d (omega arith) within))

pub length-along : {X : Type 0} (f : X → X) (way : List ℕ) (xs : List X) → length (along f way xs) ≡ length xs
length-along f way xs = length-changed 0 (has_number way) f xs

-- what each thing has is changed for those that the way is of
pub along_things : {X Y : Type 0} (things : List X) (test : X → Bool) (way : List ℕ) (f : Y → Y) (of : X → Y) → IsWay things test way → along f way (map of things) ≡ map (λ x. cond (test x) (f (of x)) (of x)) things
along_things [] test way f of w = refl
along_things {X = X} {Y = Y} (x ∷ xs) test way f of w =
    let things : List X = x ∷ xs in
    let old : List Y = map of things in
    let long : length old ≡ length things = length-map things of in
    same_lists (along f way old) (map (λ x. cond (test x) (f (of x)) (of x)) things) (length-along f way old ∙ long ∙ sym (length-map things (λ x. cond (test x) (f (of x)) (of x)))) (λ q d lt.
    let within : q < length things = omega (arith, lt, length-along f way old, long) in
    let before : get_or old q d ≡ of (get_or things q x) = get_or-map of things q x d within in
    get-changed 0 (has_number way) f old q q d (omega arith) (omega (arith, within, long))
    ∙ ap (λ y. cond (has_number way q) (f y) y) before
    ∙ ap (λ b. cond b (f (of (get_or things q x))) (of (get_or things q x))) (w.is q x within)
    ∙ sym (get_or-map (λ x. cond (test x) (f (of x)) (of x)) things q x d within))
