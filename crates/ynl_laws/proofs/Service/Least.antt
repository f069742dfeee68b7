-- One pass that holds the soonest request finds the first of the list.
use Rattle.std.proofs.Common.{◌≡◌, Bool, true, false, cond, not, ◌&&◌, List, [], ◌∷◌, Option, Some, None, find, fold, refl, sym, ap, ◌∙◌}
use Rattle.std.specs.List.{list_all}
use Rattle.std.specs.Ordering.{is_gt, ordering_reverse}
use Rattle.std.specs.declared.cmp.Ordering.{Ordering}
use Rattle.std.specs.declared.cmp.Ordering.TheVariants.{Less, Equal, Greater}
use Rattle.std.specs.Cmp.{IsTotalOrder}
use Rattle.std.proofs.lemmas.Cmp.{upto, tied_itself}
use mathlib.Core.Bool.{true≢false}
use Rattle.ynl_model.specs.Service.{Item, Key, key_order, first_of}
use Rattle.ynl_laws.specs.Least.{least_of}
use Rattle.ynl_laws.proofs.Service.OrderTotal.{key_order_total}

-- ---- any total order of keys

module _ {X K : Type 0} (order : K → K → Ordering) (total : IsTotalOrder order) (key_of : X → K) where
  abbrev after : X → X → Bool
  after a b = is_gt (order (key_of a) (key_of b))

  abbrev held : Option X → X → Option X
  held None x = Some x
  held (Some best) x = cond (after best x) (Some x) (Some best)

  -- whether no other of the list is before it
  abbrev leads : List X → X → Bool
  leads xs x = list_all (λ y. not (after x y)) xs

  not-after_self : (x : X) → after x x ≡ false
  not-after_self x = ap is_gt (tied_itself total (key_of x))

  turned : (x y : X) → after x y ≡ true → after y x ≡ false
  turned x y h = ap is_gt (total.antisymm (key_of y) (key_of x)) ∙ go (order (key_of x) (key_of y)) h
    where
      go : (o : Ordering) → is_gt o ≡ true → is_gt (ordering_reverse o) ≡ false
      go Less h = absurd (true≢false (sym h))
      go Equal h = refl
      go Greater h = refl

  chained : (x y z : X) → after x y ≡ false → after y z ≡ false → after x z ≡ false
  chained x y z h k = upto total (key_of x) (key_of y) (key_of z) h k

  find-agree : (p q : X → Bool) → ((x : X) → p x ≡ q x) → (xs : List X) → find p xs ≡ find q xs
  find-agree p q same [] = refl
  find-agree p q same (x ∷ xs) = λ i. cond (same x i) (Some x) (find-agree p q same xs i)

  -- the one that is not before another leads no list that the other does not lead
  leads-below : (x y : X) (xs : List X) → after x y ≡ false → leads xs y ≡ true → leads xs x ≡ true
  leads-below x y [] h k = refl
  leads-below x y (z ∷ xs) h k = go (after y z) refl k (leads-below x y xs h)
    where
      go : (b : Bool) → after y z ≡ b → (not b && leads xs y) ≡ true → (leads xs y ≡ true → leads xs x ≡ true) → (not (after x z) && leads xs x) ≡ true
      go true e k rest = absurd (true≢false (sym k))
      go false e k rest = ap (λ b. not b && leads xs x) (chained x y z h e) ∙ rest k

  -- a test that may be left out
  passes : (a b : Bool) → (b ≡ true → a ≡ true) → (a && b) ≡ b
  passes a true h = ap (λ a. a && true) (h refl)
  passes true false h = refl
  passes false false h = refl

  -- what leads a list with the later of two leads it without
  without-later : (late soon : X) (xs : List X) (y : X) → after soon late ≡ false → leads (late ∷ soon ∷ xs) y ≡ leads (soon ∷ xs) y
  without-later late soon xs y h = passes (not (after y late)) (leads (soon ∷ xs) y) (go (after y soon) refl)
    where
      go : (b : Bool) → after y soon ≡ b → (not b && leads xs y) ≡ true → not (after y late) ≡ true
      go true e k = absurd (true≢false (sym k))
      go false e k = ap not (chained y soon late e h)

  swapped : (a b : X) (xs : List X) (y : X) → leads (a ∷ b ∷ xs) y ≡ leads (b ∷ a ∷ xs) y
  swapped a b xs y = go (after y a) (after y b)
    where
      go : (p q : Bool) → (not p && (not q && leads xs y)) ≡ (not q && (not p && leads xs y))
      go true true = refl
      go true false = refl
      go false true = refl
      go false false = refl

  held-first : (best : X) (xs : List X) → fold held (Some best) xs ≡ find (leads (best ∷ xs)) (best ∷ xs)
  held-first best [] = sym (λ i. cond (not (not-after_self best i) && true) (Some best) None)
  held-first best (x ∷ xs) = go (after best x) refl (held-first x xs) (held-first best xs)
    where
      go : (b : Bool) → after best x ≡ b → fold held (Some x) xs ≡ find (leads (x ∷ xs)) (x ∷ xs) → fold held (Some best) xs ≡ find (leads (best ∷ xs)) (best ∷ xs) →
          fold held (cond b (Some x) (Some best)) xs ≡ find (leads (best ∷ x ∷ xs)) (best ∷ x ∷ xs)
      go true e new old =
          new ∙ sym (find-agree (leads (best ∷ x ∷ xs)) (leads (x ∷ xs)) (λ y. without-later best x xs y (turned best x e)) (x ∷ xs))
          ∙ sym (λ i. cond (not (not-after_self best i) && (not (e i) && leads xs best)) (Some best) (find (leads (best ∷ x ∷ xs)) (x ∷ xs)))
      go false e new old = old ∙ skip (leads (best ∷ xs) best) (leads (best ∷ xs) x) refl refl
          ∙ sym (find-agree (leads (best ∷ x ∷ xs)) (leads (best ∷ xs)) (λ y. swapped best x xs y ∙ without-later x best xs y e) (best ∷ x ∷ xs))
        where
          -- the later of two does not lead where the other does not
          skip : (p q : Bool) → leads (best ∷ xs) best ≡ p → leads (best ∷ xs) x ≡ q → cond p (Some best) (find (leads (best ∷ xs)) xs) ≡ cond p (Some best) (cond q (Some x) (find (leads (best ∷ xs)) xs))
          skip true q f g = refl
          skip false false f g = refl
          skip false true f g = absurd (true≢false (sym (leads-below best x (best ∷ xs) e g) ∙ f))

  pub first-held : (xs : List X) → fold held None xs ≡ find (leads xs) xs
  first-held [] = refl
  first-held (x ∷ xs) = held-first x xs

-- ---- requests

-- the pass finds the first request
pub least_is_first : (key_of : Item → Key) (items : List Item) → least_of key_of items ≡ first_of key_of items
least_is_first key_of items = first-held key_order key_order_total key_of items
