-- How siblings compare.
use Rattle.std.proofs.Common.{◌≡◌, ℕ, Bool, true, false, [], refl, sym, ap, ◌∙◌, arith}
use Rattle.std.specs.Prelude.{nat_lt}
use Rattle.std.specs.Ordering.{is_lt, is_gt, ordering_reverse, ordering_then}
use Rattle.std.specs.declared.cmp.Ordering.{Ordering}
use Rattle.std.specs.declared.cmp.Ordering.TheVariants.{Less, Equal, Greater}
use Rattle.std.specs.Cmp.Lexicographic.{nat_list_cmp_total}
use Rattle.std.proofs.lemmas.Cmp.{tied_itself}
use Rattle.std.proofs.lemmas.Map.Keys.{Less-from_sorted}
use Rattle.std.proofs.lemmas.Bool.{ltb-true, ltb-false}
use mathlib.Core.Bool.{true≢false}
use Rattle.ynl_resource.specs.Names.{name_order}
use Rattle.ynl_model.specs.Service.{Standing as Stands, standing_order, ratio_order}
use Rattle.ynl_laws.proofs.Service.OrderTotal.{standing_order_total}
use Rattle.ynl_search.specs.declared.descent.standing.Standing.{Standing}
use Rattle.ynl_search.specs.descent.Scenes.{Branch, HasPlace, name_at}
use Rattle.ynl_search.specs.descent.Turns.{AreInOrder, ratio_of, comes_before}

less : (o : Ordering) → is_lt o ≡ true → o ≡ Less
less Less h = refl
less Equal h = absurd (true≢false (sym h))
less Greater h = absurd (true≢false (sym h))

-- ---- of any two queues

pub before-trans : (x y z : Stands) → is_lt (standing_order x y) ≡ true → is_lt (standing_order y z) ≡ true → is_lt (standing_order x z) ≡ true
before-trans x y z h k = ap is_lt (standing_order_total.trans x y z (less _ h) (less _ k))

pub before-itself : (x : Stands) → is_lt (standing_order x x) ≡ false
before-itself x = ap is_lt (tied_itself standing_order_total x)

-- of two of which neither is before the other, they tie
pub tied : (x y : Stands) → is_lt (standing_order x y) ≡ false → is_lt (standing_order y x) ≡ false → standing_order x y ≡ Equal
tied x y h k = go (standing_order x y) h (ap is_lt (sym (standing_order_total.antisymm y x)) ∙ k)
  where
    go : (o : Ordering) → is_lt o ≡ false → is_lt (ordering_reverse o) ≡ false → o ≡ Equal
    go Less h k = absurd (true≢false h)
    go Equal h k = refl
    go Greater h k = absurd (true≢false k)

-- where the second is not before the first, the first is not after the second
pub not-after : (x y : Stands) → is_lt (standing_order y x) ≡ false → is_gt (standing_order x y) ≡ false
not-after x y h = ap is_gt (standing_order_total.antisymm x y) ∙ go (standing_order y x) h
  where
    go : (o : Ordering) → is_lt o ≡ false → is_gt (ordering_reverse o) ≡ false
    go Less h = absurd (true≢false h)
    go Equal h = refl
    go Greater h = refl

-- ---- of two in places

module _ (b : Branch) (ordered : AreInOrder b.children) where
  -- names that are in order compare as their places
  by-place : (i j : ℕ) → HasPlace b i → HasPlace b j → is_lt (name_order (name_at b i) (name_at b j)) ≡ nat_lt i j
  by-place i j inside within = go (nat_lt i j) refl
    where
      go : (o : Bool) → nat_lt i j ≡ o → is_lt (name_order (name_at b i) (name_at b j)) ≡ o
      go true e = ap is_lt (Less-from_sorted name_order b.children i j [] ordered (ltb-true i j e) within)
      go false e = other (nat_lt j i) refl
        where
          other : (o : Bool) → nat_lt j i ≡ o → is_lt (name_order (name_at b i) (name_at b j)) ≡ false
          other true k = ap is_lt (nat_list_cmp_total.antisymm (name_at b i) (name_at b j) ∙ ap ordering_reverse (Less-from_sorted name_order b.children j i [] ordered (ltb-true j i k) inside))
          other false k = (λ n. is_lt (name_order (name_at b i) (name_at b (same n)))) ∙ ap is_lt (tied_itself nat_list_cmp_total (name_at b i))
            where
              same : j ≡ i
              same = omega (arith, ltb-false i j e, ltb-false j i k)

  -- so do the children themselves, where their ratios tie
  pub same-ratio : (s other : Standing) → HasPlace b s.place → HasPlace b other.place → ratio_order (ratio_of s) (ratio_of other) ≡ Equal
      → nat_lt s.place other.place ≡ comes_before b s other
  same-ratio s other inside within e = sym (by-place s.place other.place inside within) ∙ ap is_lt (sym (ap then e))
    where
      then : Ordering → Ordering
      then o = ordering_then o (name_order (name_at b s.place) (name_at b other.place))
