-- The order of service is a total order: of two requests one is before the other, or their keys tie.
use Rattle.std.proofs.Common.{◌≡◌, refl, sym, ◌∙◌, ℕ, zero, ◌*◌, ◌<◌, Bool, true, false, cond, arith}
use Rattle.std.specs.Prelude.{◌==◌}
use Rattle.std.specs.Ordering.{nat_cmp, ordering_reverse, MatchOrdering}
use Rattle.std.specs.declared.cmp.Ordering.{Ordering}
use Rattle.std.specs.declared.cmp.Ordering.TheVariants.{Less, Equal, Greater}
use Rattle.std.specs.Cmp.{IsTotalOrder, nat_cmp_total, ranks, one_rank, below_irrefl, below_chain, then_total, on_total}
use Rattle.std.specs.Cmp.Lexicographic.{lists_total, nat_list_cmp_total}
use Rattle.std.proofs.Math.Nat.{lt_of_mul-lt-mul_right, eq_of_mul-eq-mul_right}
use Rattle.std.proofs.lemmas.Bool.{eqb-false}
use Rattle.ynl_resource.specs.declared.names.Name.{Name}
use Rattle.ynl_model.specs.Service.{Ratio, ratio_order, Standing, standing_order, Key, key_order}

scaled : (a b k : ℕ) (r : Ordering) → zero < k → MatchOrdering r (a * k < b * k) (a * k ≡ b * k) (b * k < a * k) → MatchOrdering r (a < b) (a ≡ b) (b < a)
scaled a b k Less pos h = lt_of_mul-lt-mul_right k h
scaled a b k Equal pos h = eq_of_mul-eq-mul_right k pos a b h
scaled a b k Greater pos h = lt_of_mul-lt-mul_right k h

-- two numbers compare as their multiples by a number that is not 0
nat_cmp-scaled : (a b k : ℕ) → zero < k → nat_cmp (a * k) (b * k) ≡ nat_cmp a b
nat_cmp-scaled a b k pos = one_rank (λ (x y : ℕ). x < y) below_irrefl below_chain a b (nat_cmp (a * k) (b * k)) (nat_cmp a b) (scaled a b k (nat_cmp (a * k) (b * k)) pos (ranks (a * k) (b * k))) (ranks a b)

swapped : (a b c : ℕ) → (a * b) * c ≡ (a * c) * b
swapped a b c = omega arith

-- ---- fractions, where those over 0 come last

abbrev by_zero : Bool → Bool → Ordering → Ordering
by_zero x y order = cond x (cond y Equal Greater) (cond y Less order)

equal_less : Equal ≡ Less → ⊥
equal_less e = cc

greater_less : Greater ≡ Less → ⊥
greater_less e = cc

greater_equal : Greater ≡ Equal → ⊥
greater_equal e = cc

less_equal : Less ≡ Equal → ⊥
less_equal e = cc

zero-antisymm : (x y : Bool) (o p : Ordering) → o ≡ ordering_reverse p → by_zero x y o ≡ ordering_reverse (by_zero y x p)
zero-antisymm true true o p e = refl
zero-antisymm true false o p e = refl
zero-antisymm false true o p e = refl
zero-antisymm false false o p e = e

zero-trans : (x y z : Bool) (o p q : Ordering) → (x ≡ false → y ≡ false → z ≡ false → o ≡ Less → p ≡ Less → q ≡ Less) → by_zero x y o ≡ Less → by_zero y z p ≡ Less → by_zero x z q ≡ Less
zero-trans true true z o p q f h k = absurd (equal_less h)
zero-trans true false z o p q f h k = absurd (greater_less h)
zero-trans false true true o p q f h k = absurd (equal_less k)
zero-trans false true false o p q f h k = absurd (greater_less k)
zero-trans false false true o p q f h k = refl
zero-trans false false false o p q f h k = f refl refl refl h k

zero-congr : (x y z : Bool) (o p q : Ordering) → (x ≡ false → y ≡ false → z ≡ false → o ≡ Equal → p ≡ q) → by_zero x y o ≡ Equal → by_zero x z p ≡ by_zero y z q
zero-congr true true z o p q f h = refl
zero-congr true false z o p q f h = absurd (greater_equal h)
zero-congr false true z o p q f h = absurd (less_equal h)
zero-congr false false true o p q f h = refl
zero-congr false false false o p q f h = f refl refl refl h

positive : (n : ℕ) → (n == 0) ≡ false → zero < n
positive n e = let not_zero : n ≡ 0 → ⊥ = eqb-false n 0 e in omega arith

-- two fractions over numbers that are not 0, brought over the third as well
widened : (u g v h k : ℕ) → zero < k → nat_cmp ((u * k) * h) ((v * k) * g) ≡ nat_cmp (u * h) (v * g)
widened u g v h k pos = (λ i. nat_cmp (swapped u k h i) (swapped v k g i)) ∙ nat_cmp-scaled (u * h) (v * g) k pos

ratio-trans : (x y z : Ratio) → zero < x.guaranteed → zero < y.guaranteed → zero < z.guaranteed →
    nat_cmp (x.used * y.guaranteed) (y.used * x.guaranteed) ≡ Less → nat_cmp (y.used * z.guaranteed) (z.used * y.guaranteed) ≡ Less →
    nat_cmp (x.used * z.guaranteed) (z.used * x.guaranteed) ≡ Less
ratio-trans x y z a b d h k =
    sym (nat_cmp-scaled (x.used * z.guaranteed) (z.used * x.guaranteed) y.guaranteed b)
    ∙ nat_cmp_total.trans ((x.used * z.guaranteed) * y.guaranteed) ((y.used * z.guaranteed) * x.guaranteed) ((z.used * x.guaranteed) * y.guaranteed)
    (widened x.used x.guaranteed y.used y.guaranteed z.guaranteed d ∙ h)
    ((λ i. nat_cmp ((y.used * z.guaranteed) * x.guaranteed) (swapped z.used x.guaranteed y.guaranteed i)) ∙ nat_cmp-scaled (y.used * z.guaranteed) (z.used * y.guaranteed) x.guaranteed a ∙ k)

ratio-congr : (x y z : Ratio) → zero < x.guaranteed → zero < y.guaranteed → zero < z.guaranteed →
    nat_cmp (x.used * y.guaranteed) (y.used * x.guaranteed) ≡ Equal → nat_cmp (x.used * z.guaranteed) (z.used * x.guaranteed) ≡ nat_cmp (y.used * z.guaranteed) (z.used * y.guaranteed)
ratio-congr x y z a b d h =
    sym (nat_cmp-scaled (x.used * z.guaranteed) (z.used * x.guaranteed) y.guaranteed b)
    ∙ nat_cmp_total.congr ((x.used * z.guaranteed) * y.guaranteed) ((y.used * z.guaranteed) * x.guaranteed) ((z.used * x.guaranteed) * y.guaranteed)
    (widened x.used x.guaranteed y.used y.guaranteed z.guaranteed d ∙ h)
    ∙ (λ i. nat_cmp ((y.used * z.guaranteed) * x.guaranteed) (swapped z.used x.guaranteed y.guaranteed i)) ∙ nat_cmp-scaled (y.used * z.guaranteed) (z.used * y.guaranteed) x.guaranteed a

pub ratio_order_total : IsTotalOrder ratio_order
ratio_order_total = record {
  antisymm = λ x y. zero-antisymm (x.guaranteed == 0) (y.guaranteed == 0) (nat_cmp (x.used * y.guaranteed) (y.used * x.guaranteed)) (nat_cmp (y.used * x.guaranteed) (x.used * y.guaranteed))
      (nat_cmp_total.antisymm (x.used * y.guaranteed) (y.used * x.guaranteed));
  trans = λ x y z h k. zero-trans (x.guaranteed == 0) (y.guaranteed == 0) (z.guaranteed == 0) _ _ _
      (λ a b d. ratio-trans x y z (positive x.guaranteed a) (positive y.guaranteed b) (positive z.guaranteed d)) h k;
  congr = λ x y z h. zero-congr (x.guaranteed == 0) (y.guaranteed == 0) (z.guaranteed == 0) _ _ _
      (λ a b d. ratio-congr x y z (positive x.guaranteed a) (positive y.guaranteed b) (positive z.guaranteed d)) h;
}

-- ---- whole keys

pub standing_order_total : IsTotalOrder standing_order
standing_order_total = then_total (on_total {J = Ratio} (λ (s : Standing). s.ratio) ratio_order_total) (on_total {J = Name} (λ (s : Standing). s.name) nat_list_cmp_total)

-- of any two keys one is before the other, or they tie, and what ties compares alike with every other
pub key_order_total : IsTotalOrder key_order
key_order_total = then_total (on_total (λ (k : Key). k.standings) (lists_total standing_order_total)) (on_total (λ (k : Key). k.turn) nat_list_cmp_total)
