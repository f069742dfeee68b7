-- Entries under numbers: one comes last, and one goes.
use Rattle.std.proofs.Common.{◌≡◌, ℕ, ◌<◌, Bool, true, false, cond, List, [], ◌∷◌, ◌++◌, Some, refl, sym, ap, ◌∙◌}
use Rattle.std.specs.BTreeMap.{is_at, insert_entry}
use Rattle.std.specs.Cmp.{IsEquivalence, eq_by_cmp_equiv, nat_cmp_total, nat_cmp_is, unsigned_tied}
use Rattle.std.proofs.lemmas.Bool.{eqb-true}
use Rattle.std.specs.List.{AllByRecursion, IsDistinct}
use Rattle.std.specs.List.Sorted.{IsStrictlySortedBy}
use Rattle.std.specs.Map.{lookup, remove_entry, keys_of, values_of}
use Rattle.std.specs.Ordering.{nat_cmp, is_eq, eq_by_cmp, match_ordering}
use Rattle.std.specs.declared.cmp.Ordering.TheVariants.{Less, Equal, Greater}
use Rattle.std.proofs.lemmas.List.{map-append}
use Rattle.std.proofs.lemmas.Map.{NonePasses}
use Rattle.std.proofs.lemmas.Map.Entries.{none_past_head}
use Rattle.std.proofs.lemmas.Map.Keys.{IsDistinct-from_sorted, IsDistinct-tail}

-- whether a number is this one
abbrev pub at : ℕ → ℕ → Bool
at n = is_at (nat_cmp n)

pub laws : IsEquivalence (eq_by_cmp nat_cmp)
laws = eq_by_cmp_equiv nat_cmp_total

-- each number is below this one
abbrev pub Under : {X : Type 0} → ℕ → List (ℕ × X) → Type 0
Under n es = AllByRecursion (λ e. e.0 < n) es

-- no two numbers are the same
abbrev pub Differ : {X : Type 0} → List (ℕ × X) → Type 0
Differ es = IsDistinct (eq_by_cmp nat_cmp) (keys_of es)

pub differ : {X : Type 0} (es : List (ℕ × X)) → IsStrictlySortedBy nat_cmp (keys_of es) → Differ es
differ es rises = IsDistinct-from_sorted nat_cmp (keys_of es) rises

above : (n k : ℕ) → k < n → nat_cmp n k ≡ Greater
above n k lt = sym (nat_cmp_is n k Greater lt)

pub at_is : (n k : ℕ) → at n k ≡ true → n ≡ k
at_is n k h = eqb-true n k (sym (unsigned_tied n k) ∙ h)

pub at_self : (n : ℕ) → at n n ≡ true
at_self n = ap is_eq (sym (nat_cmp_is n n Equal refl))

-- a number is not one below it, nor one above it
pub not_at : (n k : ℕ) → k < n → at n k ≡ false
not_at n k lt = ap is_eq (above n k lt)

pub not_above : (n k : ℕ) → n < k → at n k ≡ false
not_above n k lt = ap is_eq (sym (nat_cmp_is n k Less lt))

module _ {X : Type 0} where
  pub each_append : (P : X → Type 0) (xs : List X) (x : X) → AllByRecursion P xs → P x → AllByRecursion P (xs ++ x ∷ [])
  each_append P [] x h p = (p, tt)
  each_append P (y ∷ xs) x h p = (h.0, each_append P xs x h.1 p)

  pub values_last : (es : List (ℕ × X)) (e : ℕ × X) → values_of (es ++ e ∷ []) ≡ values_of es ++ e.1 ∷ []
  values_last es e = map-append (λ (e : ℕ × X). e.1) es (e ∷ [])

  pub each_removed : (P : ℕ × X → Type 0) (test : ℕ → Bool) (es : List (ℕ × X)) → AllByRecursion P es → AllByRecursion P (remove_entry test es)
  each_removed P test [] h = tt
  each_removed P test (e ∷ es) h = go (test e.0) (each_removed P test es h.1)
    where
      go : (b : Bool) → AllByRecursion P (remove_entry test es) → AllByRecursion P (cond b es (e ∷ remove_entry test es))
      go true k = h.1
      go false k = (h.0, k)

  module _ (n : ℕ) (x : X) where
    -- a number above all others comes last
    pub comes_last : (es new : List (ℕ × X)) → Under n es → new ≡ insert_entry nat_cmp es n x → new ≡ es ++ (n, x) ∷ []
    comes_last es new under is = is ∙ inserted es under
      where
        inserted : (es : List (ℕ × X)) → Under n es → insert_entry nat_cmp es n x ≡ es ++ (n, x) ∷ []
        inserted [] h = refl
        inserted (e ∷ es) h = ap (λ o. match_ordering o ((n, x) ∷ e ∷ es) ((e.0, x) ∷ es) (e ∷ insert_entry nat_cmp es n x)) (above n e.0 h.0) ∙ ap (λ rest. e ∷ rest) (inserted es h.1)

    -- and goes again
    pub goes_again : (es new rest : List (ℕ × X)) → Under n es → new ≡ insert_entry nat_cmp es n x → rest ≡ remove_entry (at n) new → rest ≡ es
    goes_again es new rest under is left = left ∙ ap (λ es. remove_entry (at n) es) (comes_last es new under is) ∙ removed es under
      where
        removed : (es : List (ℕ × X)) → Under n es → remove_entry (at n) (es ++ (n, x) ∷ []) ≡ es
        removed [] h = ap (λ b. cond b [] ((n, x) ∷ [])) (at_self n)
        removed (e ∷ es) h = ap (λ b. cond b (es ++ (n, x) ∷ []) (e ∷ remove_entry (at n) (es ++ (n, x) ∷ []))) (not_at n e.0 h.0) ∙ ap (λ rest. e ∷ rest) (removed es h.1)

  -- what goes is not the last
  pub removed_before : (n : ℕ) (x : X) (es : List (ℕ × X)) (last : ℕ × X) → lookup (at n) es ≡ Some x → remove_entry (at n) (es ++ last ∷ []) ≡ remove_entry (at n) es ++ last ∷ []
  removed_before n x [] last h = absurd (cc)
  removed_before n x (e ∷ es) last h = go (at n e.0) h (removed_before n x es last)
    where
      go : (b : Bool) → cond b (Some e.1) (lookup (at n) es) ≡ Some x → (lookup (at n) es ≡ Some x → remove_entry (at n) (es ++ last ∷ []) ≡ remove_entry (at n) es ++ last ∷ [])
          → cond b (es ++ last ∷ []) (e ∷ remove_entry (at n) (es ++ last ∷ [])) ≡ cond b es (e ∷ remove_entry (at n) es) ++ last ∷ []
      go true k rest = refl
      go false k rest = ap (λ es. e ∷ es) (rest k)

  -- what has gone is not there
  pub none_left : (n : ℕ) (es : List (ℕ × X)) → Differ es → NonePasses (at n) (remove_entry (at n) es)
  none_left n [] d = tt
  none_left n (e ∷ es) d = go (at n e.0) refl (none_left n es (IsDistinct-tail (eq_by_cmp nat_cmp) e.0 (keys_of es) d))
    where
      go : (b : Bool) → at n e.0 ≡ b → NonePasses (at n) (remove_entry (at n) es) → NonePasses (at n) (cond b es (e ∷ remove_entry (at n) es))
      go true p k = none_past_head laws n e es d p
      go false p k = (p, k)
