-- Entries that are found under their numbers.
use Rattle.std.proofs.Common.{◌≡◌, ◌⊎◌, ℕ, Bool, true, false, cond, nat_eq, List, [], ◌∷◌, Some, inl, inr, refl, ap, subst, ◌∙◌, arith}
use Rattle.std.specs.Map.{lookup}
use Rattle.std.proofs.lemmas.Bool.Decides.{nat_tests}
use Rattle.std.proofs.lemmas.Option.{none-some, same_Some}
use Rattle.ynl_slots.specs.Slots.{HasDistinctNumbers, IsUnused}
use Rattle.ynl_cluster.proofs.requests.Members.{Among}

pub among-found : {X : Type 0} (n : ℕ) (row : X) (es : List (ℕ × X)) → lookup (nat_eq n) es ≡ Some row → Among (n, row) es
among-found n row [] found = absurd (none-some row found)
among-found {X = X} n row (e ∷ es) found = go (nat_eq n e.0) refl found (among-found n row es)
  where
    go : (b : Bool) → nat_eq n e.0 ≡ b → cond b (Some e.1) (lookup (nat_eq n) es) ≡ Some row → (lookup (nat_eq n) es ≡ Some row → Among (n, row) es) → (e ≡ (n, row)) ⊎ Among (n, row) es
    go true same found rest = inl (λ i. ((let is : e.0 ≡ n = grind (arith, nat_tests, same) in is) i, same_Some e.1 row found i))
    go false same found rest = inr (rest found)

unused-other : {X : Type 0} (n : ℕ) (x : ℕ × X) (es : List (ℕ × X)) → IsUnused n es → Among x es → nat_eq x.0 n ≡ false
unused-other n x [] unused there = absurd there
unused-other n x (e ∷ es) unused (inl is) = let apart = unused.0 in let same = ap (λ (o : ℕ × _). o.0) is in grind (arith, nat_tests, apart, same)
unused-other n x (e ∷ es) unused (inr there) = unused-other n x es unused.1 there

pub found-among : {X : Type 0} (x : ℕ × X) (es : List (ℕ × X)) → HasDistinctNumbers es → Among x es → lookup (nat_eq x.0) es ≡ Some x.1
found-among x [] distinct there = absurd there
found-among {X = X} x (e ∷ es) distinct (inl is) =
    subst (λ (y : ℕ × X). cond (nat_eq y.0 e.0) (Some e.1) (lookup (nat_eq y.0) es) ≡ Some y.1) is (ap (λ b. cond b (Some e.1) (lookup (nat_eq e.0) es)) (itself e.0))
  where
    itself : (n : ℕ) → nat_eq n n ≡ true
    itself n = grind (arith, nat_tests)
found-among x (e ∷ es) distinct (inr there) =
    ap (λ b. cond b (Some e.1) (lookup (nat_eq x.0) es)) (unused-other e.0 x es distinct.0 there) ∙ found-among x es distinct.1 there
