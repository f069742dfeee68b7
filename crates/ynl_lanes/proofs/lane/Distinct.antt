-- How many users have a seat, where a caller knows them by name.
use Rattle.std.proofs.Common.{◌≡◌, ℕ, Bool, true, false, cond, ◌||◌, List, [], ◌∷◌, map, length, nat_eq, refl, sym, ap, ◌∙◌, arith, true≢false}
use Rattle.std.specs.List.{AllByRecursion, list_any}
use Rattle.std.specs.Cmp.Lexicographic.{bytes_decides}
use Rattle.std.proofs.lemmas.Bool.{eq-eqb, eqb-true}
use Rattle.ynl_resource.specs.declared.names.Name.{Name}
use Rattle.ynl_resource.specs.Names.{same_name}
use Rattle.ynl_model.specs.Limits.{distinct}
use Rattle.ynl_lanes.specs.lane.Seats.{each_once}

-- the users of some numbers have names that are told apart
module _ (name : ℕ → Name) (IsUser : ℕ → Type 0) (apart : (m n : ℕ) → IsUser m → IsUser n → same_name (name m) (name n) ≡ true → m ≡ n) where
  same_user : (m n : ℕ) → IsUser m → IsUser n → same_name (name m) (name n) ≡ nat_eq m n
  same_user m n is_m is_n = go (same_name (name m) (name n)) (nat_eq m n) refl refl
    where
      go : (b c : Bool) → same_name (name m) (name n) ≡ b → nat_eq m n ≡ c → b ≡ c
      go true true p q = refl
      go false false p q = refl
      go true false p q = absurd (true≢false (sym (eq-eqb m n (apart m n is_m is_n p)) ∙ q))
      go false true p q = absurd (true≢false (sym ((bytes_decides (name m) (name n)).1 (ap name (eqb-true m n q))) ∙ p))

  any_same : (m : ℕ) → IsUser m → (ns : List ℕ) → AllByRecursion IsUser ns → list_any (same_name (name m)) (map name ns) ≡ list_any (nat_eq m) ns
  any_same m is [] all = refl
  any_same m is (n ∷ ns) all = (let first = same_user m n is all.0 in let rest = any_same m is ns all.1 in λ i. first i || rest i)

  -- so as many numbers are counted as names
  pub counts_names : (ns : List ℕ) → AllByRecursion IsUser ns → length (each_once ns) ≡ length (distinct (map name ns))
  counts_names [] all = refl
  counts_names (n ∷ ns) all =
      go (list_any (nat_eq n) ns) (counts_names ns all.1) ∙ ap (λ (b : Bool). length (cond b (distinct (map name ns)) (name n ∷ distinct (map name ns)))) (sym (any_same n all.0 ns all.1))
    where
      go : (b : Bool) → length (each_once ns) ≡ length (distinct (map name ns)) → length (cond b (each_once ns) (n ∷ each_once ns)) ≡ length (cond b (distinct (map name ns)) (name n ∷ distinct (map name ns)))
      go true rest = rest
      go false rest = omega (arith, rest)
