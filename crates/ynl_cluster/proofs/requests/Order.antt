-- Applications of one leaf stand there in the order of the rows.
use Rattle.std.proofs.Common.{◌≡◌, ◌≢◌, ◌⊎◌, ◌+◌, ◌<◌, ℕ, Bool, true, false, not, cond, nat_eq, List, [], ◌∷◌, map, filter, Some, inl, inr, refl, sym, ap, subst, ◌∙◌, arith}
use Rattle.std.specs.List.{AllByRecursion, position_or_len}
use Rattle.std.specs.Map.{lookup}
use Rattle.std.specs.Ordering.{nat_cmp}
use Rattle.std.proofs.lemmas.Bool.{false_from_ne_true}
use Rattle.std.proofs.lemmas.Bool.Decides.{nat_tests}
use Rattle.std.proofs.lemmas.Option.{none-some, same_Some}
use Rattle.std.specs.Prelude.{◌&&◌}
use Rattle.ynl_resource.specs.Names.{same_name, tenant_of}
use Rattle.ynl_resource.specs.declared.names.Name.{Name}
use Rattle.ynl_model.specs.Service.{place_in_leaf}
use Rattle.ynl_model.specs.declared.queues.StopRow.{StopRow}
use Rattle.ynl_model.specs.declared.queues.MaximumRow.{MaximumRow}
use Rattle.ynl_resource.specs.declared.paths.Path.{Path}
use Rattle.ynl_laws.proofs.Lists.{Each-kept}
use Rattle.ynl_laws.proofs.Names.{same-name_self}
use Rattle.ynl_inventory.specs.layout.Paths.{path_at}
use Rattle.ynl_slots.specs.Slots.{HasDistinctNumbers, IsUnused}
use Rattle.ynl_inventory.specs.Rows.{Rows, AppRow}
use Rattle.ynl_inventory.specs.Meaning.{app_of, owner_of, state_of}
use Rattle.ynl_inventory.specs.Sound.{IsSound}
use Rattle.ynl_inventory.proofs.Tenants.{owner-named}
use Rattle.ynl_inventory.proofs.Updates.{each-number}
use Rattle.ynl_cluster.specs.requests.Laws.{AreListed, in_leaf, place_of}
use Rattle.ynl_cluster.proofs.requests.Running.{owner-tells}

-- ---- places in a part of a list

-- the place of a number
abbrev pub place : {X : Type 0} → ℕ → List (ℕ × X) → ℕ
place n es = position_or_len (λ e. nat_eq e.0 n) es

-- a number is in a list
abbrev pub IsIn : {X : Type 0} → ℕ → List (ℕ × X) → Type 0
IsIn n [] = ⊥
IsIn n (e ∷ es) = (e.0 ≡ n) ⊎ IsIn n es

in-kept : {X : Type 0} (test : ℕ × X → Bool) (n : ℕ) (es : List (ℕ × X)) → IsIn n (filter test es) → IsIn n es
in-kept test n [] there = there
in-kept {X = X} test n (e ∷ es) there = go (test e) there (in-kept test n es)
  where
    go : (b : Bool) → IsIn n (cond b (e ∷ filter test es) (filter test es)) → (IsIn n (filter test es) → IsIn n es) → (e.0 ≡ n) ⊎ IsIn n es
    go true (inl is) rest = inl is
    go true (inr there) rest = inr (rest there)
    go false there rest = inr (rest there)

-- an unused number is not in the list
pub not-in : {X : Type 0} (n : ℕ) (es : List (ℕ × X)) → IsUnused n es → IsIn n es → ⊥
not-in n [] unused there = there
not-in n (e ∷ es) unused (inl is) = unused.0 is
not-in n (e ∷ es) unused (inr there) = not-in n es unused.1 there

-- one step further in both lists
compared : (a b : ℕ) → nat_cmp (1 + a) (1 + b) ≡ nat_cmp a b
compared a b = grind (arith, nat_tests)

-- what stands behind another is one place further with it
behind-one : {X : Type 0} (e : ℕ × X) (es : List (ℕ × X)) (n : ℕ) → IsUnused e.0 es → IsIn n es → place n (e ∷ es) ≡ 1 + place n es
behind-one e es n unused there =
    ap (λ b. cond (not b) (1 + place n es) 0)
    (false_from_ne_true (nat_eq e.0 n) (λ same. not-in e.0 es unused (subst (λ k. IsIn k es) (sym (grind (arith, nat_tests, same))) there)))

-- one number stands before another
abbrev pub Precedes : {X : Type 0} → ℕ → ℕ → List (ℕ × X) → Type 0
Precedes m n [] = ⊥
Precedes m n (e ∷ es) = ((e.0 ≡ m) × IsIn n es) ⊎ Precedes m n es

-- and so both are there
both-in : {X : Type 0} (m n : ℕ) (es : List (ℕ × X)) → Precedes m n es → IsIn m es × IsIn n es
both-in m n [] before = absurd before
both-in m n (e ∷ es) (inl here) = (inl here.0, inr here.1)
both-in m n (e ∷ es) (inr before) = let there = both-in m n es before in (inr there.0, inr there.1)

-- its place is lower
pub precedes-place : {X : Type 0} (m n : ℕ) (es : List (ℕ × X)) → HasDistinctNumbers es → Precedes m n es → place m es < place n es
precedes-place m n [] distinct before = absurd before
precedes-place m n (e ∷ es) distinct (inl here) =
    let own : nat_eq e.0 m ≡ true = grind (arith, nat_tests, here.0) in
    let first : place m (e ∷ es) ≡ 0 = ap (λ b. cond (not b) (1 + place m es) 0) own in
    let second = behind-one e es n distinct.0 here.1 in
    omega (arith, first, second)
precedes-place m n (e ∷ es) distinct (inr before) =
    let there = both-in m n es before in
    let first = behind-one e es m distinct.0 there.0 in
    let second = behind-one e es n distinct.0 there.1 in
    let less = precedes-place m n es distinct.1 before in
    omega (arith, first, second, less)

module _ {X : Type 0} (test : ℕ × X → Bool) where
  -- numbers that are kept compare by their places as before
  pub order-kept : (es : List (ℕ × X)) → HasDistinctNumbers es → (a b : ℕ) → IsIn a (filter test es) → IsIn b (filter test es)
      → nat_cmp (place a (filter test es)) (place b (filter test es)) ≡ nat_cmp (place a es) (place b es)
  order-kept [] distinct a b first second = absurd first
  order-kept (e ∷ es) distinct a b first second = go (test e) first second (order-kept es distinct.1 a b)
    where
      further : (n : ℕ) → nat_eq e.0 n ≡ false → IsIn n (e ∷ filter test es) → IsIn n (filter test es)
      further n other (inl is) = absurd ((λ (ne : e.0 ≢ n). ne is) (grind (arith, nat_tests, other)))
      further n other (inr there) = there

      behind : (n : ℕ) → IsIn n (filter test es) → place n (e ∷ es) ≡ 1 + place n es
      behind n there = behind-one e es n distinct.0 (in-kept test n es there)

      ahead : (x y : Bool) → nat_eq e.0 a ≡ x → nat_eq e.0 b ≡ y → (IsIn a (filter test es) → IsIn b (filter test es) → nat_cmp (place a (filter test es)) (place b (filter test es)) ≡ nat_cmp (place a es) (place b es))
          → IsIn a (e ∷ filter test es) → IsIn b (e ∷ filter test es)
          → nat_cmp (cond (not x) (1 + place a (filter test es)) 0) (cond (not y) (1 + place b (filter test es)) 0) ≡ nat_cmp (cond (not x) (1 + place a es) 0) (cond (not y) (1 + place b es) 0)
      ahead true true p q rest first second = refl
      ahead true false p q rest first second = grind (arith, nat_tests)
      ahead false true p q rest first second = grind (arith, nat_tests)
      ahead false false p q rest first second =
          compared (place a (filter test es)) (place b (filter test es)) ∙ rest (further a p first) (further b q second) ∙ sym (compared (place a es) (place b es))

      go : (t : Bool) → IsIn a (cond t (e ∷ filter test es) (filter test es)) → IsIn b (cond t (e ∷ filter test es) (filter test es))
          → (IsIn a (filter test es) → IsIn b (filter test es) → nat_cmp (place a (filter test es)) (place b (filter test es)) ≡ nat_cmp (place a es) (place b es))
          → nat_cmp (place a (cond t (e ∷ filter test es) (filter test es))) (place b (cond t (e ∷ filter test es) (filter test es))) ≡ nat_cmp (place a (e ∷ es)) (place b (e ∷ es))
      go true first second rest = ahead (nat_eq e.0 a) (nat_eq e.0 b) refl refl rest first second
      go false first second rest = rest first second ∙ sym (compared (place a es) (place b es)) ∙ (λ i. nat_cmp (sym (behind a first) i) (sym (behind b second) i))

-- ---- places in a leaf

place-map : {X Y : Type 0} (f : X → Y) (p : Y → Bool) (xs : List X) → position_or_len p (map f xs) ≡ position_or_len (λ x. p (f x)) xs
place-map f p [] = refl
place-map f p (x ∷ xs) = ap (λ n. cond (not (p (f x))) (1 + n) 0) (place-map f p xs)

place-agree : {X : Type 0} (p q : X → Bool) (xs : List X) → AllByRecursion (λ x. p x ≡ q x) xs → position_or_len p xs ≡ position_or_len q xs
place-agree p q [] same = refl
place-agree p q (x ∷ xs) same = λ i. cond (not (same.0 i)) (1 + place-agree p q xs same.1 i) 0

-- a number that is found, and passes, is kept
found-kept : {X : Type 0} (test : ℕ × X → Bool) (n : ℕ) (row : X) (es : List (ℕ × X)) → lookup (nat_eq n) es ≡ Some row → test (n, row) ≡ true → IsIn n (filter test es)
found-kept test n row [] found passes = absurd (none-some row found)
found-kept {X = X} test n row (e ∷ es) found passes = go (nat_eq n e.0) refl found (found-kept test n row es)
  where
    kept : (b : Bool) → IsIn n (filter test es) → IsIn n (cond b (e ∷ filter test es) (filter test es))
    kept true there = inr there
    kept false there = there

    go : (b : Bool) → nat_eq n e.0 ≡ b → cond b (Some e.1) (lookup (nat_eq n) es) ≡ Some row → (lookup (nat_eq n) es ≡ Some row → test (n, row) ≡ true → IsIn n (filter test es)) → IsIn n (filter test (e ∷ es))
    go true same found rest =
        let is : e.0 ≡ n = grind (arith, nat_tests, same) in
        let here : test e ≡ true = (λ i. test (is i, same_Some e.1 row found i)) ∙ passes in
        subst (λ b. IsIn n (cond b (e ∷ filter test es) (filter test es))) (sym here) (inl is)
    go false same found rest = kept (test e) (rest found passes)

module _ (v : Rows) (sound : IsSound v) (stops : List StopRow) (maxima : List MaximumRow) (q : ℕ) (listed : AreListed v stops maxima q) where
  abbrev leaf : Path
  leaf = path_at v.paths q

  module _ (n : ℕ) (row : AppRow) (found : lookup (nat_eq n) v.apps ≡ Some row) (own : row.leaf ≡ q) where
    -- of the applications of the leaf it alone has its name
    named : AllByRecursion (λ e. same_name (app_of v e).name (app_of v (n, row)).name ≡ nat_eq e.0 n) (in_leaf q v.apps)
    named =
        Each-kept (λ e. same_name (app_of v e).name (app_of v (n, row)).name ≡ nat_eq e.0 n) (λ e. nat_eq e.1.leaf q) v.apps
        (each-number (λ m other. nat_eq other.leaf q ≡ true → same_name (app_of v (m, other)).name (app_of v (n, row)).name ≡ nat_eq m n) v.apps sound.app_numbers one)
      where
        one : (m : ℕ) (other : AppRow) → lookup (nat_eq m) v.apps ≡ Some other → nat_eq other.leaf q ≡ true → same_name (app_of v (m, other)).name (app_of v (n, row)).name ≡ nat_eq m n
        one m other at there =
            let here : other.leaf ≡ row.leaf = grind (arith, nat_tests, there) ∙ sym own in
            let owner = owner-named v sound m other at in
            let tenant : same_name (owner_of v m).0 (tenant_of (path_at v.paths row.leaf)) ≡ true =
            ap (λ (o : Name × Name). same_name o.0 (tenant_of (path_at v.paths row.leaf))) owner
            ∙ ap (λ l. same_name (tenant_of (path_at v.paths l)) (tenant_of (path_at v.paths row.leaf))) here
            ∙ same-name_self (tenant_of (path_at v.paths row.leaf)) in
            ap (λ (o : Name × Name). same_name o.1 (app_of v (n, row)).name) (sym owner)
            ∙ ap (λ b. b && same_name (owner_of v m).1 (app_of v (n, row)).name) (sym tenant)
            ∙ owner-tells v sound m other at n row found

    pub place-is : place_in_leaf (state_of v stops maxima) leaf (app_of v (n, row)).name ≡ place n (in_leaf q v.apps)
    place-is =
        ap (position_or_len (λ app. same_name app.name (app_of v (n, row)).name)) listed
        ∙ place-map (app_of v) (λ app. same_name app.name (app_of v (n, row)).name) (in_leaf q v.apps)
        ∙ place-agree (λ e. same_name (app_of v e).name (app_of v (n, row)).name) (λ e. nat_eq e.0 n) (in_leaf q v.apps) named

    kept : IsIn n (in_leaf q v.apps)
    kept = found-kept (λ e. nat_eq e.1.leaf q) n row v.apps found (ap (λ l. nat_eq l q) own ∙ itself q)
      where
        itself : (k : ℕ) → nat_eq k k ≡ true
        itself k = grind (arith, nat_tests)

  -- two applications of the leaf compare there by their places among the rows
  pub order-means : (m : ℕ) (other : AppRow) → lookup (nat_eq m) v.apps ≡ Some other → other.leaf ≡ q → (n : ℕ) (row : AppRow) → lookup (nat_eq n) v.apps ≡ Some row → row.leaf ≡ q
      → nat_cmp (place_in_leaf (state_of v stops maxima) (path_at v.paths q) (app_of v (m, other)).name) (place_in_leaf (state_of v stops maxima) (path_at v.paths q) (app_of v (n, row)).name)
      ≡ nat_cmp (place_of v m) (place_of v n)
  order-means m other at there n row found own =
      (λ i. nat_cmp (place-is m other at there i) (place-is n row found own i))
      ∙ order-kept (λ e. nat_eq e.1.leaf q) v.apps sound.app_numbers m n (kept m other at there) (kept n row found own)
