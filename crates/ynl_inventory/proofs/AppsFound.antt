-- What a tenant and a name find among the leaves of sound rows.
use Rattle.std.proofs.Common.{◌≡◌, ℕ, zero, suc, ◌+◌, Bool, true, false, cond, ◌&&◌, ◌||◌, nat_eq, List, [], ◌∷◌, ◌++◌, map, find, slice_get, Option, None, Some, option_map, refl, sym, ap, subst, ◌∙◌, arith, true≢false}
use Rattle.std.specs.Prelude.{position}
use Rattle.std.specs.List.{AllByRecursion, filter_map, list_any}
use Rattle.std.specs.Map.{lookup}
use Rattle.std.specs.Option.{option_map_or, option_and_then}
use Rattle.std.proofs.lemmas.Bool.{and_from, and_parts}
use Rattle.std.proofs.lemmas.Bool.Decides.{nat_tests}
use Rattle.std.proofs.lemmas.Option.{same_Some, none-some, slice_get-get_or}
use Rattle.ynl_resource.specs.declared.names.Name.{Name}
use Rattle.ynl_resource.specs.declared.paths.Path.{Path}
use Rattle.ynl_resource.specs.Names.{root, same_name, same_path, tenant_of, top_level}
use Rattle.ynl_model.specs.Applications.{Application, LeafApps, find_app, leaf_of as leaf_found, row_of}
use Rattle.ynl_inventory.specs.layout.Paths.{HasNumber, path_at}
use Rattle.ynl_laws.proofs.Lists.{Each-all, Each-weaker, any-later, find-map, find-nothing}
use Rattle.ynl_laws.proofs.Names.{same-name_self, same-name_sym}
use Rattle.ynl_tables.specs.declared.submissions.submissions.Submission.{Submission}
use Rattle.ynl_inventory.specs.Rows.{Rows}
use Rattle.ynl_inventory.specs.Meaning.{has_none_below, leaf_numbers, leaves_from, leaf_of, live_of, submitted_in, submitted_to, tenant_at}
use Rattle.ynl_inventory.specs.Sound.{IsSound, IsSubmission, IsTenant}
use Rattle.ynl_tables.specs.submissions.Submissions.{turn_of}
use Rattle.ynl_tables.proofs.submissions.Turns.{unused_get}
use Rattle.ynl_inventory.proofs.Submitted.{each-leaf, tenant-there, submission}
use Rattle.ynl_inventory.proofs.Apps.{Entry, in_leaf, leaf-of_name, has-name, only-named, name_of, none-found, some-found}

-- the only number that passes is found
find-only : (p : ℕ → Bool) (x : ℕ) (xs : List ℕ) → AllByRecursion (λ y. p y ≡ true → y ≡ x) xs → p x ≡ true → list_any (nat_eq x) xs ≡ true → find p xs ≡ Some x
find-only p x [] only passes there = absurd (true≢false (sym there))
find-only p x (y ∷ ys) only passes there = go (p y) refl (nat_eq x y) refl there (λ k. find-only p x ys only.1 passes k)
  where
    go : (b : Bool) → p y ≡ b → (c : Bool) → nat_eq x y ≡ c → (c || list_any (nat_eq x) ys) ≡ true → (list_any (nat_eq x) ys ≡ true → find p ys ≡ Some x) → cond b (Some y) (find p ys) ≡ Some x
    go true q c e k rest = ap (λ (n : ℕ). Some n) (only.0 q)
    go false q true e k rest = let is : x ≡ y = grind (arith, nat_tests) in absurd (true≢false (sym passes ∙ ap p is ∙ q))
    go false q false e k rest = rest k

any-behind : (x : ℕ) (xs ys : List ℕ) → list_any (nat_eq x) ys ≡ true → list_any (nat_eq x) (xs ++ ys) ≡ true
any-behind x [] ys there = there
any-behind x (y ∷ xs) ys there = any-later (nat_eq x) y (xs ++ ys) (any-behind x xs ys there)

-- a leaf's number is among those of the leaves
has-leaf : (all : List Path) (n k : ℕ) (path : Path) (paths : List Path) → slice_get paths k ≡ Some path → has_none_below all path ≡ true → list_any (nat_eq (n + k)) (leaves_from all n paths) ≡ true
has-leaf all n k path [] at leaf = absurd (none-some path at)
has-leaf all n zero path (p ∷ ps) at leaf =
    ap (λ (b : Bool). list_any (nat_eq (n + 0)) (cond b (n ∷ []) [] ++ leaves_from all (n + 1) ps)) (ap (has_none_below all) (same_Some p path at) ∙ leaf)
    ∙ ap (λ (b : Bool). b || list_any (nat_eq (n + 0)) (leaves_from all (n + 1) ps)) first
  where
    first : nat_eq (n + 0) n ≡ true
    first = grind (arith, nat_tests)
has-leaf all n (suc k) path (p ∷ ps) at leaf =
    any-behind (n + suc k) (cond (has_none_below all p) (n ∷ []) []) (leaves_from all (n + 1) ps)
    (subst (λ (m : ℕ). list_any (nat_eq m) (leaves_from all (n + 1) ps) ≡ true) (omega arith) (has-leaf all (n + 1) k path ps at leaf))

-- a queue whose tenant is another's has that one's number for its tenant's
tenant-same : (paths : List Path) (q r : ℕ) → tenant_of (path_at paths q) ≡ tenant_of (path_at paths r) → tenant_at paths q ≡ tenant_at paths r
tenant-same paths q r same = ap (λ (name : Name). option_map_or (λ n. n + 1) (position (same_path (top_level name)) paths) 0) same

leaf-below : (paths : List Path) (q : ℕ) → has_none_below paths (path_at paths q) ≡ true → HasNumber paths q → (k : ℕ) × (q ≡ suc k) × (slice_get paths k ≡ Some (path_at paths q))
leaf-below paths zero leaf inside = absurd (true≢false (sym leaf))
leaf-below paths (suc k) leaf inside = (k, refl, slice_get-get_or paths k root (omega (arith, inside)))

pub leaf-among : (paths : List Path) (q : ℕ) → has_none_below paths (path_at paths q) ≡ true → HasNumber paths q → list_any (nat_eq q) (leaf_numbers paths) ≡ true
leaf-among paths q leaf inside =
    let b = leaf-below paths q leaf inside in
    subst (λ (n : ℕ). list_any (nat_eq n) (leaves_from paths 1 paths) ≡ true) (sym b.1) (subst (λ (n : ℕ). list_any (nat_eq n) (leaves_from paths 1 paths) ≡ true) (omega arith) (has-leaf paths 1 b.0 (path_at paths q) paths b.2 leaf))

-- a name that has no turn is no submission's
none-named : (name : Name) (es : List Entry) → turn_of name es ≡ None → list_any (same_name name) (map name_of es) ≡ false
none-named name es none = go es (unused_get es name none)
  where
    go : (es : List Entry) → lookup (same_name name) es ≡ None → list_any (same_name name) (map name_of es) ≡ false
    go [] h = refl
    go (e ∷ es) h = step (same_name name e.0) h (go es)
      where
        step : (b : Bool) → cond b (Some e.1) (lookup (same_name name) es) ≡ None → (lookup (same_name name) es ≡ None → list_any (same_name name) (map name_of es) ≡ false) → (b || list_any (same_name name) (map name_of es)) ≡ false
        step true k rest = absurd (none-some e.1 (sym k))
        step false k rest = rest k

-- nor is it one of a leaf's
none-in_leaf : (q : ℕ) (name : Name) (es : List Entry) → list_any (same_name name) (map name_of es) ≡ false → list_any (same_name name) (map name_of (in_leaf q es)) ≡ false
none-in_leaf q name [] h = refl
none-in_leaf q name (e ∷ es) h = go (nat_eq e.1.leaf q) (same_name name e.0) refl h (none-in_leaf q name es)
  where
    go : (b c : Bool) → same_name name e.0 ≡ c → (c || list_any (same_name name) (map name_of es)) ≡ false
        → (list_any (same_name name) (map name_of es) ≡ false → list_any (same_name name) (map name_of (in_leaf q es)) ≡ false)
        → list_any (same_name name) (map name_of (cond b (e ∷ in_leaf q es) (in_leaf q es))) ≡ false
    go b true same k rest = absurd (true≢false k)
    go true false same k rest = ap (λ (b : Bool). b || list_any (same_name name) (map name_of (in_leaf q es))) same ∙ rest k
    go false false same k rest = rest k

module _ (v : Rows) (h : IsSound v) where
  abbrev pub leaves : List LeafApps
  leaves = map (leaf_of v) (leaf_numbers v.paths)

  module _ (t turn : ℕ) (name : Name) (s : Submission) (at : slice_get (submitted_to v.tenants t) turn ≡ Some (name, s)) where
    abbrev pub tenant : Name
    tenant = tenant_of (path_at v.paths s.leaf)

    is-tenant : IsTenant v t (submitted_to v.tenants t)
    is-tenant = h.tenants t (submitted_to v.tenants t) (tenant-there v.tenants t turn (name, s) at)

    its : IsSubmission v t turn s
    its = submission v h t turn (name, s) at

    only : AllByRecursion (λ e. same_name name e.0 ≡ true → e ≡ (name, s)) (submitted_to v.tenants t)
    only = only-named (submitted_to v.tenants t) turn (name, s) is-tenant.names at

    -- what is submitted to a leaf of the tenant
    there : (q : ℕ) → tenant_of (path_at v.paths q) ≡ tenant → submitted_in v q ≡ in_leaf q (submitted_to v.tenants t)
    there q same = ap (λ (n : ℕ). in_leaf q (submitted_to v.tenants n)) (tenant-same v.paths q s.leaf same ∙ its.tenant)

    abbrev pub passes : ℕ → Bool
    passes q = same_name (tenant_of (path_at v.paths q)) tenant && list_any (same_name name) (map name_of (submitted_in v q))

    only-there : (q : ℕ) → passes q ≡ true → q ≡ s.leaf
    only-there q both =
        let same : tenant_of (path_at v.paths q) ≡ tenant = same-name_sym (tenant_of (path_at v.paths q)) tenant (and_parts _ _ both).0 in
        leaf-of_name q s.leaf name (submitted_to v.tenants t) (Each-weaker _ _ (λ e k same. ap (λ (x : Entry). x.1.leaf) (k same)) (submitted_to v.tenants t) only)
        (subst (λ (es : List Entry). list_any (same_name name) (map name_of es) ≡ true) (there q same) (and_parts _ _ both).1)

    passes-there : passes s.leaf ≡ true
    passes-there =
        and_from _ _ (same-name_self tenant)
        (subst (λ (es : List Entry). list_any (same_name name) (map name_of es) ≡ true) (sym (there s.leaf refl)) (has-name turn (name, s) (submitted_to v.tenants t) at))

    -- the leaf of the submission is found
    pub row-found : row_of leaves tenant name ≡ Some (leaf_of v s.leaf)
    row-found =
        find-map (leaf_of v) (λ row. same_name (tenant_of row.leaf) tenant && list_any (same_name name) row.names) (leaf_numbers v.paths)
        ∙ ap (option_map (leaf_of v)) (find-only passes s.leaf (leaf_numbers v.paths) (Each-all _ only-there (leaf_numbers v.paths)) passes-there (leaf-among v.paths s.leaf its.leaf its.there))

    pub leaf-found : leaf_found leaves tenant name ≡ Some (path_at v.paths s.leaf)
    unfolding leaf_found
    leaf-found = ap (option_map (λ (row : LeafApps). row.leaf)) row-found

    -- and the application, if it is live
    pub app-found : find_app leaves tenant name ≡ live_of v (name, s)
    unfolding find_app
    app-found =
        ap (option_and_then (λ (row : LeafApps). find (λ app. same_name app.name name) row.apps)) row-found
        ∙ ap (λ (es : List Entry). find (λ app. same_name app.name name) (filter_map (live_of v) es)) (there s.leaf refl)
        ∙ go (live_of v (name, s)) refl
      where
        go : (o : Option Application) → live_of v (name, s) ≡ o → find (λ app. same_name app.name name) (filter_map (live_of v) (in_leaf s.leaf (submitted_to v.tenants t))) ≡ o
        go None is = none-found v (name, s) (submitted_to v.tenants t) only is
        go (Some app) is = some-found v (name, s) app is turn (submitted_to v.tenants t) at only

  -- ---- where nothing is found

  -- where no leaf of the tenant has the name there is no row
  pub no-row : (tenant name : Name) → ((q : ℕ) → HasNumber v.paths q → tenant_of (path_at v.paths q) ≡ tenant → list_any (same_name name) (map name_of (submitted_in v q)) ≡ false)
      → row_of leaves tenant name ≡ None
  no-row tenant name h =
      find-map (leaf_of v) (λ row. same_name (tenant_of row.leaf) tenant && list_any (same_name name) row.names) (leaf_numbers v.paths)
      ∙ ap (option_map (leaf_of v)) (find-nothing _ (leaf_numbers v.paths) (Each-weaker _ _ fails (leaf_numbers v.paths) (each-leaf v.paths)))
    where
      fails : (q : ℕ) → HasNumber v.paths q → (same_name (tenant_of (path_at v.paths q)) tenant && list_any (same_name name) (map name_of (submitted_in v q))) ≡ false
      fails q inside = go (same_name (tenant_of (path_at v.paths q)) tenant) refl
        where
          go : (b : Bool) → same_name (tenant_of (path_at v.paths q)) tenant ≡ b → (b && list_any (same_name name) (map name_of (submitted_in v q))) ≡ false
          go true same = h q inside (same-name_sym _ tenant same)
          go false same = refl

  -- so where the tenant has no submission of the name
  pub no-submission : (t : ℕ) (tenant name : Name) → ((q : ℕ) → HasNumber v.paths q → tenant_of (path_at v.paths q) ≡ tenant → tenant_at v.paths q ≡ t)
      → turn_of name (submitted_to v.tenants t) ≡ None → row_of leaves tenant name ≡ None
  no-submission t tenant name at none =
      no-row tenant name
      (λ q inside same. subst (λ (n : ℕ). list_any (same_name name) (map name_of (in_leaf q (submitted_to v.tenants n))) ≡ false) (sym (at q inside same)) (none-in_leaf q name (submitted_to v.tenants t) (none-named name (submitted_to v.tenants t) none)))
