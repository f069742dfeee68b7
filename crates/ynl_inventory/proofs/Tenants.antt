-- A leaf's tenant has the name of the top-level queue above the leaf.
use Rattle.std.proofs.Common.{◌≡◌, ◌≢◌, ◌<◌, ◌≤◌, ◌+◌, ℕ, zero, suc, Bool, true, false, cond, not, nat_lt, nat_eq, List, [], ◌∷◌, ◌++◌, length, get_or, Some, None, refl, sym, ap, ◌∙◌, arith, add-one, length-append, true≢false, inl, inr}
use Rattle.std.specs.Prelude.{position}
use Rattle.std.specs.List.{position_or_len}
use Rattle.std.specs.Option.{option_map_or}
use Rattle.std.proofs.lemmas.Bool.{and_parts, cases_lt}
use Rattle.std.proofs.lemmas.Bool.Decides.{nat_tests}
use Rattle.std.proofs.lemmas.List.Sums.{passes_at_first, fails_before_first}
use Rattle.ynl_resource.specs.Names.{same_name, same_path, top_level, tenant_of, root}
use Rattle.ynl_resource.specs.declared.names.Name.{Name}
use Rattle.ynl_resource.specs.declared.paths.Path.{Path}
use Rattle.ynl_laws.proofs.Names.{same-path, same-name_self, same-name_sym}
use Rattle.ynl_model.specs.Service.{last_name}
use Rattle.ynl_inventory.specs.layout.Paths.{IsTree, HasNumber, HasParent, path_at}
use Rattle.std.specs.Map.{lookup}
use Rattle.std.proofs.lemmas.Option.{slice_get_within}
use Rattle.ynl_inventory.specs.Rows.{Rows, AppRow}
use Rattle.ynl_inventory.specs.Sound.{IsSubmission, IsSound}
use Rattle.ynl_inventory.proofs.Submitted.{tenant-there, app-submitted, app-submission}
use Rattle.ynl_inventory.proofs.Finding.{not-true}
use Rattle.ynl_inventory.specs.Meaning.{tenant_at, tenant_name, has_none_below, owner_of, app_name, submitted_to}
use Rattle.ynl_inventory.proofs.AppChange.{path-self}

module _ (paths : List Path) (tree : IsTree paths) where
  -- a queue whose path is the first name of a queue's path
  record HasTop (name : Name) : Type 0 where
    top : ℕ
    there : HasNumber paths top
    path : path_at paths top ≡ top_level name

  top-step : (n : ℕ) (name : Name) (rest : Path) → HasNumber paths n → path_at paths n ≡ name ∷ rest
      → ((m : ℕ) (more : Path) → length more < length rest → HasNumber paths m → path_at paths m ≡ name ∷ more → HasTop name) → HasTop name
  top-step zero name rest has is lower = absurd (cc is)
  top-step (suc n) name rest has is lower = go (path_at paths up.parent) refl
    where
      up : HasParent paths (suc n)
      up = tree.parents (suc n) (omega arith) has

      last : Name
      last = last_name (path_at paths (suc n))

      go : (path : Path) → path_at paths up.parent ≡ path → HasTop name
      go [] at =
          let alone : path_at paths (suc n) ≡ last ∷ [] = up.above ∙ ap (λ (path : Path). path ++ last ∷ []) at in
          record { top = suc n; there = has; path = cc (is, alone) }
      go (x ∷ path) at =
          let longer : path_at paths (suc n) ≡ x ∷ (path ++ last ∷ []) = up.above ∙ ap (λ (path : Path). path ++ last ∷ []) at in
          let first : x ≡ name = cc (is, longer) in
          let others : rest ≡ path ++ last ∷ [] = cc (is, longer) in
          lower up.parent path (omega (arith, length-append path (last ∷ []), ap (λ (path : Path). length path) others)) up.there (at ∙ ap (λ x. x ∷ path) first)

  top-from : (k n : ℕ) (name : Name) (rest : Path) → length rest ≤ k → HasNumber paths n → path_at paths n ≡ name ∷ rest → HasTop name
  top-from zero n name rest short has is = top-step n name rest has is (λ m more less h e. absurd (omega (arith, less, short)))
  top-from (suc k) n name rest short has is = top-step n name rest has is (λ m more less h e. top-from k m name more (omega (arith, less, short)) h e)

  -- the first path that is this name alone is found
  found-top : (name : Name) → HasTop name → path_at paths (option_map_or (λ n. n + 1) (position (same_path (top_level name)) paths) 0) ≡ top_level name
  found-top name is = go is.top is.there is.path
    where
      test : Path → Bool
      test = same_path (top_level name)

      within : (m : ℕ) → m < length paths → get_or paths m root ≡ top_level name → position_or_len (same_path (top_level name)) paths < length paths
      within m h at =
          elim (cases_lt m (position_or_len (same_path (top_level name)) paths)) [
            | inl before ↦
                let fails : same_path (top_level name) (get_or paths m root) ≡ false = fails_before_first (same_path (top_level name)) paths m root before in
                absurd (true≢false (sym (ap (same_path (top_level name)) at ∙ path-self (top_level name)) ∙ fails))
            | inr past ↦ omega (arith, past, h)
          ]

      go : (m : ℕ) → HasNumber paths m → path_at paths m ≡ top_level name → path_at paths (option_map_or (λ n. n + 1) (position (same_path (top_level name)) paths) 0) ≡ top_level name
      go zero h at = absurd (cc at)
      go (suc m) h at =
          let first : position_or_len (same_path (top_level name)) paths < length paths = within m (omega (arith, h)) at in
          let yes : nat_lt (position_or_len (same_path (top_level name)) paths) (length paths) ≡ true = grind (arith, nat_tests, first) in
          ap (λ b. path_at paths (option_map_or (λ n. n + 1) (cond b (Some (position_or_len (same_path (top_level name)) paths)) None) 0)) yes
          ∙ ap (path_at paths) (add-one (position_or_len (same_path (top_level name)) paths))
          ∙ sym (same-path (top_level name) (get_or paths (position_or_len (same_path (top_level name)) paths) root) (passes_at_first (same_path (top_level name)) paths root first))

  -- a leaf's tenant is the top-level queue of the leaf's first name
  pub tenant-top : (q : ℕ) → HasNumber paths q → has_none_below paths (path_at paths q) ≡ true → path_at paths (tenant_at paths q) ≡ top_level (tenant_of (path_at paths q))
  tenant-top q has leaf = go (path_at paths q) refl
    where
      go : (path : Path) → path_at paths q ≡ path → path_at paths (tenant_at paths q) ≡ top_level (tenant_of (path_at paths q))
      go [] is = absurd (true≢false (sym (and_parts _ _ leaf).0 ∙ ap (λ path. not (same_path path root)) is))
      go (name ∷ rest) is =
          let first : tenant_of (path_at paths q) ≡ name = ap tenant_of is in
          ap (λ name. path_at paths (option_map_or (λ n. n + 1) (position (same_path (top_level name)) paths) 0)) first
          ∙ found-top name (top-from (length rest) q name rest (omega arith) has is) ∙ sym (ap top_level first)

  -- and so has its name
  pub tenant-named : (q : ℕ) → HasNumber paths q → has_none_below paths (path_at paths q) ≡ true → tenant_name paths (tenant_at paths q) ≡ tenant_of (path_at paths q)
  tenant-named q has leaf = ap last_name (tenant-top q has leaf)

-- a live application has the tenant's name and its own
pub owner-named : (v : Rows) → IsSound v → (app : ℕ) (row : AppRow) → lookup (nat_eq app) v.apps ≡ Some row
    → owner_of v app ≡ (tenant_of (path_at v.paths row.leaf), app_name v.tenants row.tenant row.turn)
owner-named v sound app row found =
    let is = app-submission v sound app row found in
    ap (λ o. option_map_or (λ (row : AppRow). (tenant_name v.paths row.tenant, app_name v.tenants row.tenant row.turn)) o ([], [])) found
    ∙ (λ i. ((ap (tenant_name v.paths) (sym is.tenant) ∙ tenant-named v.paths sound.tree row.leaf is.there is.leaf) i, app_name v.tenants row.tenant row.turn))

-- and its tenant's number is a queue's
pub tenant-number : (v : Rows) → IsSound v → (app : ℕ) (row : AppRow) → lookup (nat_eq app) v.apps ≡ Some row → HasNumber v.paths row.tenant
tenant-number v sound app row found =
    let at = app-submitted v sound app row found in
    let there = slice_get_within v.tenants row.tenant (submitted_to v.tenants row.tenant) (tenant-there v.tenants row.tenant row.turn (app_name v.tenants row.tenant row.turn, record { leaf = row.leaf; app = Some app }) at) in
    omega (arith, sound.many, there)

-- an application is a tenant's where that is its tenant's number
pub tenant-tells : (v : Rows) → IsSound v → (app : ℕ) (row : AppRow) → lookup (nat_eq app) v.apps ≡ Some row → (t : ℕ) (tenant : Name) → HasNumber v.paths t → path_at v.paths t ≡ top_level tenant
    → same_name (tenant_of (path_at v.paths row.leaf)) tenant ≡ nat_eq row.tenant t
tenant-tells v sound app row found t tenant has is = go (nat_eq row.tenant t) refl
  where
    own : IsSubmission v row.tenant row.turn (record { leaf = row.leaf; app = Some app })
    own = app-submission v sound app row found

    top : path_at v.paths row.tenant ≡ top_level (tenant_of (path_at v.paths row.leaf))
    top = ap (path_at v.paths) (sym own.tenant) ∙ tenant-top v.paths sound.tree row.leaf own.there own.leaf

    there : HasNumber v.paths row.tenant
    there = tenant-number v sound app row found

    go : (b : Bool) → nat_eq row.tenant t ≡ b → same_name (tenant_of (path_at v.paths row.leaf)) tenant ≡ b
    go true q =
        let same : row.tenant ≡ t = grind (arith, nat_tests, q) in
        let tops : top_level (tenant_of (path_at v.paths row.leaf)) ≡ top_level tenant = sym top ∙ ap (path_at v.paths) same ∙ is in
        ap (λ name. same_name name tenant) (ap tenant_of tops) ∙ same-name_self tenant
    go false q =
        not-true (same_name (tenant_of (path_at v.paths row.leaf)) tenant)
        (λ same.
        let apart : row.tenant ≢ t = grind (arith, nat_tests, q) in
        apart (sound.tree.apart row.tenant t there has (top ∙ ap top_level (same-name_sym (tenant_of (path_at v.paths row.leaf)) tenant same) ∙ sym is)))
