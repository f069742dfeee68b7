-- The applications of names, by the numbers of their tenants.
use Rattle.std.proofs.Common.{◌≡◌, ◌≢◌, ℕ, Bool, true, false, cond, ◌||◌, zero, suc, nat_eq, is_some, IfNone, IfSome, List, [], ◌∷◌, map, find, slice_get, Option, None, Some, option_map, refl, sym, ap, subst, ◌∙◌, arith}
use Rattle.std.specs.List.{AllByRecursion, list_any}
use Rattle.std.specs.Map.{lookup}
use Rattle.std.specs.Option.{option_map_or, option_and_then}
use Rattle.std.proofs.lemmas.Option.{none-some, same_Some, slice_get_within}
use Rattle.ynl_resource.specs.Names.{same_name, tenant_of, top_level}
use Rattle.ynl_resource.specs.declared.names.Name.{Name}
use Rattle.ynl_model.specs.Applications.{LeafApps, find_app, leaf_of as leaf_found, row_of}
use Rattle.ynl_inventory.specs.layout.Paths.{HasNumber, path_at}
use Rattle.ynl_tables.specs.declared.submissions.submissions.Submission.{Submission}
use Rattle.ynl_tables.specs.submissions.Submissions.{turn_of}
use Rattle.ynl_tables.proofs.submissions.Turns.{turn_owns, unused_get}
use Rattle.ynl_inventory.specs.Rows.{Rows}
use Rattle.ynl_inventory.specs.Meaning.{app_name, app_number, application_of, has_none_below, live_of, submitted_in, submitted_to, tenant_at}
use Rattle.ynl_inventory.specs.Sound.{IsSound, IsSubmission}
use Rattle.ynl_inventory.proofs.Apps.{name_of}
use Rattle.ynl_inventory.proofs.AppsFound.{app-found, leaf-found, leaves, no-row}
use Rattle.ynl_inventory.proofs.Lookups.{live-found}
use Rattle.ynl_inventory.proofs.Submitted.{each-submitted, submission, tenant-there}
use Rattle.ynl_inventory.proofs.Tenants.{tenant-top}
use Rattle.ynl_cluster.specs.Cluster.{ClusterView, state_in}
use Rattle.ynl_replies.specs.admission.Named.{IsAppNamed}

-- ---- among the submissions of a tenant

-- a name that has no turn has none of them
unnamed : (name : Name) (es : List (Name × Submission)) → lookup (same_name name) es ≡ None → (turn : ℕ) (e : Name × Submission) → slice_get es turn ≡ Some e → same_name name e.0 ≡ false
unnamed name [] none turn e at = absurd (none-some e at)
unnamed name (x ∷ es) none turn e at = go (same_name name x.0) refl none turn at (unnamed name es)
  where
    go : (b : Bool) → same_name name x.0 ≡ b → cond b (Some x.1) (lookup (same_name name) es) ≡ None → (turn : ℕ) → slice_get (x ∷ es) turn ≡ Some e
        → (lookup (same_name name) es ≡ None → (turn : ℕ) (e : Name × Submission) → slice_get es turn ≡ Some e → same_name name e.0 ≡ false) → same_name name e.0 ≡ false
    go true q k turn at rest = absurd (none-some x.1 (sym k))
    go false q k zero at rest = subst (λ (y : Name × Submission). same_name name y.0 ≡ false) (same_Some x e at) q
    go false q k (suc turn) at rest = rest k turn e at

-- one that has a turn has that one
named-at : (name : Name) (es : List (Name × Submission)) (turn : ℕ) → turn_of name es ≡ Some turn → (s : Submission) × (slice_get es turn ≡ Some (name, s))
named-at name es turn is = go (slice_get es turn) refl (turn_owns es name (Some turn) (sym is))
  where
    go : (o : Option (Name × Submission)) → slice_get es turn ≡ o → option_map (λ e. e.0) o ≡ Some name → (s : Submission) × (slice_get es turn ≡ Some (name, s))
    go None at own = absurd (none-some name own)
    go (Some e) at own = (e.1, at ∙ (λ i. Some (same_Some e.0 name own i, e.1)))

-- where each fails a test, none passes it
none-of : (name : Name) (es : List (Name × Submission)) → AllByRecursion (λ e. same_name name e.0 ≡ false) es → list_any (same_name name) (map name_of es) ≡ false
none-of name [] h = refl
none-of name (e ∷ es) h = ap (λ b. b || list_any (same_name name) (map name_of es)) h.0 ∙ none-of name es h.1

-- ---- of a tenant and a name

module _ (w : ClusterView) (sound : IsSound w.rows) (tenant name : Name) where
  abbrev v : Rows
  v = w.rows

  -- a tenant to which something was submitted has a number
  number-there : (t turn : ℕ) (e : Name × Submission) → slice_get (submitted_to v.tenants t) turn ≡ Some e → HasNumber v.paths t
  number-there t turn e at =
      let there = slice_get_within v.tenants t (submitted_to v.tenants t) (tenant-there v.tenants t turn e at) in
      omega (arith, sound.many, there)

  -- there is no row where each submission to a leaf of the tenant has another name
  row-missing : ((q : ℕ) → path_at v.paths (tenant_at v.paths q) ≡ top_level tenant → HasNumber v.paths (tenant_at v.paths q)
      → (turn : ℕ) (e : Name × Submission) → slice_get (submitted_to v.tenants (tenant_at v.paths q)) turn ≡ Some e → same_name name e.0 ≡ false)
      → row_of (state_in w).leaves tenant name ≡ None
  row-missing fails =
      no-row v sound tenant name (λ q inside same. none-of name (submitted_in v q) (each-submitted v q (λ e. same_name name e.0 ≡ false)
      (λ turn e at is.
      let leaf : has_none_below v.paths (path_at v.paths q) ≡ true =
      subst (λ (n : ℕ). has_none_below v.paths (path_at v.paths n) ≡ true) is (submission v sound (tenant_at v.paths q) turn e at).leaf
      in
      fails q (tenant-top v.paths sound.tree q inside leaf ∙ ap top_level same) (number-there (tenant_at v.paths q) turn e at) turn e at)))

  -- without a row no application is found, and the name is not used
  app-none : row_of (state_in w).leaves tenant name ≡ None → find_app (state_in w).leaves tenant name ≡ None
  unfolding find_app
  app-none none = ap (option_and_then (λ (row : LeafApps). find (λ app. same_name app.name name) row.apps)) none

  leaf-none : row_of (state_in w).leaves tenant name ≡ None → leaf_found (state_in w).leaves tenant name ≡ None
  unfolding leaf_found
  leaf-none none = ap (option_map (λ (row : LeafApps). row.leaf)) none

  -- a tenant that is no top-level queue has none
  pub none-without : ((t : ℕ) → HasNumber v.paths t → path_at v.paths t ≢ top_level tenant) → find_app (state_in w).leaves tenant name ≡ None
  none-without none = app-none (row-missing (λ q top there turn e at. absurd (none (tenant_at v.paths q) there top)))

  module _ (t : ℕ) (has : HasNumber v.paths t) (own : path_at v.paths t ≡ top_level tenant) where
    abbrev entries : List (Name × Submission)
    entries = submitted_to v.tenants t

    -- a name that was not submitted to the tenant has no row
    no-row-of : turn_of name entries ≡ None → row_of (state_in w).leaves tenant name ≡ None
    no-row-of none =
        row-missing (λ q top there turn e at.
        unnamed name entries (unused_get entries name none) turn e
        (subst (λ (n : ℕ). slice_get (submitted_to v.tenants n) turn ≡ Some e) (sound.tree.apart (tenant_at v.paths q) t there has (top ∙ sym own)) at))

    module _ (turn : ℕ) (s : Submission) (at : slice_get entries turn ≡ Some (name, s)) where
      its : IsSubmission v t turn s
      its = submission v sound t turn (name, s) at

      -- the leaf of a submission is the tenant's
      is-tenant : tenant_of (path_at v.paths s.leaf) ≡ tenant
      is-tenant = ap tenant_of (sym (tenant-top v.paths sound.tree s.leaf its.there its.leaf) ∙ ap (path_at v.paths) its.tenant ∙ own)

      found-is : find_app (state_in w).leaves tenant name ≡ live_of v (name, s)
      found-is = ap (λ (tenant : Name). find_app (leaves v sound) tenant name) (sym is-tenant) ∙ app-found v sound t turn name s at

      leaf-is : leaf_found (state_in w).leaves tenant name ≡ Some (path_at v.paths s.leaf)
      leaf-is = ap (λ (tenant : Name). leaf_found (leaves v sound) tenant name) (sym is-tenant) ∙ leaf-found v sound t turn name s at

    -- the name is used where it has a turn
    pub used-is : is_some (leaf_found (state_in w).leaves tenant name) ≡ is_some (turn_of name entries)
    used-is = go (turn_of name entries) refl
      where
        go : (o : Option ℕ) → turn_of name entries ≡ o → is_some (leaf_found (state_in w).leaves tenant name) ≡ is_some o
        go None is = ap is_some (leaf-none (no-row-of is))
        go (Some turn) is = let its = named-at name entries turn is in ap is_some (leaf-is turn its.0 its.1)

    -- the live application of the name is that of its number
    abbrev Tells : Option ℕ → Type 0
    Tells o = IfSome o (IsAppNamed w tenant name) × IfNone o (find_app (state_in w).leaves tenant name ≡ None)

    tells : Tells (app_number name entries)
    tells = go (turn_of name entries) refl
      where
        live : (turn : ℕ) (s : Submission) → slice_get entries turn ≡ Some (name, s) → (o : Option ℕ) → s.app ≡ o → Tells o
        live turn s at None is = (tt, found-is turn s at ∙ ap (λ o. option_map (application_of v name) (option_and_then (λ n. lookup (nat_eq n) v.apps) o)) is)
        live turn s at (Some n) is =
            let row = live-found n v.apps (subst (λ (o : Option ℕ). IfSome o (λ n. is_some (lookup (nat_eq n) v.apps) ≡ true)) is (its turn s at).live) in
            let where_from = (its turn s at).row n row.0 is row.1 in
            let named : app_name v.tenants row.0.tenant row.0.turn ≡ name =
            (λ i. app_name v.tenants (where_from.0 i) (where_from.1.0 i)) ∙ ap (λ o. option_map_or (λ (e : Name × Submission). e.0) o []) at
            in (
              record {
                row = row.0;
                found = row.1;
                named = found-is turn s at ∙ ap (λ o. option_map (application_of v name) (option_and_then (λ n. lookup (nat_eq n) v.apps) o)) is
                    ∙ ap (option_map (application_of v name)) row.1 ∙ ap (λ (name : Name). Some (application_of v name row.0)) (sym named);
              },
              tt,
            )

        go : (o : Option ℕ) → turn_of name entries ≡ o → Tells (option_and_then (λ e. e.1.app) (option_and_then (slice_get entries) o))
        go None is = (tt, app-none (no-row-of is))
        go (Some turn) is =
            let its = named-at name entries turn is in
            subst (λ (o : Option (Name × Submission)). Tells (option_and_then (λ e. e.1.app) o)) (sym its.1) (live turn its.0 its.1 its.0.app refl)

    pub app-of-name : (o : Option ℕ) → o ≡ app_number name entries → IfSome o (IsAppNamed w tenant name)
    app-of-name o is = subst (λ (o : Option ℕ). IfSome o (IsAppNamed w tenant name)) (sym is) tells.0

    pub none-of-name : (o : Option ℕ) → o ≡ app_number name entries → IfNone o (find_app (state_in w).leaves tenant name ≡ None)
    none-of-name o is = subst (λ (o : Option ℕ). IfNone o (find_app (state_in w).leaves tenant name ≡ None)) (sym is) tells.1
