-- What was submitted to tenants and leaves.
use Rattle.std.proofs.Common.{◌≡◌, ◌<◌, ◌+◌, ℕ, zero, suc, Bool, true, false, cond, List, [], ◌∷◌, map, length, slice_get, Some, option_map, nat_eq, refl, sym, ap, ◌∙◌, arith}
use Rattle.std.specs.List.{AllByRecursion}
use Rattle.std.specs.Map.{lookup}
use Rattle.std.specs.Option.{option_map_or}
use Rattle.std.proofs.lemmas.Bool.Decides.{nat_tests}
use Rattle.std.proofs.lemmas.Option.{none-some, slice_get-map}
use Rattle.ynl_resource.specs.Names.{same_name}
use Rattle.ynl_resource.specs.declared.names.Name.{Name}
use Rattle.ynl_resource.specs.declared.paths.Path.{Path}
use Rattle.ynl_laws.proofs.Lists.{Each-kept, Each-append}
use Rattle.ynl_inventory.specs.layout.Paths.{HasNumber}
use Rattle.ynl_tables.specs.declared.submissions.submissions.Submission.{Submission}
use Rattle.ynl_inventory.specs.Rows.{Rows, AppRow}
use Rattle.ynl_inventory.specs.Meaning.{app_name, submitted_to, submitted_in, tenant_at, has_none_below, leaves_from, leaf_numbers}
use Rattle.ynl_inventory.specs.Sound.{IsApp, IsSubmission, IsSound}
use Rattle.ynl_inventory.proofs.Lookups.{each-place}
use Rattle.ynl_inventory.proofs.Updates.{differ-places}

-- a tenant to which something was submitted is there
pub tenant-there : (tenants : List (List (Name × Submission))) (t turn : ℕ) (e : Name × Submission) → slice_get (submitted_to tenants t) turn ≡ Some e
    → slice_get tenants t ≡ Some (submitted_to tenants t)
tenant-there [] t turn e at = absurd (none-some e at)
tenant-there (entries ∷ tenants) zero turn e at = refl
tenant-there (entries ∷ tenants) (suc t) turn e at = tenant-there tenants t turn e at

module _ (v : Rows) (sound : IsSound v) (t turn : ℕ) (e : Name × Submission) (at : slice_get (submitted_to v.tenants t) turn ≡ Some e) where
  -- each submission is sound
  pub submission : IsSubmission v t turn e.1
  submission = (sound.tenants t (submitted_to v.tenants t) (tenant-there v.tenants t turn e at)).each turn e.0 e.1 at

  -- and its name has no other turn
  pub one-turn : (other : ℕ) (f : Name × Submission) → slice_get (submitted_to v.tenants t) other ≡ Some f → same_name e.0 f.0 ≡ true → turn ≡ other
  one-turn other f there same =
      differ-places (map (λ (e : Name × Submission). e.0) (submitted_to v.tenants t)) turn other e.0 f.0
      (sound.tenants t (submitted_to v.tenants t) (tenant-there v.tenants t turn e at)).names
      (slice_get-map (λ (e : Name × Submission). e.0) (submitted_to v.tenants t) turn ∙ ap (option_map (λ (e : Name × Submission). e.0)) at)
      (slice_get-map (λ (e : Name × Submission). e.0) (submitted_to v.tenants t) other ∙ ap (option_map (λ (e : Name × Submission). e.0)) there) same

module _ (v : Rows) (sound : IsSound v) (app : ℕ) (row : AppRow) (found : lookup (nat_eq app) v.apps ≡ Some row) where
  abbrev own : Name × Submission
  own = (app_name v.tenants row.tenant row.turn, record { leaf = row.leaf; app = Some app })

  -- a live application was submitted at its turn
  pub app-submitted : slice_get (submitted_to v.tenants row.tenant) row.turn ≡ Some own
  app-submitted =
      let is : IsApp v app row = sound.apps app row found in
      let name : is.name ≡ own.0 = sym (ap (λ o. option_map_or (λ (e : Name × Submission). e.0) o []) is.submitted) in
      is.submitted ∙ (λ i. Some (name i, own.1))

  pub app-submission : IsSubmission v row.tenant row.turn own.1
  app-submission = submission v sound row.tenant row.turn own app-submitted

-- what holds of each submission to a leaf, by its turn, holds of all that was submitted there
pub each-submitted : (v : Rows) (q : ℕ) (P : Name × Submission → Type 0)
    → ((turn : ℕ) (e : Name × Submission) → slice_get (submitted_to v.tenants (tenant_at v.paths q)) turn ≡ Some e → e.1.leaf ≡ q → P e)
    → AllByRecursion P (submitted_in v q)
each-submitted v q P h =
    Each-kept P (λ e. nat_eq e.1.leaf q) (submitted_to v.tenants (tenant_at v.paths q))
    (each-place (λ e. nat_eq e.1.leaf q ≡ true → P e) (submitted_to v.tenants (tenant_at v.paths q)) (λ turn e at is. h turn e at (grind (arith, nat_tests, is))))

-- ---- numbers of leaves

each-from : (all : List Path) (n : ℕ) (paths : List Path) → AllByRecursion (λ q. q < n + length paths) (leaves_from all n paths)
each-from all n [] = tt
each-from all n (path ∷ paths) =
    Each-append (λ q. q < n + suc (length paths)) (cond (has_none_below all path) (n ∷ []) []) (leaves_from all (n + 1) paths) (first (has_none_below all path))
    (further (leaves_from all (n + 1) paths) (each-from all (n + 1) paths))
  where
    first : (b : Bool) → AllByRecursion (λ q. q < n + suc (length paths)) (cond b (n ∷ []) [])
    first true = (omega arith, tt)
    first false = tt

    further : (qs : List ℕ) → AllByRecursion (λ q. q < n + 1 + length paths) qs → AllByRecursion (λ q. q < n + suc (length paths)) qs
    further [] h = tt
    further (q ∷ qs) h = (omega (arith, h.0), further qs h.1)

-- each leaf's number is that of a queue
pub each-leaf : (paths : List Path) → AllByRecursion (HasNumber paths) (leaf_numbers paths)
each-leaf paths = fits (leaf_numbers paths) (each-from paths 1 paths)
  where
    fits : (qs : List ℕ) → AllByRecursion (λ q. q < 1 + length paths) qs → AllByRecursion (HasNumber paths) qs
    fits [] h = tt
    fits (q ∷ qs) h = (omega (arith, h.0), fits qs h.1)
