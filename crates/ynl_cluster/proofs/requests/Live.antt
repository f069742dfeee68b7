-- The model's live applications are those of the rows.
use Rattle.std.proofs.Common.{◌≡◌, ℕ, true, nat_eq, List, [], slice_get, Option, None, Some, option_map, refl, sym, ap, subst, ◌∙◌, arith}
use Rattle.std.specs.Prelude.{option_and_then}
use Rattle.std.specs.List.{list_any}
use Rattle.std.specs.Map.{lookup}
use Rattle.std.specs.Option.{option_map_or}
use Rattle.std.proofs.lemmas.Bool.Decides.{nat_tests}
use Rattle.std.proofs.lemmas.Option.{none-some, same_Some}
use Rattle.ynl_resource.specs.declared.names.Name.{Name}
use Rattle.ynl_resource.specs.declared.paths.Path.{Path}
use Rattle.ynl_model.specs.Applications.{Application, LeafApps, all_apps}
use Rattle.ynl_tables.specs.declared.submissions.submissions.Submission.{Submission}
use Rattle.ynl_inventory.specs.Rows.{Rows, AppRow}
use Rattle.ynl_inventory.specs.Meaning.{app_name, application_of, leaf_numbers, leaf_of, live_of, submitted_in, submitted_to, tenant_at}
use Rattle.ynl_inventory.specs.Sound.{IsSound, IsSubmission}
use Rattle.ynl_inventory.proofs.AppsFound.{leaf-among, leaves}
use Rattle.ynl_inventory.proofs.Submitted.{app-submission, app-submitted, each-submitted, submission}
use Rattle.ynl_cluster.proofs.requests.Members.{Among, among-chosen, among-flat, among-map, any-among, chosen-among, each-among, filter-among, flat-among, map-among, place-among}

-- an application of the model is that of a live row
pub record IsOfRow (v : Rows) (app : Application) : Type 0 where
  pub number : ℕ
  pub row : AppRow
  pub found : lookup (nat_eq number) v.apps ≡ Some row
  pub is : app ≡ application_of v (app_name v.tenants row.tenant row.turn) row

number-among : (paths : List Path) (q : ℕ) → list_any (nat_eq q) (leaf_numbers paths) ≡ true → Among q (leaf_numbers paths)
number-among paths q h =
    let at = any-among (nat_eq q) (leaf_numbers paths) h in
    subst (λ n. Among n (leaf_numbers paths)) (sym (grind (arith, nat_tests, at.2))) at.1

itself : (n : ℕ) → nat_eq n n ≡ true
itself n = grind (arith, nat_tests)

module _ (v : Rows) (sound : IsSound v) where
  -- each live row has its application
  pub live-among : (n : ℕ) (row : AppRow) → lookup (nat_eq n) v.apps ≡ Some row → Among (application_of v (app_name v.tenants row.tenant row.turn) row) (all_apps (leaves v sound))
  live-among n row found =
      flat-among (λ (r : LeafApps). r.apps) (leaf_of v row.leaf) app (leaves v sound)
      (map-among (leaf_of v) row.leaf (leaf_numbers v.paths) (number-among v.paths row.leaf (leaf-among v.paths row.leaf its.leaf its.there)))
      (chosen-among (live_of v) own app (submitted_in v row.leaf)
      (filter-among (λ e. nat_eq e.1.leaf row.leaf) own (submitted_to v.tenants (tenant_at v.paths row.leaf)) (itself row.leaf) (place-among row.turn own (submitted_to v.tenants (tenant_at v.paths row.leaf)) there))
      (ap (option_map (application_of v own.0)) found))
    where
      own : Name × Submission
      own = (app_name v.tenants row.tenant row.turn, record { leaf = row.leaf; app = Some n })

      app : Application
      app = application_of v (app_name v.tenants row.tenant row.turn) row

      its : IsSubmission v row.tenant row.turn own.1
      its = app-submission v sound n row found

      there : slice_get (submitted_to v.tenants (tenant_at v.paths row.leaf)) row.turn ≡ Some own
      there = ap (λ t. slice_get (submitted_to v.tenants t) row.turn) its.tenant ∙ app-submitted v sound n row found

  -- what is submitted at a turn, and is live, has a row
  of-turn : (t turn : ℕ) (e : Name × Submission) (app : Application) → slice_get (submitted_to v.tenants t) turn ≡ Some e → live_of v e ≡ Some app → IsOfRow v app
  of-turn t turn (name, s) app at live = of-number s.app refl live
    where
      go : (n : ℕ) → s.app ≡ Some n → (o : Option AppRow) → lookup (nat_eq n) v.apps ≡ o → option_map (application_of v name) o ≡ Some app → IsOfRow v app
      go n is None found live = absurd (none-some app live)
      go n is (Some row) found live =
          let its = (submission v sound t turn (name, s) at).row n row is found in
          let named : app_name v.tenants row.tenant row.turn ≡ name =
          (λ i. app_name v.tenants (its.0 i) (its.1.0 i)) ∙ ap (λ o. option_map_or (λ (e : Name × Submission). e.0) o []) at in
          record {
            number = n;
            row = row;
            found = found;
            is = sym (same_Some (application_of v name row) app live) ∙ ap (λ own. application_of v own row) (sym named);
          }

      of-number : (o : Option ℕ) → s.app ≡ o → option_map (application_of v name) (option_and_then (λ n. lookup (nat_eq n) v.apps) o) ≡ Some app → IsOfRow v app
      of-number None is live = absurd (none-some app live)
      of-number (Some n) is live = go n is (lookup (nat_eq n) v.apps) refl live

  -- and each application has its row
  pub among-live : (app : Application) → Among app (all_apps (leaves v sound)) → IsOfRow v app
  among-live app there =
      let in_row = among-flat (λ (r : LeafApps). r.apps) app (leaves v sound) there in
      let in_leaf = among-map (leaf_of v) in_row.0 (leaf_numbers v.paths) in_row.1 in
      let chosen = among-chosen (live_of v) app (submitted_in v in_leaf.0) (subst (λ (r : LeafApps). Among app r.apps) (sym in_leaf.2) in_row.2) in
      let turn = each-among (IsAtTurnOf in_leaf.0) chosen.0 (submitted_in v in_leaf.0) (each-submitted v in_leaf.0 (IsAtTurnOf in_leaf.0) (λ turn e at same. (turn, at))) chosen.1 in
      of-turn (tenant_at v.paths in_leaf.0) turn.0 chosen.0 app turn.1 chosen.2
    where
      IsAtTurnOf : ℕ → Name × Submission → Type 0
      IsAtTurnOf q e = (turn : ℕ) × (slice_get (submitted_to v.tenants (tenant_at v.paths q)) turn ≡ Some e)
