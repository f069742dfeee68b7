-- Submissions in their turns, and the lines that tell them.
use Rattle.std.proofs.Common.{◌≡◌, ◌≢◌, ℕ, true, false, cond, List, [], ◌∷◌, slice_get, None, Some, option_map, nat_eq, sym, ap, ◌∙◌, arith}
use Rattle.std.specs.Map.{lookup}
use Rattle.std.specs.Option.{option_and_then, option_map_or}
use Rattle.std.proofs.lemmas.Bool.Decides.{nat_tests}
use Rattle.std.proofs.lemmas.Option.{same_Some}
use Rattle.ynl_resource.specs.declared.names.Name.{Name}
use Rattle.ynl_tables.proofs.containers.Removing.{at_live}
use Rattle.ynl_inventory.specs.layout.Paths.{path_at}
use Rattle.ynl_slots.specs.Slots.{IsLive}
use Rattle.ynl_tables.specs.declared.submissions.submissions.Submission.{Submission}
use Rattle.ynl_inventory.specs.Rows.{AppRow, Rows}
use Rattle.ynl_inventory.specs.Meaning.{app_of, application_of, live_of, submitted_to}
use Rattle.ynl_inventory.specs.Parts.{Held}
use Rattle.ynl_inventory.specs.Sound.{IsSound}
use Rattle.ynl_inventory.proofs.Lookups.{live-found}
use Rattle.ynl_inventory.proofs.Submitted.{submission}
use Rattle.ynl_cluster.specs.Cluster.{ClusterView, held_in}
use Rattle.ynl_saved.specs.declared.lines.StateLine.TheVariants.{Finished}
use Rattle.ynl_saved.specs.Saving.{live_lines}
use Rattle.ynl_snapshots.specs.saving.Told.{submission_lines}
use Rattle.ynl_snapshots.proofs.saving.Apps.{live-is}

module _ (w : ClusterView) (h : Held) (is : h ≡ held_in w) (t : ℕ) (entries : List (Name × Submission)) (are : entries ≡ submitted_to h.rows.tenants t) where
  -- what was submitted is that of the rows
  pub same-entries : entries ≡ submitted_to w.rows.tenants t
  same-entries = are ∙ ap (λ (h : Held). submitted_to h.rows.tenants t) is

  -- what is read of a turn is read of the entry there
  pub read-entry : {Y : Type 0} (f : Name × Submission → Y) (turn : ℕ) (y : Y) → option_map f (slice_get entries turn) ≡ Some y → (e : Name × Submission) → slice_get (submitted_to w.rows.tenants t) turn ≡ Some e → f e ≡ y
  read-entry f turn y read e at = same_Some (f e) y (sym (ap (λ es. option_map f (slice_get es turn)) same-entries ∙ ap (option_map f) at) ∙ read)

-- one that was submitted to another leaf has no line there
pub other-leaf : (v : Rows) (q : ℕ) (e : Name × Submission) (s : Submission) → e.1 ≡ s → (s.leaf ≡ q → ⊥) → submission_lines v q e ≡ []
other-leaf v q e s is apart =
    let leaf : e.1.leaf ≡ s.leaf = ap (λ (s : Submission). s.leaf) is in
    let differs : e.1.leaf ≢ q = λ same. apart (sym leaf ∙ same) in
    let test : nat_eq e.1.leaf q ≡ false = grind (arith, nat_tests, differs) in
    ap (λ b. cond b (option_map_or live_lines (live_of v e) (Finished (path_at v.paths q) e.0 ∷ [])) []) test

-- one that was submitted to the leaf has that of the application
own-leaf : (v : Rows) (q : ℕ) (e : Name × Submission) (s : Submission) → e.1 ≡ s → s.leaf ≡ q → submission_lines v q e ≡ option_map_or live_lines (live_of v e) (Finished (path_at v.paths q) e.0 ∷ [])
own-leaf v q e s is own =
    let same : e.1.leaf ≡ q = ap (λ (s : Submission). s.leaf) is ∙ own in
    let test : nat_eq e.1.leaf q ≡ true = grind (arith, nat_tests, same) in
    ap (λ b. cond b (option_map_or live_lines (live_of v e) (Finished (path_at v.paths q) e.0 ∷ [])) []) test

-- a finished one has its name's
pub finished-leaf : (v : Rows) (q : ℕ) (e : Name × Submission) (s : Submission) → e.1 ≡ s → s.leaf ≡ q → s.app ≡ None → submission_lines v q e ≡ Finished (path_at v.paths q) e.0 ∷ []
finished-leaf v q e s is own none =
    own-leaf v q e s is own
    ∙ ap (λ o. option_map_or live_lines (option_map (application_of v e.0) (option_and_then (λ n. lookup (nat_eq n) v.apps) o)) (Finished (path_at v.paths q) e.0 ∷ []))
    (ap (λ (s : Submission). s.app) is ∙ none)

module _ (v : Rows) (sound : IsSound v) (t turn : ℕ) (e : Name × Submission) (at : slice_get (submitted_to v.tenants t) turn ≡ Some e) (s : Submission) (is : e.1 ≡ s) (app : ℕ) (live : s.app ≡ Some app) where
  has : e.1.app ≡ Some app
  has = ap (λ (s : Submission). s.app) is ∙ live

  -- a live one has a row
  pub is-live : IsLive app v.apps
  is-live = at_live (λ n. IsLive n v.apps) e.1.app app (submission v sound t turn e at).live has

  pub its-row : (row : AppRow) × (lookup (nat_eq app) v.apps ≡ Some row)
  its-row = live-found app v.apps is-live

  -- and the lines of its application
  pub live-leaf : (q : ℕ) → s.leaf ≡ q → submission_lines v q e ≡ live_lines (app_of v (app, its-row.0))
  live-leaf q own =
      own-leaf v q e s is own
      ∙ ap (λ o. option_map_or live_lines o (Finished (path_at v.paths q) e.0 ∷ [])) (live-is v sound t turn e at app has its-row.0 its-row.1)
