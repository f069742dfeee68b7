-- Applications of which only the names stay, and their lines.
use Rattle.std.proofs.Common.{◌≡◌, ◌<◌, ℕ, true, false, not, cond, ◌&&◌, ◌++◌, nat_eq, find, List, [], ◌∷◌, length, slice_get, Option, None, Some, option_map, refl, ap, ◌∙◌}
use Rattle.std.specs.List.{AllByRecursion}
use Rattle.std.specs.Map.{lookup}
use Rattle.std.specs.Option.{option_and_then, option_map_or}
use Rattle.std.proofs.lemmas.Bool.{and_parts}
use Rattle.std.proofs.lemmas.List.{append-nil}
use Rattle.std.proofs.lemmas.List.Elements.{filter-append}
use Rattle.ynl_resource.specs.Names.{same_name, same_path, tenant_of}
use Rattle.ynl_resource.specs.Tables.{without}
use Rattle.ynl_resource.specs.declared.amounts.Resource.{Resource}
use Rattle.ynl_resource.specs.declared.labels.Label.{Label}
use Rattle.ynl_resource.specs.declared.labels.Label.TheVariants.{Unlabelled}
use Rattle.ynl_resource.specs.declared.names.Name.{Name}
use Rattle.ynl_resource.specs.declared.paths.Path.{Path}
use Rattle.ynl_model.specs.Applications.{Application, LeafApps, find_app, finished, in_leaf, is_used, leaf_of, new_app, row_of, submitted}
use Rattle.ynl_model.specs.Changes.{all_end, all_own, app_finishes}
use Rattle.ynl_model.specs.Cluster.{State}
use Rattle.ynl_model.specs.Queues.{Config, is_leaf, is_queue}
use Rattle.ynl_laws.proofs.Lists.{Each-weaker, filter-all}
use Rattle.ynl_laws.proofs.Logic.{none-is, not-true}
use Rattle.ynl_laws.proofs.Names.{same-name_self}
use Rattle.ynl_tables.specs.declared.apps.app.Tickets.{Tickets}
use Rattle.ynl_inventory.specs.layout.Paths.{path_at}
use Rattle.ynl_slots.specs.Slots.{IsLive, IsUnused}
use Rattle.ynl_slots.proofs.Entries.{itself}
use Rattle.ynl_slots.proofs.Lookups.{lookup-push}
use Rattle.ynl_tables.specs.declared.submissions.submissions.Submission.{Submission}
use Rattle.ynl_inventory.specs.Changes.{new_app as new_row, with_submitted, with_tickets}
use Rattle.ynl_inventory.specs.Meaning.{app_of, submitted_to}
use Rattle.ynl_inventory.specs.Rows.{AppRow}
use Rattle.ynl_inventory.specs.Sound.{IsSound}
use Rattle.ynl_inventory.proofs.Lookups.{changed-same, found-live}
use Rattle.ynl_inventory.proofs.Submitting.{submitted-own}
use Rattle.ynl_cluster.specs.Cluster.{ClusterView, path_of, state_in}
use Rattle.ynl_replies.specs.admission.Admitted.{CanSubmitAs}
use Rattle.ynl_saved.specs.declared.lines.StateLine.TheVariants.{Finished as FinishedLine}
use Rattle.ynl_saved.specs.Restoring.{is_sound_line, may_come, with_finished, with_live, Restored}
use Rattle.ynl_snapshots.specs.declared.restoring.applications.Coming.{Coming}
use Rattle.ynl_snapshots.specs.restoring.Taking.{Comes}
use Rattle.ynl_snapshots.proofs.restoring.Clocks.{twice}
use Rattle.ynl_snapshots.proofs.restoring.Owners.{no-apps, none-own}

-- what is tested of the line of a finished application
pub finished-sound : (c : Config) (r : Restored) (s : State) → r.state ≡ s → (queue : Path) (name : Name) → is_sound_line c r (FinishedLine queue name) ≡ may_come c s queue name
unfolding is_sound_line
finished-sound c r s is queue name = ap (λ (s : State). may_come c s queue name) is

-- an application of an unused name is not found
pub unused-missing : (s : State) (tenant name : Name) → is_used s.leaves tenant name ≡ false → find_app s.leaves tenant name ≡ None
unfolding leaf_of find_app
unused-missing s tenant name unused =
    ap (option_and_then (λ (row : LeafApps). find (λ app. same_name app.name name) row.apps)) (no-row (row_of s.leaves tenant name) (none-is (option_map (λ (row : LeafApps). row.leaf) (row_of s.leaves tenant name)) unused))
  where
    no-row : (o : Option LeafApps) → option_map (λ (row : LeafApps). row.leaf) o ≡ None → o ≡ None
    no-row None h = refl
    no-row (Some row) h = cc

-- it may come only if its name is unused
pub come-unused : (c : Config) (s : State) (queue : Path) (name : Name) → may_come c s queue name ≡ true → is_used s.leaves (tenant_of queue) name ≡ false
come-unused c s queue name come = not-true (is_used s.leaves (tenant_of queue) name) (and_parts (is_queue c queue && is_leaf c queue) _ come).1

-- an application that came last and finishes leaves its name
module _ (w : ClusterView) (sound : IsSound w.rows) (queue : Path) (name : Name) (none : find_app (state_in w).leaves (tenant_of queue) name ≡ None) (user : Name) (home : Label) (master : Resource) where
  abbrev s : State
  s = state_in w

  abbrev came : Application
  came = new_app queue name user home master

  abbrev s1 : State
  s1 = with_live came s

  back : (apps : List Application) → AllByRecursion (λ (app : Application). same_name app.name name ≡ false) apps → without (λ app. same_name app.name name) (apps ++ came ∷ []) ≡ apps
  back apps apart =
      filter-append (λ (app : Application). not (same_name app.name name)) apps (came ∷ [])
      ∙ (λ i. filter-all (λ (app : Application). not (same_name app.name name)) apps (Each-weaker (λ (app : Application). same_name app.name name ≡ false) _ (λ app k. ap not k) apps apart) i ++ cond (not (same-name_self name i)) (came ∷ []) [])
      ∙ append-nil apps

  leaves-told : in_leaf queue (finished name) (in_leaf queue (submitted came) s.leaves) ≡ in_leaf queue (λ row. record row { names = row.names ++ name ∷ [] }) s.leaves
  leaves-told =
      twice (λ (row : LeafApps). same_path row.leaf queue) (submitted came) (finished name) (λ row. record row { names = row.names ++ name ∷ [] }) (λ row. refl) s.leaves
      (Each-weaker (λ (row : LeafApps). same_path row.leaf queue ≡ true → AllByRecursion (λ (app : Application). same_name app.name name ≡ false) row.apps) _
      (λ row apart same. λ i. record row { names = row.names ++ name ∷ []; apps = back row.apps (apart same) i }) s.leaves (no-apps w sound queue name none))

  pub finished-told : (c : Config) (app : Application) → app.leaf ≡ queue → app.name ≡ name → app_finishes c app s1 ≡ with_finished queue name s
  unfolding app_finishes
  finished-told c app leaf named =
      (λ i. record (all_end c (all_own s1 (tenant_of (leaf i)) (named i)) s1) { leaves = in_leaf (leaf i) (finished (named i)) s1.leaves })
      ∙ (λ i. record (all_end c (none-own w sound (tenant_of queue) name none i) s1) { leaves = in_leaf queue (finished name) s1.leaves })
      ∙ (λ i. record s { leaves = leaves-told i })

-- ---- the row of an application that was submitted

last-there : {X : Type 0} (xs : List X) (x : X) → slice_get (xs ++ x ∷ []) (length xs) ≡ Some x
last-there [] x = refl
last-there (y ∷ xs) x = last-there xs x

module _ (known sub : ClusterView) (n : ℕ) (name : Name) (t q user home : ℕ) (master : Resource) (tickets : Tickets) (is : sub ≡ record known { rows = with_tickets n tickets (with_submitted n name t q user home master known.rows) })
    (unused : IsUnused n known.rows.apps) (inside : t < length known.rows.tenants) where
  abbrev entries : List (Name × Submission)
  entries = submitted_to known.rows.tenants t

  abbrev pub its-row : AppRow
  its-row = record (new_row t (length entries) q user home master) { tickets = tickets }

  pub row-found : lookup (nat_eq n) sub.rows.apps ≡ Some its-row
  row-found =
      ap (λ (w : ClusterView). lookup (nat_eq n) w.rows.apps) is
      ∙ changed-same n (λ (row : AppRow). record row { tickets = tickets }) (with_submitted n name t q user home master known.rows).apps
      ∙ ap (option_map (λ (row : AppRow). record row { tickets = tickets }))
      (lookup-push n n (new_row t (length entries) q user home master) known.rows.apps unused
      ∙ ap (λ b. cond b (Some (new_row t (length entries) q user home master)) (lookup (nat_eq n) known.rows.apps)) (itself n))

  pub row-live : IsLive n sub.rows.apps
  row-live = found-live n its-row sub.rows.apps row-found

  pub row-leaf : (app_of sub.rows (n, its-row)).leaf ≡ path_of known q
  row-leaf = ap (λ (w : ClusterView). path_at w.rows.paths q) is

  pub row-name : (app_of sub.rows (n, its-row)).name ≡ name
  row-name =
      ap (λ (w : ClusterView). option_map_or (λ (e : Name × Submission). e.0) (slice_get (submitted_to w.rows.tenants t) (length entries)) []) is
      ∙ ap (λ (es : List (Name × Submission)). option_map_or (λ (e : Name × Submission). e.0) (slice_get es (length entries)) []) (submitted-own (λ es. es ++ (name, record { leaf = q; app = Some n }) ∷ []) known.rows.tenants t inside)
      ∙ ap (λ o. option_map_or (λ (e : Name × Submission). e.0) o []) (last-there entries (name, record { leaf = q; app = Some n }))

-- the numbers with which it is submitted
pub finished-numbers : (w : ClusterView) → IsSound w.rows → (queue : Path) (name : Name) (coming : Coming) → Comes w queue name coming → CanSubmitAs w queue name (Some Unlabelled) (record { tenant = coming.tenant; leaf = coming.leaf; home = 0 })
finished-numbers w sound queue name coming comes = record {
  unnamed = comes.unnamed;
  there = comes.leaf.there;
  leaf = comes.leaf.none_below;
  tenant = comes.tenant;
  home = sound.some;
  own = comes.queue_is.own;
  label_is = sound.default;
}
