-- A live application that asks on a partition is that of a row, whose queue and partition are there.
use Rattle.std.proofs.Common.{◌≡◌, ◌⊎◌, ◌-◌, ◌<◌, ℕ, zero, suc, Bool, true, false, cond, nat_eq, List, [], ◌∷◌, map, find, length, get_or, slice_get, Option, None, Some, inl, inr, refl, sym, ap, subst, ◌∙◌, arith, true≢false}
use Rattle.std.specs.Prelude.{slice_index_or, ◌&&◌}
use Rattle.std.specs.List.{AllByRecursion, Contains, list_any}
use Rattle.std.specs.Map.{lookup}
use Rattle.std.specs.Option.{option_and_then}
use Rattle.std.proofs.lemmas.Bool.Decides.{nat_tests}
use Rattle.std.proofs.lemmas.Option.{get_or_from_slice_get, none-some, same_Some}
use Rattle.std.proofs.lemmas.List.{length-map}
use Rattle.ynl_resource.specs.Names.{root, same_name, tenant_of}
use Rattle.ynl_resource.specs.declared.labels.Label.{Label}
use Rattle.ynl_resource.specs.declared.names.Name.{Name}
use Rattle.ynl_resource.specs.declared.paths.Path.{Path}
use Rattle.ynl_model.specs.Applications.{Application, LeafApps, all_apps, find_app, row_of}
use Rattle.ynl_model.specs.Cluster.{runs, user_used}
use Rattle.ynl_model.specs.Nodes.{has_label}
use Rattle.ynl_model.specs.Queues.{Config, QueueRow, is_queue}
use Rattle.ynl_inventory.specs.layout.Paths.{HasNumber, path_at}
use Rattle.ynl_slots.proofs.Lists.{all_from}
use Rattle.ynl_tables.specs.declared.apps.asks.Ask.{Ask}
use Rattle.ynl_inventory.specs.Rows.{AppRow, Rows}
use Rattle.ynl_inventory.specs.Apps.{runs_at}
use Rattle.ynl_inventory.specs.Meaning.{app_of, ask_of, has_none_below, label_at}
use Rattle.ynl_inventory.specs.Sound.{HasPartition, IsApp, IsAskedOn, IsFor, IsLeaf, IsSound, IsSubmission}
use Rattle.ynl_inventory.proofs.Asked.{on-there}
use Rattle.ynl_inventory.proofs.AppsFound.{leaves}
use Rattle.ynl_inventory.proofs.Submitted.{app-submission}
use Rattle.ynl_cluster.proofs.requests.Live.{IsOfRow, among-live}
use Rattle.ynl_cluster.proofs.requests.Running.{runs-means}
use Rattle.ynl_cluster.proofs.requests.Members.{Among, flat-among}
use Rattle.ynl_cluster.specs.seating.Seating.{shares, user_use}
use Rattle.ynl_cluster.proofs.seating.UserUse.{is-user_use}
use Rattle.ynl_cluster.specs.Cluster.{ClusterView, label_of, maxima_in, name_in, path_of, state_in, stops_in}
use Rattle.ynl_replies.specs.admission.Named.{IsAppNamed, IsPartitionOf}
use Rattle.ynl_replies.proofs.admission.LabelsKnown.{label-known}
use Rattle.ynl_replies.proofs.admission.QueuesNamed.{queue-there}
use Rattle.ynl_replies.proofs.Apps.{app-is}
use Rattle.ynl_waits.specs.declared.waits.Applicant.{Applicant}
use Rattle.ynl_service.specs.reading.reasons.Facts.{found_of, IsAsking}
use Rattle.ynl_service.specs.reading.Readings.{IsAskerOf}

-- what is found of a list is among it
found-among : {X : Type 0} (p : X → Bool) (x : X) (xs : List X) → find p xs ≡ Some x → Among x xs
found-among p x [] is = absurd (none-some x is)
found-among {X = X} p x (y ∷ xs) is = go (p y) is (found-among p x xs)
  where
    go : (b : Bool) → cond b (Some y) (find p xs) ≡ Some x → (find p xs ≡ Some x → Among x xs) → Among x (y ∷ xs)
    go true k rest = inl (same_Some y x k)
    go false k rest = inr (rest k)

-- a live application that is found is one of all
live-among : (all : List LeafApps) (tenant name : Name) (live : Application) → find_app all tenant name ≡ Some live → Among live (all_apps all)
unfolding find_app
live-among all tenant name live found = go (row_of all tenant name) refl found
  where
    go : (o : Option LeafApps) → row_of all tenant name ≡ o → option_and_then (λ row. find (λ app. same_name app.name name) row.apps) o ≡ Some live → Among live (all_apps all)
    go None is k = absurd (none-some live k)
    go (Some row) is k =
        flat-among (λ (r : LeafApps). r.apps) row live all (found-among (λ (r : LeafApps). same_name (tenant_of r.leaf) tenant && list_any (same_name name) r.names) row all is)
        (found-among (λ (app : Application). same_name app.name name) live row.apps k)

-- an ask under a label is for a partition of it
asked-for : (v : Rows) (P : ℕ → Type 0) (label : Label) (asks : List Ask) → AllByRecursion (λ ask. P ask.partition) asks → Contains (map (λ ask. ask.label) (map (ask_of v.partitions) asks)) label
    → (p : ℕ) × P p × (label_at v.partitions p ≡ label)
asked-for v P label [] h there = absurd (omega (arith, there.1))
asked-for v P label (ask ∷ asks) h (zero, below, at) = (ask.partition, h.0, at)
asked-for v P label (ask ∷ asks) h (suc k, below, at) = asked-for v P label asks h.1 (k, omega (arith, below), at)

module _ (w : ClusterView) (sound : IsSound w.rows) (app : Applicant) (label : Label) (is : IsAsking (state_in w) app label) where
  module _ (n : ℕ) (row : AppRow) (found : lookup (nat_eq n) w.rows.apps ≡ Some row) (same : is.live ≡ app_of w.rows (n, row)) where
    its : IsApp w.rows n row
    its = sound.apps n row found

    -- it asks on its home partition, or on DEFAULT
    asked-on : (p : ℕ) × IsAskedOn row.home p × (label_of w p ≡ label)
    asked-on = go is.asks
      where
        go : (is.live.home ≡ label) ⊎ Contains (map (λ ask. ask.label) is.live.asks) label → (p : ℕ) × IsAskedOn row.home p × (label_of w p ≡ label)
        go (inl home) = (row.home, inl refl, ap (λ (a : Application). a.home) (sym same) ∙ home)
        go (inr there) =
            asked-for w.rows (IsAskedOn row.home) label row.asks (all_from (λ (ask : Ask). IsAskedOn row.home ask.partition) row.asks its.asked)
            (subst (λ (a : Application). Contains (map (λ ask. ask.label) a.asks) label) same there)

    partition-there : HasPartition w.rows asked-on.0
    partition-there = on-there w.rows sound row.home its.home asked-on.0 asked-on.1

    -- so it shares the partition
    shared : (p : ℕ) → IsPartitionOf w label p → shares p row ≡ true
    shared p on = go asked-on.1
      where
        one : asked-on.0 ≡ p
        one = sound.labels asked-on.0 p partition-there on.there (asked-on.2 ∙ sym on.own)

        go : IsAskedOn row.home asked-on.0 → shares p row ≡ true
        go (inl home) = grind (arith, nat_tests, home, one)
        go (inr default) = grind (arith, nat_tests, default, one)

    leaf-same : path_of w row.leaf ≡ app.leaf
    leaf-same = ap (λ (a : Application). a.leaf) (sym same) ∙ sym (ap (λ (a : Applicant). a.leaf) is.is)

    user-same : slice_index_or w.rows.users row.user [] ≡ app.user
    user-same = ap (λ (a : Application). a.user) (sym same) ∙ sym (ap (λ (a : Applicant). a.user) is.is)

    asker-is : IsAskerOf w app label n
    asker-is = record { row = row; found = found; leaf = leaf-same; user = user-same; shared = shared }

  of-row : IsOfRow w.rows is.live
  of-row = among-live w.rows sound is.live (live-among (leaves w.rows sound) is.tenant is.name is.live is.found)

  own : IsSubmission w.rows of-row.row.tenant of-row.row.turn (record { leaf = of-row.row.leaf; app = Some of-row.number })
  own = app-submission w.rows sound of-row.number of-row.row of-row.found

  -- its label is configured
  pub known-label : IsFor w.config w.rows → has_label w.config.labels label ≡ true
  known-label configured =
      let on = asked-on of-row.number of-row.row of-row.found of-row.is in
      label-known w.config w.rows configured label on.0 (partition-there of-row.number of-row.row of-row.found of-row.is) on.2

  -- and so is its leaf
  pub known-leaf : IsFor w.config w.rows → is_queue w.config app.leaf ≡ true
  known-leaf configured =
      queue-there w configured app.leaf of-row.row.leaf (record { there = own.there; own = leaf-same of-row.number of-row.row of-row.found of-row.is })

  -- which is below root
  pub below : 0 < length app.leaf
  below = go app.leaf (ap (has_none_below w.rows.paths) (sym (leaf-same of-row.number of-row.row of-row.found of-row.is)) ∙ own.leaf)
    where
      go : (path : Path) → has_none_below w.rows.paths path ≡ true → 0 < length path
      go [] none = absurd (true≢false (sym none))
      go (name ∷ path) none = omega arith

  -- it is found by its own tenant and name
  found-own : find_app (state_in w).leaves (tenant_of app.leaf) app.name ≡ Some is.live
  found-own =
      (λ i. find_app (state_in w).leaves (tenant_of (sym (leaf-same of-row.number of-row.row of-row.found of-row.is) i)) ((ap (λ (a : Applicant). a.name) is.is ∙ ap (λ (a : Application). a.name) of-row.is) i))
      ∙ app-is w.rows sound (stops_in w) (maxima_in w) of-row.number of-row.row of-row.found ∙ ap (λ (a : Application). Some a) (sym of-row.is)

  pub not-missing : find_app (state_in w).leaves (tenant_of app.leaf) app.name ≡ None → ⊥
  not-missing none = none-some is.live (sym none ∙ found-own)

  pub asker-named : (n : ℕ) → IsAppNamed w (tenant_of app.leaf) app.name n → IsAskerOf w app label n
  asker-named n it = asker-is n it.row it.found (same_Some is.live (app_of w.rows (n, it.row)) (sym found-own ∙ it.named))

-- what its user uses is told of the row
pub user-told : (w : ClusterView) → IsSound w.rows → (app : Applicant) (label : Label) (n : ℕ) (is : IsAskerOf w app label n) → (p : ℕ) → IsPartitionOf w label p
    → user_use w.rows p is.row.leaf is.row.user ≡ user_used (state_in w) app.leaf app.user label
user-told w sound app label n is p on =
    sym (is-user_use w.rows sound p is.row.leaf is.row.user on.there leaf (sound.apps n is.row is.found).user (stops_in w) (maxima_in w))
    ∙ (λ i. user_used (state_in w) (is.leaf i) (is.user i) (on.own i))
  where
    leaf : IsLeaf w.rows is.row.leaf
    leaf = let own = app-submission w.rows sound n is.row is.found in record { there = own.there; none_below = own.leaf }

-- the leaf of a row is below root, and a queue
pub leaf-below_root : (w : ClusterView) → IsSound w.rows → (n : ℕ) (row : AppRow) → lookup (nat_eq n) w.rows.apps ≡ Some row → 0 < row.leaf
leaf-below_root w sound n row found = go row.leaf (app-submission w.rows sound n row found).leaf
  where
    go : (q : ℕ) → has_none_below w.rows.paths (path_at w.rows.paths q) ≡ true → 0 < q
    go zero none = absurd (true≢false (sym none))
    go (suc q) none = omega arith

pub leaf-there : (w : ClusterView) → IsSound w.rows → (n : ℕ) (row : AppRow) → lookup (nat_eq n) w.rows.apps ≡ Some row → HasNumber w.rows.paths row.leaf
leaf-there w sound n row found = (app-submission w.rows sound n row found).there

-- what is found of a row is the model's application
pub found-told : (w : ClusterView) → IsSound w.rows → (n : ℕ) (row : AppRow) → lookup (nat_eq n) w.rows.apps ≡ Some row → (leaf : Path) (name user : Name) (running : Bool) (home : Label) → leaf ≡ path_of w row.leaf
    → name ≡ name_in w.rows row → slice_get w.rows.users row.user ≡ Some user → running ≡ runs_at w.rows n row → home ≡ label_of w row.home
    → record { applicant = record { leaf = leaf; name = name; user = user; runs = running }; home = home; master = row.master } ≡ found_of (state_in w) (app_of w.rows (n, row))
found-told w sound n row found leaf name user running home leaf-is name-is user-is runs-is home-is =
    let user-named : user ≡ slice_index_or w.rows.users row.user [] = sym (get_or_from_slice_get w.rows.users row.user user [] user-is) in
    let running-is : running ≡ runs (state_in w) (app_of w.rows (n, row)) = runs-is ∙ sym (runs-means w.rows sound (stops_in w) (maxima_in w) n row found) in
    λ i. record { applicant = record { leaf = leaf-is i; name = name-is i; user = user-named i; runs = running-is i }; home = home-is i; master = row.master }
