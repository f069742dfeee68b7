-- A container is placed: the rows stay sound, and mean what the model's placement gives.
use Rattle.std.proofs.Common.{◌≡◌, is_some, IfSome, find, ◌<◌, ◌+◌, ℕ, Bool, true, false, cond, nat_lt, List, [], ◌∷◌, ◌++◌, map, slice_get, Some, None, nat_eq, refl, sym, ap, subst, ◌∙◌, arith, true≢false}
use Rattle.std.specs.List.{All, AllByRecursion}
use Rattle.std.specs.Map.{lookup}
use Rattle.std.specs.Option.{option_map_or}
use Rattle.std.proofs.lemmas.Bool.Decides.{nat_tests}
use Rattle.std.proofs.lemmas.List.{map-append}
use Rattle.std.proofs.lemmas.Option.{same_Some}
use Rattle.ynl_resource.specs.Names.{tenant_of}
use Rattle.ynl_resource.specs.declared.amounts.Resource.{Resource}
use Rattle.ynl_resource.specs.declared.names.Name.{Name}
use Rattle.ynl_model.specs.declared.nodes.Node.{Node}
use Rattle.ynl_model.specs.declared.containers.Placed.{Placed}
use Rattle.ynl_model.specs.declared.queues.StopRow.{StopRow}
use Rattle.ynl_model.specs.declared.queues.MaximumRow.{MaximumRow}
use Rattle.ynl_model.specs.Queues.{Config}
use Rattle.ynl_model.specs.Applications.{in_leaf, with_app}
use Rattle.ynl_model.specs.Cluster.{State, next_clock}
use Rattle.ynl_model.specs.Changes.{changed_at, container_of, place, taken}
use Rattle.ynl_inventory.specs.layout.Paths.{path_at}
use Rattle.ynl_slots.specs.Slots.{IsUnused}
use Rattle.ynl_slots.proofs.Entries.{distinct_push}
use Rattle.ynl_slots.proofs.Lookups.{lookup-push}
use Rattle.ynl_tables.specs.declared.containers.container.Container.{Container}
use Rattle.ynl_tables.specs.declared.containers.container.Role.{Role}
use Rattle.ynl_tables.specs.declared.containers.container.Role.TheVariants.{Master, Ask as Asked}
use Rattle.ynl_laws.proofs.Lists.{all-of}
use Rattle.ynl_slots.proofs.Lists.{all_from}
use Rattle.ynl_tables.specs.apps.Asks.{AreAsks}
use Rattle.ynl_tables.proofs.apps.Asking.{asks_taken}
use Rattle.ynl_tables.specs.containers.Table.{IsAbove}
use Rattle.ynl_tables.proofs.containers.Clocks.{rising_push}
use Rattle.ynl_inventory.specs.Rows.{Rows, NodeRow, AppRow}
use Rattle.ynl_inventory.specs.Meaning.{node_name, owner_of, app_name, what_of, placed_of, application_of, node_of, item_of, state_of}
use Rattle.ynl_inventory.specs.Changes.{next_clock as next_of_row, partition_of_node, next_container, with_changed, with_taken, with_placed}
use Rattle.ynl_inventory.specs.Apps.{HasOneMasterEach, is_master_role, is_master_of}
use Rattle.ynl_inventory.specs.Sound.{IsFor, HasPartition, IsAskedOn, IsRole, CanTake, IsContainer, IsPartition, IsApp, IsPlaceable, IsSound}
use Rattle.ynl_inventory.proofs.Naming.{taken-tenant, taken-turn, taken-leaf, taken-user, taken-home, what-same}
use Rattle.ynl_inventory.proofs.Updates.{each-number}
use Rattle.ynl_inventory.proofs.Finding.{own-label, next-at}
use Rattle.ynl_inventory.proofs.Asked.{asked-there, ask-there, one-taken}
use Rattle.ynl_inventory.proofs.Masters.{masters-push, none-runs}
use Rattle.ynl_inventory.proofs.Kept.{kept-partition, kept-container, kept-role}
use Rattle.ynl_inventory.proofs.Containers.{AreContainers, rises-more, labels, many, changed-sound, changed-for, changed-means}
use Rattle.ynl_inventory.proofs.AppChange.{LeavesOwner, app-sound, app-means}
use Rattle.ynl_inventory.proofs.Tenants.{owner-named}
use Rattle.ynl_inventory.proofs.Asking.{app-taken}

-- ---- one less is asked for

-- as in the model
taken-means : (v : Rows) → IsSound v → (p app : ℕ) (r : Role) (name : Name) (row : AppRow) → IsRole v p app r → All (λ ask. HasPartition v ask.partition) row.asks
    → application_of v name (with_taken r row) ≡ taken (what_of v.partitions r) (application_of v name row)
taken-means v sound p app Master name row is asked = refl
taken-means v sound p app (Asked asked-on priority) name row is asked = app-taken v sound asked-on priority is name row (all_from (λ ask. HasPartition v ask.partition) row.asks asked)

-- what is still asked for is sound
taken-asks : (r : Role) (row : AppRow) → AreAsks row.asks → AreAsks (with_taken r row).asks
taken-asks Master row is = is
taken-asks (Asked p priority) row is = asks_taken p priority row.asks is

-- and where it was
pub taken-asked : (P : ℕ → Type 0) (r : Role) (row : AppRow) → AllByRecursion (λ ask. P ask.partition) row.asks → AllByRecursion (λ ask. P ask.partition) (with_taken r row).asks
taken-asked P Master row is = is
taken-asked P (Asked p priority) row is = one-taken P p priority row.asks is

-- the taking of an ask leaves all else of an application
pub taken-leaves : (r : Role) → LeavesOwner (with_taken r)
taken-leaves r = record { tenant = taken-tenant r; turn = taken-turn r; leaf = taken-leaf r; user = taken-user r; home = taken-home r }

module _ (v : Rows) (sound : IsSound v) (number node app : ℕ) (r : Role) (size : Resource) (can : IsPlaceable v node app r)
    (unused : IsUnused number can.partition.containers) where
  abbrev p : ℕ
  p = partition_of_node v.nodes node

  abbrev new : Container
  new = next_container v node app r size

  abbrev push : List (ℕ × Container) → List (ℕ × Container)
  push = λ containers. containers ++ (number, new) ∷ []

  abbrev changed : Rows
  changed = with_changed p node push v

  stands : can.node_row.partition ≡ p
  stands = sym (ap (λ o. option_map_or (λ (row : NodeRow). row.partition) o 0) can.node_found)

  there : slice_get v.partitions p ≡ Some can.partition
  there = ap (slice_get v.partitions) (sym stands) ∙ can.partition_found

  clock : new.clock ≡ next_of_row can.partition
  clock = ap (λ o. option_map_or next_of_row o 0) there

  rose : next_of_row can.partition ≡ can.partition.clock + 1
  rose =
      let yes : nat_lt can.partition.clock can.partition.limit ≡ true = grind (arith, nat_tests, can.rises) in
      ap (λ b. cond b (can.partition.clock + 1) can.partition.clock) yes

  old-partition : IsPartition v p can.partition
  old-partition = sound.partitions p can.partition there

  above : IsAbove new.clock can.partition.containers
  above =
      each-number (λ n c. c.clock < new.clock) can.partition.containers old-partition.numbers
      (λ n c found. omega (arith, (old-partition.each n c found).clock, clock, rose))

  its : IsApp v app can.app_row
  its = sound.apps app can.app_row can.app_found

  has-asked : All (λ ask. HasPartition v ask.partition) can.app_row.asks
  has-asked = asked-there v sound can.app_row.home its.home can.app_row.asks its.asked

  is-role : IsRole v p app r
  is-role = go r can.role
    where
      go : (s : Role) → CanTake v app can.node_row.partition can.partition.guests can.app_row s → IsRole v p app s
      go Master takes = subst (λ o. IfSome o (λ (row : AppRow). row.home ≡ p)) (sym can.app_found) (takes.0 ∙ stands)
      go (Asked asked priority) takes = ask-there (HasPartition v) asked priority can.app_row.asks (all_from (λ ask. HasPartition v ask.partition) can.app_row.asks has-asked) takes.0

  is-new : IsContainer v p (next_of_row can.partition) new
  is-new = record {
    app = ap is_some can.app_found;
    node = can.node_row;
    node_found = can.node_found;
    node_there = stands;
    role = is-role;
    clock = omega (arith, clock);
  }

  is-old : (n : ℕ) (c : Container) → lookup (nat_eq n) can.partition.containers ≡ Some c → IsContainer v p (next_of_row can.partition) c
  is-old n c found =
      kept-container v v refl p can.partition.clock (next_of_row can.partition) c (old-partition.each n c found) (rises-more can.partition.limit can.partition.clock)
      (λ row at. (row, at, refl)) (λ row at. (row, at, refl))

  each-new : (n : ℕ) (c : Container) → lookup (nat_eq n) (can.partition.containers ++ (number, new) ∷ []) ≡ Some c → IsContainer v p (next_of_row can.partition) c
  each-new n c found = go (nat_eq n number) (sym (lookup-push n number new can.partition.containers unused) ∙ found)
    where
      go : (b : Bool) → cond b (Some new) (lookup (nat_eq n) can.partition.containers) ≡ Some c → IsContainer v p (next_of_row can.partition) c
      go true e = subst (IsContainer v p (next_of_row can.partition)) (same_Some new c e) is-new
      go false e = is-old n c e

  -- a master is placed only where its application has none
  pub none-yet : is_master_role r ≡ true → find (is_master_of app) can.partition.containers ≡ None
  none-yet master = go r can.role master
    where
      go : (s : Role) → CanTake v app can.node_row.partition can.partition.guests can.app_row s → is_master_role s ≡ true → find (is_master_of app) can.partition.containers ≡ None
      go Master takes is = none-runs v app p can.app_row can.partition there (takes.0 ∙ stands) takes.1
      go (Asked asked priority) takes is = absurd (true≢false (sym is))

  masters : HasOneMasterEach (push can.partition.containers)
  masters = masters-push number new can.partition.containers unused old-partition.masters none-yet

  containers : AreContainers v p node push sound can.partition there
  containers = record {
    numbers = distinct_push number new can.partition.containers unused old-partition.numbers;
    rising = rising_push number new can.partition.containers old-partition.rising above;
    masters = masters;
    each = each-new;
  }

  changed-kept : IsSound changed
  changed-kept = changed-sound v p node push sound can.partition there containers

  -- the rows stay sound
  pub placed-sound : IsSound (with_placed number node app r size v)
  placed-sound =
      app-sound changed app (with_taken r) (taken-leaves r) changed-kept can.app_row can.app_found
      (taken-asks r can.app_row its.asks)
      (all-of (λ ask. IsAskedOn can.app_row.home ask.partition) (with_taken r can.app_row).asks
      (taken-asked (IsAskedOn can.app_row.home) r can.app_row (all_from (λ ask. IsAskedOn can.app_row.home ask.partition) can.app_row.asks its.asked)))

  -- and are still those of the configuration
  pub placed-for : (c : Config) → IsFor c v → IsFor c (with_placed number node app r size v)
  placed-for c is =
      let kept = changed-for v p node push sound can.partition there c is in
      record { labels = kept.labels; limits = kept.limits; guests = kept.guests; paths = kept.paths }

  module _ (c : Config) (is : IsFor c v) (stops : List StopRow) (maxima : List MaximumRow) where
    abbrev s : State
    s = state_of v stops maxima

    abbrev on : Node
    on = node_of v.partitions can.node_row

    label : on.label ≡ can.partition.label
    label = own-label v sound can.node_row.partition can.partition can.partition_found

    -- the container that the model places is the next one
    pub placed-container : container_of c s on (item_of v can.app_row r size) ≡ placed_of v on.label (next_container v node app r size)
    unfolding container_of
    placed-container = λ i. record {
      id = record { label = on.label; clock = stamped i };
      node = named i;
      tenant = (owned i).0;
      app = (owned i).1;
      what = what_of v.partitions r;
      size = size;
    }
      where
        stamped : next_clock c.labels s on.label ≡ new.clock
        stamped = ap (next_clock c.labels s) label ∙ next-at v sound can.node_row.partition can.partition can.partition_found stops maxima c is ∙ sym clock

        named : can.node_row.name ≡ node_name v.nodes node
        named = sym (ap (λ o. option_map_or (λ (row : NodeRow). row.name) o []) can.node_found)

        owned : ◌≡◌ {A = Name × Name} (tenant_of (path_at v.paths can.app_row.leaf), app_name v.tenants can.app_row.tenant can.app_row.turn) (owner_of v app)
        owned = sym (owner-named v sound app can.app_row can.app_found)

    abbrev placed : Placed
    placed = placed_of v can.partition.label new

    pushed : map (λ e. placed_of v can.partition.label e.1) (push can.partition.containers) ≡ map (λ e. placed_of v can.partition.label e.1) can.partition.containers ++ placed ∷ []
    pushed = map-append (λ (e : ℕ × Container). placed_of v can.partition.label e.1) can.partition.containers ((number, new) ∷ [])

    changed-is : state_of changed stops maxima ≡ changed_at c on.name can.partition.label (λ containers. containers ++ placed ∷ []) s
    changed-is = changed-means v p node push sound can.partition there c is stops maxima can.node_row can.node_found stands (λ containers. containers ++ placed ∷ []) pushed

    placed-is : placed ≡ container_of c s on (item_of v can.app_row r size)
    placed-is = ap (λ l. placed_of v l new) (sym label) ∙ sym placed-container

    taken-is : application_of changed (app_name v.tenants can.app_row.tenant can.app_row.turn) (with_taken r can.app_row)
        ≡ taken (what_of v.partitions r) (application_of changed (app_name v.tenants can.app_row.tenant can.app_row.turn) can.app_row)
    taken-is =
        taken-means changed changed-kept p app r (app_name v.tenants can.app_row.tenant can.app_row.turn) can.app_row
        (kept-role v changed (many v p node push) app (ap is_some can.app_found) (λ row at. (row, at, refl)) p r is-role)
        (asked-there changed changed-kept can.app_row.home (kept-partition v changed (many v p node push) can.app_row.home its.home) can.app_row.asks its.asked)
        ∙ ap (λ w. taken w (application_of changed (app_name v.tenants can.app_row.tenant can.app_row.turn) can.app_row)) (what-same v changed (labels v p node push) r)

    -- the application's leaf changes
    abbrev in_own : State → State
    in_own = λ u. record u { leaves = in_leaf (item_of v can.app_row r size).leaf (with_app (item_of v can.app_row r size).app (taken (what_of v.partitions r))) u.leaves }

    -- and they mean what the model's placement gives
    pub placed-means : state_of (with_placed number node app r size v) stops maxima ≡ place c on (item_of v can.app_row r size) s
    unfolding place changed_at
    placed-means =
        app-means changed app (with_taken r) (taken-leaves r) changed-kept can.app_row can.app_found (taken (what_of v.partitions r)) taken-is stops maxima
        ∙ ap in_own changed-is
        ∙ (λ i. in_own (changed_at c on.name (sym label i) (λ containers. containers ++ placed-is i ∷ []) s))
