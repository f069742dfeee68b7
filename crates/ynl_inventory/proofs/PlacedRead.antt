-- A container as the model has it is read from the rows.
use Rattle.std.proofs.Common.{◌≡◌, ◌<◌, ℕ, zero, suc, is_some, IfSome, [], slice_get, Option, Some, None, nat_eq, refl, sym, ap, subst, ◌∙◌, arith}
use Rattle.std.specs.Map.{lookup}
use Rattle.std.specs.Option.{option_map_or, option_and_then}
use Rattle.std.proofs.lemmas.Option.{none-some, slice_get_within}
use Rattle.ynl_resource.specs.declared.names.Name.{Name}
use Rattle.ynl_resource.specs.Names.{tenant_of, top_level}
use Rattle.ynl_resource.specs.declared.labels.Label.{Label}
use Rattle.ynl_model.specs.declared.containers.Placed.{Placed}
use Rattle.ynl_model.specs.declared.proposals.What.{What}
use Rattle.ynl_tables.proofs.containers.Removing.{at_live}
use Rattle.ynl_inventory.specs.layout.Paths.{HasNumber, path_at}
use Rattle.ynl_slots.specs.Slots.{IsLive}
use Rattle.ynl_tables.specs.declared.containers.container.Container.{Container}
use Rattle.ynl_tables.specs.declared.containers.container.Role.{Role}
use Rattle.ynl_tables.specs.declared.containers.container.Role.TheVariants.{Master, Ask as Asked}
use Rattle.ynl_inventory.specs.Rows.{Rows, PartitionRow, NodeRow, AppRow}
use Rattle.ynl_inventory.specs.Meaning.{app_name, label_at, node_name, owner_of, placed_of, tenant_name, what_of}
use Rattle.ynl_inventory.specs.Sound.{HasPartition, IsAskedThere, IsContainer, IsRole, IsSound}
use Rattle.ynl_inventory.specs.Parts.{held_at}
use Rattle.ynl_inventory.proofs.Submitted.{app-submission}
use Rattle.ynl_inventory.proofs.Tenants.{tenant-number, tenant-top}

-- a tenant is below root
pub tenant-below : (v : Rows) → IsSound v → (app : ℕ) (row : AppRow) → lookup (nat_eq app) v.apps ≡ Some row → 0 < row.tenant
tenant-below v sound app row found = go row.tenant refl
  where
    top : path_at v.paths row.tenant ≡ top_level (tenant_of (path_at v.paths row.leaf))
    top =
        let own = app-submission v sound app row found in
        ap (path_at v.paths) (sym own.tenant) ∙ tenant-top v.paths sound.tree row.leaf own.there own.leaf

    go : (t : ℕ) → row.tenant ≡ t → 0 < row.tenant
    go zero is = absurd (cc (ap (path_at v.paths) (sym is) ∙ top))
    go (suc t) is = omega (arith, is)

module _ (v : Rows) (sound : IsSound v) (p number : ℕ) (c : Container) (held : held_at v p number ≡ Some c) where
  its : (row : PartitionRow) × (slice_get v.partitions p ≡ Some row) × (lookup (nat_eq number) row.containers ≡ Some c)
  its = go (slice_get v.partitions p) refl held
    where
      go : (o : Option PartitionRow) → slice_get v.partitions p ≡ o → option_and_then (λ row. lookup (nat_eq number) row.containers) o ≡ Some c
          → (row : PartitionRow) × (slice_get v.partitions p ≡ Some row) × (lookup (nat_eq number) row.containers ≡ Some c)
      go None is h = absurd (none-some c h)
      go (Some row) is h = (row, is, h)

  on : IsContainer v p its.0.clock c
  on = (sound.partitions p its.0 its.1).each number c its.2

  -- its partition, its node and its application are there, and the partition on which it was asked for
  pub has-partition : HasPartition v p
  has-partition = slice_get_within v.partitions p its.0 its.1

  pub node-there : IsLive c.node v.nodes
  node-there = ap is_some on.node_found

  pub app-there : IsLive c.app v.apps
  app-there = on.app

  pub asked-there : IsAskedThere v c.role
  asked-there = go c.role on.role
    where
      go : (r : Role) → IsRole v p c.app r → IsAskedThere v r
      go Master h = tt
      go (Asked asked priority) h = h

  -- the application's tenant has a name
  pub tenant-there : (row : AppRow) → lookup (nat_eq c.app) v.apps ≡ Some row → HasNumber v.paths row.tenant
  tenant-there row found = tenant-number v sound c.app row found

  -- its names are those of the rows
  pub node-named : (row : NodeRow) → lookup (nat_eq c.node) v.nodes ≡ Some row → row.name ≡ node_name v.nodes c.node
  node-named row found = sym (ap (λ o. option_map_or (λ (row : NodeRow). row.name) o []) found)

  pub owner-is : (row : AppRow) → lookup (nat_eq c.app) v.apps ≡ Some row → (tenant app : Name) → tenant ≡ tenant_name v.paths row.tenant → app ≡ app_name v.tenants row.tenant row.turn
      → ◌≡◌ {A = Name × Name} (tenant, app) (owner_of v c.app)
  owner-is row found tenant app tenant-is app-is =
      (λ i. (tenant-is i, app-is i)) ∙ sym (ap (λ o. option_map_or (λ (row : AppRow). (tenant_name v.paths row.tenant, app_name v.tenants row.tenant row.turn)) o ([], [])) found)

  -- so is the container with them
  pub placed-is : (label : Label) → label ≡ label_at v.partitions p → (node : NodeRow) → lookup (nat_eq c.node) v.nodes ≡ Some node → (app : AppRow) → lookup (nat_eq c.app) v.apps ≡ Some app
      → (tenant : Name) → tenant ≡ tenant_name v.paths app.tenant → (name : Name) → IfSome (lookup (nat_eq c.app) v.apps) (λ row. name ≡ app_name v.tenants row.tenant row.turn)
      → (what : What) → what ≡ what_of v.partitions c.role
      → IfSome (held_at v p number) (λ held.
      ◌≡◌ {A = Placed} (record { id = record { label = label; clock = c.clock }; node = node.name; tenant = tenant; app = name; what = what; size = c.size }) (placed_of v (label_at v.partitions p) held))
  placed-is label label-is node node-at app app-at tenant tenant-is name name-is what what-is =
      let owned : ◌≡◌ {A = Name × Name} (tenant, name) (owner_of v c.app) =
      owner-is app app-at tenant name tenant-is (at_live (λ (row : AppRow). name ≡ app_name v.tenants row.tenant row.turn) (lookup (nat_eq c.app) v.apps) app name-is app-at)
      in
      subst (λ o. IfSome o (λ (held : Container).
      ◌≡◌ {A = Placed} (record { id = record { label = label; clock = c.clock }; node = node.name; tenant = tenant; app = name; what = what; size = c.size }) (placed_of v (label_at v.partitions p) held))) (sym held)
      (λ i. record { id = record { label = label-is i; clock = c.clock }; node = node-named node node-at i; tenant = (owned i).0; app = (owned i).1; what = what-is i; size = c.size })
