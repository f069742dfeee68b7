-- What stays sound of containers, applications and submissions while other rows change.
use Rattle.std.proofs.Common.{◌≡◌, ◌≤◌, ℕ, length, is_some, IfSome, Some, nat_eq, sym, ap, subst, ◌∙◌, arith}
use Rattle.std.specs.Map.{lookup}
use Rattle.ynl_slots.specs.Slots.{IsLive}
use Rattle.ynl_tables.specs.declared.containers.container.Container.{Container}
use Rattle.ynl_tables.specs.declared.containers.container.Role.{Role}
use Rattle.ynl_tables.specs.declared.containers.container.Role.TheVariants.{Master, Ask as Asked}
use Rattle.ynl_tables.proofs.containers.Removing.{at_live}
use Rattle.ynl_inventory.specs.Rows.{Rows, NodeRow, AppRow}
use Rattle.ynl_inventory.specs.Sound.{HasPartition, IsRole, IsContainer}
use Rattle.ynl_inventory.proofs.Lookups.{live-found}

module _ (v w : Rows) (many : length w.partitions ≡ length v.partitions) where
  -- partitions that are there stay there
  pub kept-partition : (p : ℕ) → HasPartition v p → HasPartition w p
  kept-partition p h = omega (arith, many, h)

  -- a container of an application that keeps its home is still what it was to it
  pub kept-role : (app : ℕ) → IsLive app v.apps
      → ((row : AppRow) → lookup (nat_eq app) v.apps ≡ Some row → (other : AppRow) × (lookup (nat_eq app) w.apps ≡ Some other) × (other.home ≡ row.home))
      → (p : ℕ) (r : Role) → IsRole v p app r → IsRole w p app r
  kept-role app live apps p Master h =
      let row = live-found app v.apps live in
      let new = apps row.0 row.1 in
      subst (λ o. IfSome o (λ (r : AppRow). r.home ≡ p)) (sym new.1) (new.2 ∙ at_live (λ (r : AppRow). r.home ≡ p) (lookup (nat_eq app) v.apps) row.0 h row.1)
  kept-role app live apps p (Asked asked priority) h = kept-partition asked h

  -- so does a container whose application and whose node are there, at home and in the partition where they were
  pub kept-container : (p shown later : ℕ) (c : Container) → IsContainer v p shown c → shown ≤ later
      → ((row : AppRow) → lookup (nat_eq c.app) v.apps ≡ Some row → (other : AppRow) × (lookup (nat_eq c.app) w.apps ≡ Some other) × (other.home ≡ row.home))
      → ((row : NodeRow) → lookup (nat_eq c.node) v.nodes ≡ Some row → (other : NodeRow) × (lookup (nat_eq c.node) w.nodes ≡ Some other) × (other.partition ≡ row.partition))
      → IsContainer w p later c
  kept-container p shown later c is more apps nodes = record {
    app = let row = live-found c.app v.apps is.app in ap is_some (apps row.0 row.1).1;
    node = (nodes is.node is.node_found).0;
    node_found = (nodes is.node is.node_found).1;
    node_there = (nodes is.node is.node_found).2 ∙ is.node_there;
    role = kept-role c.app is.app apps p c.role is.role;
    clock = omega (arith, is.clock, more);
  }
