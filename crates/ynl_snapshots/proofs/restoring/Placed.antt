-- A line's container is placed as it says.
use Rattle.std.proofs.Common.{◌≡◌, ◌≤◌, ◌<◌, ℕ, Bool, true, false, ◌&&◌, nat_lt, [], slice_get, Some, refl, sym, ap, subst, ◌∙◌, arith}
use Rattle.std.specs.Prelude.{IfSome}
use Rattle.std.specs.Option.{option_map_or}
use Rattle.ynl_resource.specs.Names.{same_name}
use Rattle.ynl_resource.specs.declared.names.Name.{Name}
use Rattle.ynl_model.specs.declared.containers.Placed.{Placed}
use Rattle.ynl_model.specs.declared.nodes.Node.{Node}
use Rattle.ynl_model.specs.Applications.{find_app}
use Rattle.ynl_model.specs.Cluster.{State, clock, node_of}
use Rattle.ynl_model.specs.Queues.{Config}
use Rattle.ynl_laws.proofs.Lists.{Each-find, found-passes}
use Rattle.ynl_laws.proofs.Names.{same-name_sym}
use Rattle.ynl_tables.specs.declared.containers.container.Role.{Role}
use Rattle.ynl_inventory.specs.Changes.{partition_of_node}
use Rattle.ynl_inventory.specs.Meaning.{app_of, node_name, node_of as node_of_row, owner_of}
use Rattle.ynl_inventory.specs.Parts.{CanStand}
use Rattle.ynl_inventory.specs.Rows.{NodeRow, PartitionRow}
use Rattle.ynl_inventory.specs.Sound.{IsFor, IsSound}
use Rattle.ynl_inventory.specs.declared.partition.Placement.{Placement}
use Rattle.ynl_inventory.proofs.Lookups.{place-there}
use Rattle.ynl_inventory.proofs.Tenants.{owner-named}
use Rattle.ynl_cluster.specs.Cluster.{ClusterView, label_of, state_in}
use Rattle.ynl_replies.specs.admission.Named.{IsAppNamed, IsPartitionOf}
use Rattle.ynl_saved.specs.declared.lines.StateLine.TheVariants.{Container as ContainerLine}
use Rattle.ynl_saved.specs.Restoring.{is_given, is_sound_line, last_clock, may_have, may_stand, Restored}
use Rattle.ynl_saved.proofs.Leaved.{found-name}
use Rattle.ynl_saved.proofs.Stand.{found-tenant}
use Rattle.ynl_snapshots.specs.restoring.Placing.{IsPlacedAs, IsRoleOf, IsSteady, StandsOn}
use Rattle.ynl_snapshots.proofs.restoring.Clocks.{clock-shown}
use Rattle.ynl_snapshots.proofs.restoring.Lasts.{all-before}

-- what is tested of the line of a container
pub container-sound : (c : Config) (r : Restored) (s : State) → r.state ≡ s → (p : Placed) (stands may : Bool)
    → (option_map_or (may_stand s p) (node_of s p.node) false && nat_lt (last_clock s p.id.label) p.id.clock && is_given c p.size) ≡ stands
    → option_map_or (may_have c s p p.what) (find_app s.leaves p.tenant p.app) false ≡ may → is_sound_line c r (ContainerLine p) ≡ (stands && may)
unfolding is_sound_line
container-sound c r s is p stands may e f =
    ap (λ (s : State). option_map_or (may_stand s p) (node_of s p.node) false && nat_lt (last_clock s p.id.label) p.id.clock && is_given c p.size && option_map_or (may_have c s p p.what) (find_app s.leaves p.tenant p.app) false) is
    ∙ (λ i. e i && f i)

-- a node that is found has its name
node-name : (s : State) (name : Name) (node : Node) → node_of s name ≡ Some node → node.name ≡ name
node-name s name node e = same-name_sym node.name name (subst (λ o. IfSome o (λ (n : Node). same_name n.name name ≡ true)) e (found-passes (λ (n : Node). same_name n.name name) s.nodes))

module _ (w : ClusterView) (sound : IsSound w.rows) (configured : IsFor w.config w.rows) (steady : IsSteady (state_in w)) (placed : Placed) (node : ℕ) (stands : StandsOn w placed node) (app : ℕ) (named : IsAppNamed w placed.tenant placed.app app) (role : Role) where
  abbrev row : NodeRow
  row = stands.named.row

  abbrev part : (part : PartitionRow) × (slice_get w.rows.partitions row.partition ≡ Some part)
  part = place-there w.rows.partitions row.partition (sound.nodes node row stands.named.found)

  abbrev placement : Placement
  placement = record { node = node; app = app; role = role; size = placed.size }

  -- its node's last change is none to come
  shown : row.stamp ≤ part.0.clock
  shown =
      let is : IsPartitionOf w (label_of w row.partition) row.partition = record { there = sound.nodes node row stands.named.found; own = refl } in
      subst (λ n. row.stamp ≤ n) (clock-shown w sound configured (label_of w row.partition) row.partition is part.0 part.1)
      (Each-find (λ (n : Node). n.stamp ≤ clock (state_in w) n.label) (λ (n : Node). same_name n.name placed.node) (state_in w).nodes steady.shown (node_of_row w.rows.partitions row) stands.named.named).0

  -- the label of its partition, its node's name, and its owner's names are those that the line says
  label-is : label_of w (partition_of_node w.rows.nodes node) ≡ placed.id.label
  label-is = ap (λ o. label_of w (option_map_or (λ (row : NodeRow). row.partition) o 0)) stands.named.found ∙ stands.own

  node-is : node_name w.rows.nodes node ≡ placed.node
  node-is =
      ap (λ o. option_map_or (λ (row : NodeRow). row.name) o []) stands.named.found
      ∙ node-name (state_in w) placed.node (node_of_row w.rows.partitions row) stands.named.named

  owner-is : ◌≡◌ {A = Name × Name} (owner_of w.rows app) (placed.tenant, placed.app)
  owner-is =
      owner-named w.rows sound app named.row named.found
      ∙ (λ i. (
        found-tenant (state_in w).leaves steady.finds placed.tenant placed.app (app_of w.rows (app, named.row)) named.named i,
        found-name (state_in w).leaves placed.tenant placed.app (app_of w.rows (app, named.row)) named.named i,
      ))

  module _ (is : IsRoleOf w app row.partition placed.what role) where
    can : CanStand w.rows placement placed.id.clock
    can = record {
      standable = record {
        node_row = row;
        node_found = stands.named.found;
        partition = part.0;
        partition_found = part.1;
        last = all-before w sound row.partition part.0 part.1 placed.id.clock (subst (λ l. last_clock (state_in w) l < placed.id.clock) (sym stands.own) stands.later);
        shown = let stamped = stands.stamped in omega (arith, stamped, shown);
        app_row = named.row;
        app_found = named.found;
        role = is.may named.row part.0 named.found part.1;
      };
      fits = stands.fits;
    }

    -- it is placed as what it is
    pub placed-as : IsPlacedAs w placed placement
    placed-as = record {
      can = can;
      is = λ i. record {
        id = record { label = label-is i; clock = placed.id.clock };
        node = node-is i;
        tenant = (owner-is i).0;
        app = (owner-is i).1;
        what = is.means i;
        size = placed.size;
      };
    }
