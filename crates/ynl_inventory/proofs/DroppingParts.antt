-- A container goes with its node: how the parts mean it.
use Rattle.std.proofs.Common.{◌≡◌, ℕ, Bool, true, false, cond, List, [], ◌∷◌, map, slice_get, Some, nat_eq, refl, sym, ap, subst, ◌∙◌, arith}
use Rattle.std.specs.Prelude.{slice_set}
use Rattle.std.specs.List.{AllByRecursion}
use Rattle.std.specs.Map.{lookup}
use Rattle.std.proofs.lemmas.Bool.Decides.{nat_tests}
use Rattle.std.proofs.lemmas.Option.{same_Some}
use Rattle.ynl_resource.specs.Amounts.{plus}
use Rattle.ynl_slots.specs.Slots.{Numbered, with_row, without}
use Rattle.ynl_slots.specs.declared.chain.Chain.{Chain}
use Rattle.ynl_tables.specs.declared.nodes.nodes.NodeRow.{NodeRow as NodePart}
use Rattle.ynl_tables.specs.declared.apps.app.AppRow.{AppRow as AppPart}
use Rattle.ynl_tables.specs.apps.Apps.{with_change, with_app}
use Rattle.ynl_tables.specs.declared.containers.container.Container.{Container}
use Rattle.ynl_tables.specs.containers.Fields.{of_rows}
use Rattle.ynl_tables.proofs.containers.Rows.{lookup-of_rows}
use Rattle.ynl_inventory.specs.declared.partition.Partition.{Partition}
use Rattle.ynl_inventory.specs.declared.inventory.Inventory.TheInside.{Inside}
use Rattle.ynl_inventory.specs.Rows.{Rows, NodeRow}
use Rattle.ynl_inventory.specs.Changes.{with_dropped}
use Rattle.ynl_inventory.specs.Sound.{IsSound}
use Rattle.ynl_inventory.specs.Parts.{held_of, partition_row, node_row, app_row, released_part, IsInventory}
use Rattle.ynl_inventory.proofs.Updates.{each-number}
use Rattle.ynl_inventory.proofs.Dropping.{dropped-sound}
use Rattle.ynl_inventory.proofs.PartLists.{map-set}
use Rattle.ynl_inventory.proofs.EndingParts.{IsOut, row-there, out-apps, out-nodes}
use Rattle.std.proofs.Common.{option_map}

-- what `Partition::discard` leaves
pub record IsDropped (number : ℕ) (held : Container) (old new : Partition) (of_node of_app : Chain) : Type 0 where
  pub label : new.label ≡ old.label
  pub limit : new.limit ≡ old.limit
  pub clock : new.clock ≡ old.clock
  pub out : IsOut number held old new of_node of_app

-- a change that leaves the row of the number leaves all
pub changed-none : {X : Type 0} (n : ℕ) (f : X → X) (es : List (ℕ × X)) → AllByRecursion (λ e. e.0 ≡ n → f e.1 ≡ e.1) es → with_change n f es ≡ es
changed-none n f [] h = refl
changed-none {X} n f (e ∷ es) h = λ i. one (nat_eq n e.0) refl i ∷ changed-none n f es h.1 i
  where
    one : (b : Bool) → nat_eq n e.0 ≡ b → ◌≡◌ {A = ℕ × X} (cond b (e.0, f e.1) e) e
    one true is = let same : e.0 ≡ n = grind (arith, nat_tests, is) in λ i. (e.0, h.0 same i)
    one false is = refl

module _ (a : Inside) (inv : IsInventory a) (p number : ℕ) (part : Partition) (there : slice_get a.partitions.items p ≡ Some part) (held : Container) (found : lookup (nat_eq number) part.containers.entries ≡ Some held)
    (row : NodePart) (at : lookup (nat_eq held.node) a.nodes.entries ≡ Some row) (new : Partition) (of_node of_app : Chain) (is : IsDropped number held part new of_node of_app)
    (nodes' : List (ℕ × NodePart)) (apps' : Numbered AppPart)
    (nodes-are : nodes' ≡ with_change held.node (λ r. record r { containers = of_node; stamp = row.stamp; free = plus r.free held.size }) a.nodes.entries)
    (apps-are : apps' ≡ with_app held.app (λ r. released_part held.role (record r { chains = with_row p of_app r.chains })) a.apps) where
  abbrev before : Rows
  before = (held_of a).rows

  abbrev rows_after : Rows
  rows_after = record {
    paths = a.layout;
    partitions = map partition_row (slice_set a.partitions.items p new);
    nodes = of_rows node_row nodes';
    apps = of_rows app_row apps'.entries;
    tenants = before.tenants;
    users = a.users;
  }

  -- the rows are those without the container
  pub dropped-rows : rows_after ≡ with_dropped p number before
  dropped-rows = λ i. record { paths = a.layout; partitions = partitions i; nodes = nodes i; apps = apps i; tenants = before.tenants; users = a.users }
    where
      partitions : map partition_row (slice_set a.partitions.items p new) ≡ (with_dropped p number before).partitions
      partitions =
          map-set partition_row (λ row. record row { containers = without number row.containers }) a.partitions.items p part new there
          (λ i. record { label = is.label i; guests = is.out.guests i; limit = is.limit i; clock = is.clock i; containers = is.out.entries i })

      row-at : lookup (nat_eq held.node) before.nodes ≡ Some (node_row row)
      row-at = lookup-of_rows node_row held.node a.nodes.entries ∙ ap (option_map node_row) at

      stamped : (n : ℕ) (r : NodeRow) → lookup (nat_eq n) before.nodes ≡ Some r → n ≡ held.node → record r { stamp = row.stamp } ≡ r
      stamped n r its same =
          let own : node_row row ≡ r = same_Some (node_row row) r (sym row-at ∙ ap (λ m. lookup (nat_eq m) before.nodes) (sym same) ∙ its) in
          λ i. record r { stamp = ap (λ (r : NodeRow). r.stamp) own i }

      nodes : of_rows node_row nodes' ≡ before.nodes
      nodes =
          out-nodes a inv p number part there held found row at new of_node of_app is.out row.stamp nodes' apps' nodes-are apps-are
          ∙ changed-none held.node (λ r. record r { stamp = row.stamp }) before.nodes
          (each-number (λ n r. n ≡ held.node → record r { stamp = row.stamp } ≡ r) before.nodes inv.sound.node_numbers stamped)

      apps : of_rows app_row apps'.entries ≡ before.apps
      apps = out-apps a inv p number part there held found row at new of_node of_app is.out row.stamp nodes' apps' nodes-are apps-are

  -- they are sound
  pub dropped-rows-sound : IsSound rows_after
  dropped-rows-sound = subst IsSound (sym dropped-rows) (dropped-sound before inv.sound p (partition_row part) (row-there a inv p number part there held found) number)
