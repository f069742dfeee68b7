-- A node joins or leaves: how the parts mean it, and go together after.
use Rattle.std.proofs.Common.{◌≡◌, ◌≢◌, ◌-◌, ℕ, Bool, true, false, cond, is_some, List, [], ◌∷◌, ◌++◌, map, slice_get, Some, None, option_map, nat_eq, refl, sym, ap, subst, ◌∙◌, inl, inr, arith}
use Rattle.std.specs.Prelude.{slice_set}
use Rattle.std.specs.List.{AllByRecursion}
use Rattle.std.specs.Map.{lookup}
use Rattle.std.specs.Option.{option_map_or}
use Rattle.std.proofs.lemmas.Option.{none-some, same_Some, slice_get-map}
use Rattle.ynl_resource.specs.Amounts.{nothing, less, fits_in, total_of, IsSize, IsSmall}
use Rattle.ynl_resource.specs.Names.{same_name}
use Rattle.ynl_resource.specs.declared.amounts.Resource.{Resource}
use Rattle.ynl_resource.specs.declared.names.Name.{Name}
use Rattle.ynl_model.specs.Nodes.{rises}
use Rattle.ynl_laws.proofs.Lists.{Each-unmap, filter-nothing, map-map}
use Rattle.ynl_slots.specs.Slots.{IsLive, IsUnused, without}
use Rattle.ynl_slots.specs.Chain.{IsChain}
use Rattle.ynl_slots.proofs.Entries.{other}
use Rattle.ynl_slots.proofs.Lookups.{lookup-without}
use Rattle.ynl_tables.specs.declared.nodes.nodes.NodeRow.{NodeRow as NodePart}
use Rattle.ynl_tables.specs.nodes.Nodes.{Joins, no_chain, number_of}
use Rattle.ynl_tables.specs.declared.containers.container.Container.{Container}
use Rattle.ynl_tables.specs.containers.Chains.{IsNodeChain}
use Rattle.ynl_tables.specs.containers.Fields.{of_rows}
use Rattle.ynl_tables.proofs.containers.Numbers.{no_numbers}
use Rattle.ynl_tables.proofs.containers.Rows.{lookup-of_rows, of_rows-push, of_rows-without, unused_of_rows}
use Rattle.ynl_inventory.specs.declared.partition.Partition.{Partition}
use Rattle.ynl_inventory.specs.declared.inventory.Inventory.TheInside.{Inside}
use Rattle.ynl_inventory.specs.Rows.{Rows, NodeRow}
use Rattle.ynl_inventory.specs.Meaning.{node_number}
use Rattle.ynl_inventory.specs.Changes.{with_at, ticked, next_clock, next_clock_at, with_joined, with_node_gone}
use Rattle.ynl_inventory.specs.Sound.{HasNoContainers, IsJoinable, IsPartition, IsSound}
use Rattle.ynl_inventory.specs.Parts.{Held, held_of, partition_row, node_row, used_of, AreLinked, IsInventory}
use Rattle.ynl_inventory.proofs.Lookups.{found-live, live-apart, live-found, pushed-cases}
use Rattle.ynl_inventory.proofs.Updates.{each-number, unnamed}
use Rattle.ynl_inventory.proofs.Dropping.{gone-sound}
use Rattle.ynl_inventory.proofs.Joining.{joined-sound}
use Rattle.ynl_inventory.proofs.Used.{parts-fit}
use Rattle.ynl_inventory.proofs.PartLists.{unmapped, map-set, set-same}
use Rattle.ynl_inventory.proofs.PartsChange.{IsRight}
use Rattle.ynl_inventory.proofs.RoomParts.{map-kept, room-linked}

-- ---- leaving

-- what is found without a number was found
pub found-without : {X : Type 0} (n m : ℕ) (row : X) (es : List (ℕ × X)) → lookup (nat_eq n) (without m es) ≡ Some row → lookup (nat_eq n) es ≡ Some row
found-without n m row es found = go (nat_eq n m) (sym (lookup-without n m es) ∙ found)
  where
    go : (b : Bool) → cond b None (lookup (nat_eq n) es) ≡ Some row → lookup (nat_eq n) es ≡ Some row
    go true h = absurd (none-some row h)
    go false h = h

module _ (a : Inside) (node : ℕ) (nodes' : List (ℕ × NodePart)) (is : nodes' ≡ without node a.nodes.entries) where
  -- what the parts mean without a node
  pub left-held : held_of (record a { nodes = record a.nodes { entries = nodes' } }) ≡ record (held_of a) { rows = with_node_gone node (held_of a).rows }
  left-held = λ i. record (held_of a) { rows = record (held_of a).rows { nodes = (ap (of_rows node_row) is ∙ of_rows-without node_row node a.nodes.entries) i } }

  -- they go together as before
  pub left-linked : AreLinked a.partitions.items a.nodes.entries a.apps.entries → AreLinked a.partitions.items nodes' a.apps.entries
  left-linked linked = subst (λ nodes. AreLinked a.partitions.items nodes a.apps.entries) (sym is) (record {
    node = λ n row part found at. linked.node n row part (found-without n node row a.nodes.entries found) at;
    app = linked.app;
    free = λ n row part found at. linked.free n row part (found-without n node row a.nodes.entries found) at;
    fits = λ n row part found at. linked.fits n row part (found-without n node row a.nodes.entries found) at;
    small = λ n row found. linked.small n row (found-without n node row a.nodes.entries found);
    master = linked.master;
    places = linked.places;
  })

  -- and their invariant holds
  pub left-inventory : IsInventory a → IsLive node (held_of a).rows.nodes → HasNoContainers (held_of a).rows node → IsInventory (record a { nodes = record a.nodes { entries = nodes' } })
  left-inventory inv live none = record {
    sound =
        subst IsSound (sym (ap (λ (h : Held). h.rows) left-held))
        (let own = live-found node (held_of a).rows.nodes live in gone-sound (held_of a).rows inv.sound node own.0 own.1 none);
    linked = left-linked inv.linked;
  }

-- a node that has a row is there
pub node-live : (a : Inside) (node : ℕ) → IsLive node (held_of a).rows.nodes → IsLive node a.nodes.entries
node-live a node live =
    let own = live-found node (held_of a).rows.nodes live in
    ap is_some (unmapped node_row (lookup (nat_eq node) a.nodes.entries) own.0 (sym (lookup-of_rows node_row node a.nodes.entries) ∙ own.1)).1

-- ---- joining

-- a name that has no number is no node's
unnamed-all : (name : Name) (es : List (ℕ × NodeRow)) → node_number name es ≡ None → AllByRecursion (λ e. same_name e.1.name name ≡ false) es
unnamed-all name es none =
    Each-unmap (λ (e : ℕ × NodeRow). (e.1.name, e.0)) (λ (f : Name × ℕ). same_name f.0 name ≡ false) es (unnamed name (map (λ (e : ℕ × NodeRow). (e.1.name, e.0)) es) none)

-- the table of the nodes has the numbers of the rows
pub same-number : (name : Name) (nodes : List (ℕ × NodePart)) → node_number name (of_rows node_row nodes) ≡ number_of name nodes
same-number name nodes = ap (lookup (same_name name)) (map-map (λ (e : ℕ × NodeRow). (e.1.name, e.0)) (λ (e : ℕ × NodePart). (e.0, node_row e.1)) nodes)

pub unnumbered : (name : Name) (nodes : List (ℕ × NodePart)) → node_number name (of_rows node_row nodes) ≡ None → number_of name nodes ≡ None
unnumbered name nodes none = sym (same-number name nodes) ∙ none

less-nothing : (a : Resource) → a ≡ less a nothing
less-nothing a = λ i. record { memory = memory i; vcores = vcores i }
  where
    memory : a.memory ≡ a.memory - 0
    memory = omega arith

    vcores : a.vcores ≡ a.vcores - 0
    vcores = omega arith

nothing-fits : (a : Resource) → fits_in nothing a ≡ true
nothing-fits a = parts-fit nothing a (omega arith) (omega arith)

size-small : (a : Resource) → IsSize a → IsSmall a
size-small a is = (omega (arith, is.memory), omega (arith, is.vcores))

module _ (number : ℕ) (x : Partition) (none : AllByRecursion (λ e. e.1.node ≢ number) x.containers.entries) where
  unused-node : used_of x.containers.entries number ≡ nothing
  unused-node = ap (total_of (λ e. e.1.size)) (filter-nothing (λ e. nat_eq e.1.node number) x.containers.entries (all x.containers.entries none))
    where
      all : (es : List (ℕ × Container)) → AllByRecursion (λ e. e.1.node ≢ number) es → AllByRecursion (λ e. nat_eq e.1.node number ≡ false) es
      all [] h = tt
      all (e ∷ es) h = (other e.1.node number h.0, all es h.1)

  -- a node without containers is right with no chain
  empty-right : (row : NodePart) → row.containers ≡ no_chain → row.free ≡ row.size → IsRight number row x
  empty-right row chain free = record {
    chain =
        subst (λ chain. IsNodeChain x.containers chain number) (sym chain)
        (subst (IsChain (λ n. lookup (nat_eq n) x.containers.of_node) no_chain) (sym (no_numbers (λ (c : Container). c.node) number x.containers.entries none))
        (record { first = refl; last = refl; run = tt; distinct = tt }));
    free = free ∙ less-nothing row.size ∙ ap (less row.size) (sym unused-node);
    fits = ap (λ u. fits_in u row.size) unused-node ∙ nothing-fits row.size;
  }

module _ (a : Inside) (inv : IsInventory a) (p : ℕ) (part : Partition) (there : slice_get a.partitions.items p ≡ Some part) (number : ℕ) (name : Name) (size : Resource) (clock : ℕ)
    (unnamed : node_number name (held_of a).rows.nodes ≡ None) (clock-is : clock ≡ rises part.limit part.clock) (is-size : IsSize size)
    (nodes' : List (ℕ × NodePart)) (joins : Joins number name p size clock a.nodes.entries nodes') where
  abbrev v : Rows
  v = (held_of a).rows

  abbrev new : Partition
  new = record part { clock = clock }

  abbrev row : NodePart
  row = record { name = name; partition = p; size = size; free = size; stamp = clock; containers = no_chain }

  row-there : slice_get v.partitions p ≡ Some (partition_row part)
  row-there = slice_get-map partition_row a.partitions.items p ∙ ap (option_map partition_row) there

  unused : IsUnused number v.nodes
  unused = unused_of_rows node_row number a.nodes.entries joins.unused

  -- the node may join
  can : IsJoinable v number name p
  can = record { unused = unused; unnamed = unnamed-all name v.nodes unnamed; partition = partition_row part; found = row-there }

  stamp-is : clock ≡ next_clock_at v.partitions p
  stamp-is = clock-is ∙ sym (ap (λ o. option_map_or next_clock o 0) row-there)

  abbrev rows_after : Rows
  rows_after = record {
    paths = a.layout;
    partitions = map partition_row (slice_set a.partitions.items p new);
    nodes = of_rows node_row nodes';
    apps = v.apps;
    tenants = v.tenants;
    users = a.users;
  }

  -- the rows are those with the node
  pub joined-rows : rows_after ≡ with_joined number name p size v
  joined-rows = λ i. record { paths = a.layout; partitions = partitions i; nodes = nodes i; apps = v.apps; tenants = v.tenants; users = a.users }
    where
      partitions : map partition_row (slice_set a.partitions.items p new) ≡ with_at p (ticked (λ containers. containers)) v.partitions
      partitions =
          map-set partition_row (ticked (λ containers. containers)) a.partitions.items p part new there (λ i. record (partition_row part) { clock = clock-is i })

      nodes : of_rows node_row nodes' ≡ (with_joined number name p size v).nodes
      nodes =
          ap (of_rows node_row) joins.nodes ∙ of_rows-push node_row number row a.nodes.entries
          ∙ (λ i. v.nodes ++ (number, record { name = name; partition = p; size = size; stamp = stamp-is i }) ∷ [])

  -- they are sound
  pub joined-rows-sound : IsSound rows_after
  joined-rows-sound = subst IsSound (sym joined-rows) (joined-sound v inv.sound number name p size can)

  -- as much room is left
  pub same-rooms : map (λ (x : Partition). x.containers.room) (slice_set a.partitions.items p new) ≡ map (λ (x : Partition). x.containers.room) a.partitions.items
  same-rooms = map-kept (λ (x : Partition). x.containers.room) a.partitions.items p part new there refl

  -- so the parts mean the node more
  pub joined-held : ◌≡◌ {A = Held} (record (held_of a) { rows = rows_after; rooms = map (λ (x : Partition). x.containers.room) (slice_set a.partitions.items p new) })
      (record (held_of a) { rows = with_joined number name p size v })
  joined-held = λ i. record (held_of a) { rows = joined-rows i; rooms = same-rooms i }

  -- no container stands on the node yet
  empty : AllByRecursion (λ e. e.1.node ≢ number) part.containers.entries
  empty =
      let is : IsPartition v p (partition_row part) = inv.sound.partitions p (partition_row part) row-there in
      each-number (λ n c. c.node ≢ number) part.containers.entries is.numbers
      (λ n c found. let on = is.each n c found in live-apart c.node number v.nodes (found-live c.node on.node v.nodes on.node_found) unused)

  linked-before : AreLinked (slice_set a.partitions.items p new) a.nodes.entries a.apps.entries
  linked-before = room-linked a.partitions.items p part new there refl refl a.nodes.entries a.apps.entries inv.linked

  right : (n : ℕ) (r : NodePart) (x : Partition) → lookup (nat_eq n) (a.nodes.entries ++ (number, row) ∷ []) ≡ Some r → slice_get (slice_set a.partitions.items p new) r.partition ≡ Some x → IsRight n r x
  right n r x found at =
      elim (pushed-cases n number row a.nodes.entries joins.unused r found) [
        | inl own ↦
            let place : r.partition ≡ p = ap (λ (r : NodePart). r.partition) own.1 in
            let its : x ≡ new = same_Some x new (sym at ∙ ap (slice_get (slice_set a.partitions.items p new)) place ∙ set-same a.partitions.items p part new there) in
            subst (λ m. IsRight m r x) (sym own.0) (subst (λ s. IsRight number s x) (sym own.1) (subst (IsRight number row) (sym its) (empty-right number new empty row refl refl)))
        | inr was ↦ record { chain = linked-before.node n r x was at; free = linked-before.free n r x was at; fits = linked-before.fits n r x was at }
      ]

  -- and the parts go together
  pub joined-linked : AreLinked (slice_set a.partitions.items p new) nodes' a.apps.entries
  joined-linked =
      subst (λ nodes. AreLinked (slice_set a.partitions.items p new) nodes a.apps.entries) (sym joins.nodes)
      (record {
        node = λ n r x found at. (right n r x found at).chain;
        app = linked-before.app;
        free = λ n r x found at. (right n r x found at).free;
        fits = λ n r x found at. (right n r x found at).fits;
        small = λ n r found.
            elim (pushed-cases n number row a.nodes.entries joins.unused r found) [
              | inl own ↦ subst (λ (s : NodePart). IsSmall s.size) (sym own.1) (size-small size is-size)
              | inr was ↦ linked-before.small n r was
            ];
        master = linked-before.master;
        places = linked-before.places;
      })
