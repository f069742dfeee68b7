-- Nodes that join with a stamp, and their lines.
use Rattle.std.proofs.Common.{◌≡◌, ◌≤◌, ◌<◌, ℕ, Bool, true, false, not, cond, nat_eq, nat_le, ◌&&◌, ◌++◌, List, [], ◌∷◌, find, is_some, slice_get, Option, None, Some, option_map, refl, sym, ap, subst, ◌∙◌, arith, true≢false}
use Rattle.std.specs.Prelude.{IfSome}
use Rattle.std.specs.List.{AllByRecursion, list_any}
use Rattle.std.specs.Map.{lookup}
use Rattle.std.proofs.lemmas.Bool.Decides.{nat_tests}
use Rattle.std.proofs.lemmas.List.{map-append}
use Rattle.ynl_resource.specs.Names.{same_label, same_name}
use Rattle.ynl_model.specs.declared.nodes.Node.{Node}
use Rattle.ynl_model.specs.Accepted.{is_from_to}
use Rattle.ynl_model.specs.Changes.{node_joins}
use Rattle.ynl_model.specs.Cluster.{Partition, State, clock, in_partition, is_partition, next_clock, node_of}
use Rattle.ynl_model.specs.Nodes.{is_at, is_full, joined, stamped}
use Rattle.ynl_model.specs.Queues.{Config}
use Rattle.ynl_laws.proofs.Lists.{Each-all, Each-weaker, none-found}
use Rattle.ynl_laws.proofs.Logic.{and-false}
use Rattle.ynl_laws.proofs.Names.{same-label_self, same-name_self}
use Rattle.ynl_slots.specs.Slots.{IsLive, IsUnused}
use Rattle.ynl_slots.proofs.Entries.{itself, live-pushed}
use Rattle.ynl_slots.proofs.Lookups.{lookup-push}
use Rattle.ynl_tables.specs.declared.containers.container.Container.{Container}
use Rattle.ynl_inventory.specs.Changes.{next_clock_at, ticked, with_clock, with_joined}
use Rattle.ynl_inventory.specs.Rows.{NodeRow, PartitionRow}
use Rattle.ynl_inventory.specs.Sound.{CanShow, HasPartition, IsFor, IsSound}
use Rattle.ynl_inventory.proofs.Lookups.{at-same, length-at}
use Rattle.ynl_inventory.proofs.Naming.{label-at}
use Rattle.ynl_inventory.proofs.Updates.{each-number}
use Rattle.ynl_cluster.specs.Cluster.{ClusterView, label_of, state_in}
use Rattle.ynl_replies.specs.admission.Named.{IsPartitionOf}
use Rattle.ynl_saved.specs.declared.lines.StateLine.TheVariants.{Node as NodeLine}
use Rattle.ynl_saved.specs.Restoring.{is_sound_line, with_node, Restored}
use Rattle.ynl_snapshots.proofs.restoring.Clocks.{as-it-is, clocks-own, twice}
use Rattle.ynl_snapshots.proofs.restoring.Taken.{nat-beyond}

-- ---- what is tested

-- what is tested of the line of a node
pub node-sound : (c : Config) (r : Restored) (s : State) → r.state ≡ s → (node : Node) (used full stamped : Bool) → list_any (same_label node.label) r.partitions ≡ true
    → is_some (node_of s node.name) ≡ used → is_full s.nodes node.label ≡ full → is_from_to 1 (clock s node.label) node.stamp ≡ stamped
    → is_sound_line c r (NodeLine node) ≡ (not used && not full && stamped)
unfolding is_sound_line
node-sound c r s is node used full stamped told e f g =
    λ i. told i && not ((ap (λ (s : State). is_some (node_of s node.name)) is ∙ e) i) && not ((ap (λ (s : State). is_full s.nodes node.label) is ∙ f) i)
    && (ap (λ (s : State). is_from_to 1 (clock s node.label) node.stamp) is ∙ g) i

pub no-stamp : (shown stamp : ℕ) → stamp ≡ 0 → is_from_to 1 shown stamp ≡ false
no-stamp shown stamp h = ap (λ n. is_from_to 1 shown n) h

pub later-stamp : (shown stamp : ℕ) → shown < stamp → is_from_to 1 shown stamp ≡ false
later-stamp shown stamp h = ap (λ b. nat_le 1 stamp && b) (nat-beyond stamp shown h) ∙ and-false (nat_le 1 stamp)

pub own-stamp : (shown stamp : ℕ) → 0 < stamp → stamp ≤ shown → is_from_to 1 shown stamp ≡ true
own-stamp shown stamp above within =
    let first : nat_le 1 stamp ≡ true = grind (arith, nat_tests, above) in
    let second : nat_le stamp shown ≡ true = grind (arith, nat_tests, within) in
    λ i. first i && second i

-- ---- what a node that joins gets

-- the stamp of a node of a new name is set
stamp-last : (node : Node) (first : ℕ) (nodes : List Node) → find (λ (other : Node). same_name other.name node.name) nodes ≡ None
    → stamped node.name node.label node.stamp (joined (record node { stamp = first }) nodes) ≡ joined node nodes
unfolding stamped joined
stamp-last node first nodes none =
    map-append (λ (other : Node). cond (is_at node.name node.label other) (record other { stamp = node.stamp }) other) nodes (record node { stamp = first } ∷ [])
    ∙ (λ i. as-it-is (is_at node.name node.label) (λ other. record other { stamp = node.stamp }) nodes others i ++ own i ∷ [])
  where
    others : AllByRecursion (λ (other : Node). is_at node.name node.label other ≡ true → record other { stamp = node.stamp } ≡ other) nodes
    others =
        Each-weaker (λ (other : Node). same_name other.name node.name ≡ false) _
        (λ other apart same. absurd (true≢false (sym same ∙ ap (λ b. b && same_label other.label node.label) apart))) nodes
        (none-found (λ (other : Node). same_name other.name node.name) nodes none)

    own : cond (is_at node.name node.label (record node { stamp = first })) node (record node { stamp = first }) ≡ node
    own = ap (λ b. cond b node (record node { stamp = first })) (λ i. same-name_self node.name i && same-label_self node.label i)

module _ (w : ClusterView) (sound : IsSound w.rows) (configured : IsFor w.config w.rows) (node : Node) (p : ℕ) (its : IsPartitionOf w node.label p) (part : PartitionRow) (there : slice_get w.rows.partitions p ≡ Some part) where
  abbrev joining : ℕ → ClusterView
  joining number = record w { rows = with_joined number node.name p node.size w.rows }

  -- the partition is there as before
  pub joined-has : (number : ℕ) → HasPartition (joining number).rows p
  joined-has number = subst (λ n. p < n) (sym (length-at p (ticked (λ containers. containers)) w.rows.partitions)) its.there

  -- and its clock may show again what it showed
  pub joined-shows : (number : ℕ) → CanShow (joining number).rows p part.clock
  joined-shows number = record {
    within = subst (λ (o : Option PartitionRow). IfSome o (λ row. part.clock ≤ row.limit)) (sym after) (sound.partitions p part there).clock;
    above =
        subst (λ (o : Option PartitionRow). IfSome o (λ row. AllByRecursion (λ e. e.1.clock ≤ part.clock) row.containers)) (sym after)
        (each-number (λ n (c : Container). c.clock ≤ part.clock) part.containers (sound.partitions p part there).numbers (λ n c found. ((sound.partitions p part there).each n c found).clock));
  }
    where
      after : slice_get (joining number).rows.partitions p ≡ Some (ticked (λ containers. containers) part)
      after = at-same p (ticked (λ containers. containers)) w.rows.partitions ∙ ap (option_map (ticked (λ containers. containers))) there

  abbrev row : NodeRow
  row = record { name = node.name; partition = p; size = node.size; stamp = next_clock_at w.rows.partitions p }

  -- the node has its row
  pub joined-found : (number shown : ℕ) → IsUnused number w.rows.nodes → lookup (nat_eq number) (with_clock p shown (joining number).rows).nodes ≡ Some row
  joined-found number shown unused = lookup-push number number row w.rows.nodes unused ∙ ap (λ b. cond b (Some row) (lookup (nat_eq number) w.rows.nodes)) (itself number)

  pub joined-live : (number shown : ℕ) → IsUnused number w.rows.nodes → IsLive number (with_clock p shown (joining number).rows).nodes
  joined-live number shown unused = live-pushed number row w.rows.nodes unused

  -- once the clock shows what it showed, and the node has its stamp, only the node is new
  module _ (number : ℕ) (unused : IsUnused number w.rows.nodes) (new : node_of (state_in w) node.name ≡ None)
      (w1 w2 w3 : ClusterView) (e1 : w1 ≡ joining number) (s1 : state_in w1 ≡ node_joins w.config node.name (label_of w p) node.size (state_in w))
      (shown : ℕ) (shown-is : shown ≡ part.clock)
      (e2 : w2 ≡ record w1 { rows = with_clock p shown w1.rows }) (s2 : state_in w2 ≡ record (state_in w1) { partitions = in_partition (label_of w1 p) (λ row. record row { clock = shown }) (state_in w1).partitions })
      (s3 : (row : NodeRow) → lookup (nat_eq number) w2.rows.nodes ≡ Some row → state_in w3 ≡ record (state_in w2) { nodes = stamped row.name (label_of w2 row.partition) node.stamp (state_in w2).nodes }) where
    label1 : label_of w1 p ≡ node.label
    label1 = ap (λ (w : ClusterView). label_of w p) e1 ∙ label-at p (ticked (λ containers. containers)) (λ row. refl) w.rows.partitions p ∙ its.own

    label2 : label_of w2 p ≡ node.label
    label2 = ap (λ (w : ClusterView). label_of w p) e2 ∙ label-at p (λ row. record row { clock = shown }) (λ row. refl) w1.rows.partitions p ∙ label1

    found2 : lookup (nat_eq number) w2.rows.nodes ≡ Some row
    found2 = ap (λ (w : ClusterView). lookup (nat_eq number) w.rows.nodes) e2 ∙ ap (λ (w : ClusterView). lookup (nat_eq number) w.rows.nodes) e1 ∙ joined-found number shown unused

    abbrev t : ℕ
    t = next_clock w.config.labels (state_in w) node.label

    abbrev s : State
    s = state_in w

    s1' : state_in w1 ≡ record s { nodes = joined (record node { stamp = t }) s.nodes; partitions = in_partition node.label (λ row. record row { clock = t }) s.partitions }
    unfolding node_joins
    s1' = s1 ∙ ap (λ label. node_joins w.config node.name label node.size s) its.own

    partitions-back : in_partition node.label (λ row. record row { clock = shown }) (in_partition node.label (λ row. record row { clock = t }) s.partitions) ≡ s.partitions
    partitions-back =
        twice (is_partition node.label) (λ (row : Partition). record row { clock = t }) (λ (row : Partition). record row { clock = shown }) (λ (row : Partition). record row { clock = shown }) (λ row. refl) s.partitions
        (Each-all (λ (row : Partition). is_partition node.label row ≡ true → record row { clock = shown } ≡ record row { clock = shown }) (λ row same. refl) s.partitions)
        ∙ as-it-is (is_partition node.label) (λ (row : Partition). record row { clock = shown }) s.partitions
        (Each-weaker (λ (row : Partition). is_partition node.label row ≡ true → row.clock ≡ part.clock) _ (λ row k same. let back : shown ≡ row.clock = shown-is ∙ sym (k same) in λ i. record row { clock = back i }) s.partitions
        (clocks-own w sound configured node.label p its part there))

    s2' : state_in w2 ≡ record s { nodes = joined (record node { stamp = t }) s.nodes }
    s2' =
        s2 ∙ ap (λ label. record (state_in w1) { partitions = in_partition label (λ row. record row { clock = shown }) (state_in w1).partitions }) label1
        ∙ ap (λ (s : State). record s { partitions = in_partition node.label (λ row. record row { clock = shown }) s.partitions }) s1'
        ∙ (λ i. record s { nodes = joined (record node { stamp = t }) s.nodes; partitions = partitions-back i })

    pub node-told : state_in w3 ≡ with_node node s
    node-told =
        s3 row found2
        ∙ ap (λ label. record (state_in w2) { nodes = stamped node.name label node.stamp (state_in w2).nodes }) label2
        ∙ ap (λ (s : State). record s { nodes = stamped node.name node.label node.stamp s.nodes }) s2'
        ∙ (λ i. record s { nodes = stamp-last node t s.nodes new i })
