-- Lines that are sound one after another have clocks, stamps and ids in range; and so, where no ask counts more than an ask may, all that is asked of
-- them for their texts to read as they are.
use Rattle.std.proofs.Common.{◌≡◌, ◌≤◌, ◌<◌, ℕ, not, ◌&&◌, is_some, List, [], ◌∷◌, ◌++◌, Option, Some, None, true, false, find, arith, le_trans}
use Rattle.std.specs.List.{AllByRecursion, list_any}
use Rattle.std.specs.Option.{option_map_or}
use Rattle.std.specs.Prelude.{IsTrue, IfSome, ⊤, nat_le, nat_lt}
use Rattle.std.proofs.lemmas.Bool.{and_parts, leb-true, ltb-true}
use Rattle.ynl_resource.specs.Amounts.{fits_in}
use Rattle.ynl_resource.specs.Names.{same_label, same_name}
use Rattle.ynl_resource.specs.Ranges.{most_clock}
use Rattle.ynl_resource.specs.declared.labels.Label.{Label}
use Rattle.ynl_resource.specs.declared.names.Name.{Name}
use Rattle.ynl_model.specs.Accepted.{is_accepted}
use Rattle.ynl_model.specs.Applications.{Application, find_app, in_leaf, with_app}
use Rattle.ynl_model.specs.Cluster.{State, Partition as PartitionRow, clock, is_partition, node_of}
use Rattle.ynl_model.specs.Nodes.{clock_limit, has_label, is_full, joined, partition_labels}
use Rattle.ynl_model.specs.Queues.{Config}
use Rattle.ynl_model.specs.declared.applications.AskRow.{AskRow}
use Rattle.ynl_model.specs.declared.containers.Placed.{Placed}
use Rattle.ynl_model.specs.declared.nodes.Node.{Node as NodeRow}
use Rattle.ynl_saved.specs.Restoring.{Restored, is_sound_line, last_clock, may_stand, nothing_restored, restored_by, restored_with, with_ask, with_line}
use Rattle.ynl_saved.specs.declared.lines.StateLine.TheVariants.{Begin, Partition, Node, Live, Ask, Finished, Container, Stopped, Maximum, End}
use Rattle.ynl_saved.specs.declared.lines.StateLine.{StateLine}
use Rattle.ynl_laws.proofs.Lists.{Each-all, Each-append, Each-find, Each-found, Each-map, Each-update}
use Rattle.ynl_saved.specs.Lines.{IsCountedLine}
use Rattle.ynl_saved.proofs.Configured.{most-limits}
use Rattle.ynl_saved.proofs.Restored.{first-sound, found-test}
use Rattle.ynl_saved_text.specs.StateLines.{IsClocked}

-- no clock of a state and no stamp is above the largest number of a clock
abbrev pub IsTimed : State → Type 0
IsTimed s = AllByRecursion (λ (row : PartitionRow). row.clock ≤ most_clock) s.partitions × AllByRecursion (λ (node : NodeRow). node.stamp ≤ most_clock) s.nodes

-- before any line there is none
timed-first : (c : Config) → IsTimed (nothing_restored c).state
timed-first c = (Each-map (λ label. ⊤) (λ (row : PartitionRow). row.clock ≤ most_clock) _ (λ label _. zero) (partition_labels c.labels) (Each-all _ (λ label. tt) (partition_labels c.labels)), tt)
  where
    zero : 0 ≤ most_clock
    zero = omega arith

-- what a clock shows is no more either
timed-clock : (s : State) (label : Label) → IsTimed s → clock s label ≤ most_clock
unfolding clock
timed-clock s label h = go (find (is_partition label) s.partitions) (Each-found (λ (row : PartitionRow). row.clock ≤ most_clock) (is_partition label) s.partitions h.0)
  where
    go : (o : Option PartitionRow) → IfSome o (λ row. row.clock ≤ most_clock) → option_map_or (λ row. row.clock) o 0 ≤ most_clock
    go None k = omega arith
    go (Some row) k = k

-- an ask changes no clock and no stamp
timed-ask : (tenant name : Name) (ask : AskRow) (s : State) → IsTimed s → IsTimed (with_ask tenant name ask s)
timed-ask tenant name ask s h = go (find_app s.leaves tenant name)
  where
    go : (o : Option Application) → IsTimed (option_map_or (λ found. record s { leaves = in_leaf found.leaf (with_app name (λ app. record app { asks = app.asks ++ ask ∷ [] })) s.leaves }) o s)
    go None = h
    go (Some found) = h

module _ (c : Config) (accepted : IsTrue (is_accepted c)) (r : Restored) (timed : IsTimed r.state) where
  -- a partition's line that is sound shows no more than the clock's limit
  partition-clocked : (label : Label) (shown : ℕ) → is_sound_line c r (Partition label shown) ≡ true → IsClocked (Partition label shown) × IsTimed (with_line (Partition label shown) r.state)
  unfolding is_sound_line with_line
  partition-clocked label shown sound =
      let limited = leb-true shown (clock_limit c.labels label) (and_parts (has_label c.labels label && not (list_any (same_label label) r.partitions)) _ sound).1 in
      let within : shown ≤ most_clock = le_trans limited (most-limits c accepted label) in
      (within, (Each-update (λ (row : PartitionRow). row.clock ≤ most_clock) (is_partition label) (λ row. record row { clock = shown }) (λ row k. within) (r.state).partitions timed.0, timed.1))

  -- a node's line that is sound has a stamp that is no later than the clock
  node-clocked : (node : NodeRow) → is_sound_line c r (Node node) ≡ true → IsClocked (Node node) × IsTimed (with_line (Node node) r.state)
  unfolding is_sound_line with_line joined
  node-clocked node sound =
      let stamp = and_parts (nat_le 1 node.stamp) _ (and_parts (list_any (same_label node.label) r.partitions && not (is_some (node_of r.state node.name)) && not
      (is_full (r.state).nodes node.label)) _ sound).1 in
      let within : node.stamp ≤ most_clock = le_trans (leb-true node.stamp (clock r.state node.label) stamp.1) (timed-clock r.state node.label timed) in
      (within, (timed.0, Each-append (λ (node : NodeRow). node.stamp ≤ most_clock) (r.state).nodes (node ∷ []) timed.1 (within, tt)))

  -- a container's line that is sound has an id that is no later than the node's stamp, and above 0
  container-clocked : (k : Placed) → is_sound_line c r (Container k) ≡ true → IsClocked (Container k) × IsTimed (with_line (Container k) r.state)
  unfolding is_sound_line with_line
  container-clocked k sound =
      let all = and_parts (option_map_or (may_stand r.state k) (node_of r.state k.node) false && nat_lt (last_clock r.state k.id.label) k.id.clock && fits_in k.size c.maximum_allocation) _ sound in
      let given = and_parts (option_map_or (may_stand r.state k) (node_of r.state k.node) false && nat_lt (last_clock r.state k.id.label) k.id.clock) _ all.0 in
      let later = and_parts (option_map_or (may_stand r.state k) (node_of r.state k.node) false) _ given.0 in
      let found = found-test (may_stand r.state k) (node_of r.state k.node) later.0 in
      let node : NodeRow = found.0 in
      let stands = and_parts (same_label node.label k.id.label && nat_le k.id.clock node.stamp) _ found.2 in
      let early = and_parts (same_label node.label k.id.label) _ stands.0 in
      let clocks = Each-update (λ (row : PartitionRow). row.clock ≤ most_clock) (is_partition k.id.label) (λ row. record row { containers = row.containers ++ k ∷ [] }) (λ row k. k)
      (r.state).partitions timed.0 in
      let stamp = (Each-find (λ (node : NodeRow). node.stamp ≤ most_clock) (λ node. same_name node.name k.node) (r.state).nodes timed.1 node found.1).0 in (
        (some (last_clock r.state k.id.label) k.id.clock (ltb-true (last_clock r.state k.id.label) k.id.clock later.1), le_trans (leb-true k.id.clock node.stamp early.1) stamp),
        (clocks, timed.1),
      )
    where
      some : (m n : ℕ) → m < n → 1 ≤ n
      some m n h = omega (arith, h)

-- a line that is sound has clocks and stamps in range, and so have those behind it
line-clocked : (c : Config) → IsTrue (is_accepted c) → (r : Restored) → IsTimed r.state → (line : StateLine) → IsCountedLine line → is_sound_line c r line ≡ true
    → IsClocked line × IsTimed (with_line line r.state)
unfolding with_line
line-clocked c accepted r timed Begin counted sound = (tt, timed)
line-clocked c accepted r timed (Partition label shown) counted sound = partition-clocked c accepted r timed label shown sound
line-clocked c accepted r timed (Node node) counted sound = node-clocked c accepted r timed node sound
line-clocked c accepted r timed (Live queue app user label master) counted sound = (tt, timed)
line-clocked c accepted r timed (Ask tenant app ask) counted sound = (counted, timed-ask tenant app ask r.state timed)
line-clocked c accepted r timed (Finished queue app) counted sound = (tt, timed)
line-clocked c accepted r timed (Container k) counted sound = container-clocked c accepted r timed k sound
line-clocked c accepted r timed (Stopped queue) counted sound = (tt, timed)
line-clocked c accepted r timed (Maximum queue label share) counted sound = (tt, timed)
line-clocked c accepted r timed (End lines) counted sound = (tt, timed)

-- lines that are sound one after another behind others
lines-clocked : (c : Config) → IsTrue (is_accepted c) → (lines : List StateLine) (r new : Restored) → IsTimed r.state → AllByRecursion IsCountedLine lines → restored_by c r lines ≡ Some new
    → AllByRecursion IsClocked lines
lines-clocked c accepted [] r new timed counted told = tt
lines-clocked c accepted (line ∷ lines) r new timed counted told =
    let sound = first-sound c r line lines new told in
    let first = line-clocked c accepted r timed line counted.0 sound.0 in
    (first.0, lines-clocked c accepted lines (restored_with line r) new first.1 counted.1 sound.1)

-- lines that are sound one after another, the first behind none
pub told-clocked : (c : Config) → IsTrue (is_accepted c) → (lines : List StateLine) (r : Restored) → AllByRecursion IsCountedLine lines → restored_by c (nothing_restored c) lines ≡ Some r
    → AllByRecursion IsClocked lines
told-clocked c accepted lines r counted told = lines-clocked c accepted lines (nothing_restored c) r (timed-first c) counted told
