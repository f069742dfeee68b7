-- One line of each kind that is sound, and what it makes of a state.
use Rattle.std.proofs.Common.{◌≡◌, ◌≤◌, ℕ, Bool, true, false, not, ◌&&◌, is_some, [], ◌∷◌, ◌++◌, Some, refl, ap, subst, ◌∙◌, arith}
use Rattle.std.specs.Prelude.{nat_le, nat_lt}
use Rattle.std.specs.List.{list_any}
use Rattle.std.specs.Option.{option_map_or}
use Rattle.std.proofs.lemmas.Bool.{and_from}
use Rattle.std.proofs.lemmas.Bool.Decides.{nat_tests}
use Rattle.ynl_resource.specs.Amounts.{fits_in}
use Rattle.ynl_resource.specs.Names.{root, same_label, same_path, tenant_of}
use Rattle.ynl_resource.specs.declared.amounts.Resource.{Resource}
use Rattle.ynl_resource.specs.declared.labels.Label.{Label}
use Rattle.ynl_resource.specs.declared.names.Name.{Name}
use Rattle.ynl_resource.specs.declared.paths.Path.{Path}
use Rattle.ynl_model.specs.Applications.{Application, find_app, in_leaf, is_used, new_app, with_app}
use Rattle.ynl_model.specs.Cluster.{State, clock, node_of}
use Rattle.ynl_model.specs.Nodes.{clock_limit, has_label, is_full, joined}
use Rattle.ynl_model.specs.Queues.{Config, capacity_on, is_leaf, is_queue, may_use, set_maximum, set_stop}
use Rattle.ynl_model.specs.declared.applications.AskRow.{AskRow}
use Rattle.ynl_model.specs.declared.containers.Placed.{Placed}
use Rattle.ynl_model.specs.declared.nodes.Node.{Node as NodeRow}
use Rattle.ynl_saved.specs.declared.lines.StateLine.TheVariants.{Begin, Partition, Node, Live, Ask, Finished, Container, Stopped, Maximum}
use Rattle.ynl_model.specs.Changes.{with_container}
use Rattle.ynl_saved.specs.Restoring.{has_place, is_sound_line, last_clock, may_ask, may_have, may_stand, with_clock, with_finished, with_line, with_live}
use Rattle.ynl_saved.proofs.Told.{Reads, Side, reads-one}

-- tests of numbers
pub nat-le : (m n : ℕ) → m ≤ n → nat_le m n ≡ true
nat-le m n h = grind (arith, nat_tests, h)

-- what fails a test passes its contrary
pub off : {b : Bool} → b ≡ false → not b ≡ true
off e = ap not e

module _ (c : Config) (s : State) (side : Side) where
  -- the first line
  pub reads-begin : Reads c s side (Begin ∷ []) s side
  unfolding is_sound_line with_line
  reads-begin = reads-one c s side Begin (λ n. refl)

  -- a partition
  pub reads-partition : (label : Label) (shown : ℕ) → has_label c.labels label ≡ true → list_any (same_label label) side.partitions ≡ false → shown ≤ clock_limit c.labels label →
      Reads c s side (Partition label shown ∷ []) (with_clock label shown s) (record { partitions = label ∷ side.partitions; maxima = side.maxima })
  unfolding is_sound_line with_line
  reads-partition label shown known new within = reads-one c s side (Partition label shown) (λ n. and_from _ _ (and_from _ _ known (off new)) (nat-le shown (clock_limit c.labels label) within))

  -- a node
  pub reads-node : (node : NodeRow) → list_any (same_label node.label) side.partitions ≡ true → is_some (node_of s node.name) ≡ false → is_full s.nodes node.label ≡ false → 1 ≤ node.stamp → node.stamp ≤ clock s node.label →
      Reads c s side (Node node ∷ []) (record s { nodes = s.nodes ++ node ∷ [] }) side
  unfolding is_sound_line with_line joined
  reads-node node there new room early late = reads-one c s side (Node node)
      (λ n. and_from _ _ (and_from _ _ (and_from _ _ there (off new)) (off room)) (and_from _ _ (nat-le 1 node.stamp early) (nat-le node.stamp (clock s node.label) late)))

  -- a live application
  pub reads-live : (queue : Path) (app user : Name) (label : Label) (master : Resource) → is_queue c queue ≡ true → is_leaf c queue ≡ true → is_used s.leaves (tenant_of queue) app ≡ false → may_use c queue label ≡ true → fits_in master c.maximum_allocation ≡ true →
      has_place c s queue ≡ true → Reads c s side (Live queue app user label master ∷ []) (with_live (new_app queue app user label master) s) side
  unfolding is_sound_line with_line
  reads-live queue app user label master known leaf unused may given place = reads-one c s side (Live queue app user label master)
      (λ n. and_from _ _ (and_from _ _ (and_from _ _ (and_from _ _ (and_from _ _ known leaf) (off unused)) may) given) place)

  -- what a live application asks for
  pub reads-ask : (tenant app : Name) (ask : AskRow) (found : Application) → find_app s.leaves tenant app ≡ Some found → may_ask c ask found ≡ true →
      Reads c s side (Ask tenant app ask ∷ []) (record s { leaves = in_leaf found.leaf (with_app app (λ app. record app { asks = app.asks ++ ask ∷ [] })) s.leaves }) side
  unfolding is_sound_line with_line
  reads-ask tenant app ask found e may =
      subst (λ new. Reads c s side (Ask tenant app ask ∷ []) new side)
      (ap (λ o. option_map_or (λ found. record s { leaves = in_leaf found.leaf (with_app app (λ app. record app { asks = app.asks ++ ask ∷ [] })) s.leaves }) o s) e)
      (reads-one c s side (Ask tenant app ask) (λ n. ap (λ o. option_map_or (may_ask c ask) o false) e ∙ may))

  -- a finished application
  pub reads-finished : (queue : Path) (app : Name) → is_queue c queue ≡ true → is_leaf c queue ≡ true → is_used s.leaves (tenant_of queue) app ≡ false → Reads c s side (Finished queue app ∷ []) (with_finished queue app s) side
  unfolding is_sound_line with_line
  reads-finished queue app known leaf unused = reads-one c s side (Finished queue app) (λ n. and_from _ _ (and_from _ _ known leaf) (off unused))

  -- a container
  pub reads-container : (p : Placed) (node : NodeRow) (app : Application) → node_of s p.node ≡ Some node → may_stand s p node ≡ true → nat_lt (last_clock s p.id.label) p.id.clock ≡ true → fits_in p.size c.maximum_allocation ≡ true →
      find_app s.leaves p.tenant p.app ≡ Some app → may_have c s p p.what app ≡ true → Reads c s side (Container p ∷ []) (with_container p s) side
  unfolding is_sound_line with_line
  reads-container p node app e stand after given f have = reads-one c s side (Container p)
      (λ n. and_from _ _ (and_from _ _ (and_from _ _ (ap (λ o. option_map_or (may_stand s p) o false) e ∙ stand) after) given) (ap (λ o. option_map_or (may_have c s p p.what) o false) f ∙ have))

  -- a queue that is stopped
  pub reads-stopped : (queue : Path) → is_queue c queue ≡ true → same_path queue root ≡ false → list_any (λ row. row.stopped && same_path row.queue queue) s.stops ≡ false →
      Reads c s side (Stopped queue ∷ []) (record s { stops = set_stop queue true s.stops }) side
  unfolding is_sound_line with_line
  reads-stopped queue known below first = reads-one c s side (Stopped queue) (λ n. and_from _ _ (and_from _ _ known (off below)) (off first))

  -- a maximum
  pub reads-maximum : (queue : Path) (label : Label) (share : ℕ) → is_queue c queue ≡ true → same_path queue root ≡ false → may_use c queue label ≡ true → capacity_on c queue label ≤ share → list_any (λ set. same_path set.0 queue && same_label set.1 label) side.maxima ≡ false →
      Reads c s side (Maximum queue label share ∷ []) (record s { maxima = set_maximum queue label share s.maxima }) (record { partitions = side.partitions; maxima = (queue, label) ∷ side.maxima })
  unfolding is_sound_line with_line
  reads-maximum queue label share known below may high first = reads-one c s side (Maximum queue label share)
      (λ n. and_from _ _ (and_from _ _ (and_from _ _ (and_from _ _ known (off below)) may) (nat-le (capacity_on c queue label) share high)) (off first))
