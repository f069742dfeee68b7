-- The first reason for which an event is refused, by what its tests tell.
use Rattle.std.proofs.Common.{◌≡◌, Bool, not, [], ◌∷◌, ℕ, Option}
use Rattle.ynl_resource.specs.Amounts.{fits_in}
use Rattle.ynl_resource.specs.Names.{tenant_of}
use Rattle.ynl_resource.specs.Refusals.{first_that_holds}
use Rattle.ynl_resource.specs.declared.amounts.Resource.{Resource}
use Rattle.ynl_resource.specs.declared.labels.Label.{Label}
use Rattle.ynl_resource.specs.declared.names.Name.{Name}
use Rattle.ynl_resource.specs.declared.paths.Path.{Path}
use Rattle.ynl_resource.specs.declared.refusals.Refusal.TheVariants.{ClockSpent, LabelMismatch, LabelNotAccessible, NameUsed, NoSuchApplication, NoSuchLabel, NoSuchNode, NoSuchQueue, NodeExists, NotALeaf, PartitionFull, QueueStopped, TooLarge, TooManyApplications, TooManyAsks}
use Rattle.ynl_model.specs.Applications.{is_used}
use Rattle.ynl_model.specs.Check.{app_that, has_app, has_node, node_that}
use Rattle.ynl_model.specs.Cluster.{State, is_spent}
use Rattle.ynl_model.specs.Events.{has_most_apps, home_of, is_foreign, is_one_too_many, reasons}
use Rattle.ynl_model.specs.Nodes.{has_label, is_full}
use Rattle.ynl_model.specs.Queues.{Config, accepts, is_leaf, is_queue, may_use}
use Rattle.ynl_model.specs.declared.events.Event.TheVariants as event

module _ (c : Config) (s : State) where
  -- ---- nodes

  pub first-register : (name : Name) (label : Label) (size : Resource) (known there full : Bool) → has_label c.labels label ≡ known → has_node s name ≡ there → is_full s.nodes label ≡ full
      → first_that_holds (reasons c s (event.Register name label size)) ≡ first_that_holds ((NoSuchLabel, not known) ∷ (NodeExists, there) ∷ (PartitionFull, full) ∷ [])
  unfolding reasons
  first-register name label size known there full a b d = λ i. first_that_holds ((NoSuchLabel, not (a i)) ∷ (NodeExists, b i) ∷ (PartitionFull, d i) ∷ [])

  pub first-heartbeat : (name : Name) (there spent : Bool) → has_node s name ≡ there → node_that s name (λ node. is_spent c.labels s node.label) ≡ spent
      → first_that_holds (reasons c s (event.Heartbeat name)) ≡ first_that_holds ((NoSuchNode, not there) ∷ (ClockSpent, spent) ∷ [])
  unfolding reasons
  first-heartbeat name there spent a b = λ i. first_that_holds ((NoSuchNode, not (a i)) ∷ (ClockSpent, b i) ∷ [])

  pub first-propose : (name : Name) (there spent : Bool) → has_node s name ≡ there → node_that s name (λ node. is_spent c.labels s node.label) ≡ spent
      → first_that_holds (reasons c s (event.Propose name)) ≡ first_that_holds ((NoSuchNode, not there) ∷ (ClockSpent, spent) ∷ [])
  unfolding reasons
  first-propose name there spent a b = λ i. first_that_holds ((NoSuchNode, not (a i)) ∷ (ClockSpent, b i) ∷ [])

  -- ---- applications

  pub first-ask : (tenant app : Name) (label : Label) (priority count : ℕ) (size : Resource) (there known foreign large many : Bool) → has_app s tenant app ≡ there → has_label c.labels label ≡ known
      → app_that s tenant app (is_foreign label) ≡ foreign → not (fits_in size c.maximum_allocation) ≡ large → app_that s tenant app (is_one_too_many label priority count) ≡ many
      → first_that_holds (reasons c s (event.Ask tenant app label priority count size))
      ≡ first_that_holds ((NoSuchApplication, not there) ∷ (NoSuchLabel, not known) ∷ (LabelMismatch, foreign) ∷ (TooLarge, large) ∷ (TooManyAsks, many) ∷ [])
  unfolding reasons
  first-ask tenant app label priority count size there known foreign large many a b d e f =
      λ i. first_that_holds ((NoSuchApplication, not (a i)) ∷ (NoSuchLabel, not (b i)) ∷ (LabelMismatch, d i) ∷ (TooLarge, e i) ∷ (TooManyAsks, f i) ∷ [])

  -- ---- queues

  -- ---- submissions

  pub first-submit : (queue : Path) (app user : Name) (label : Option Label) (master : Resource) (there leaf open_ known may large used most : Bool)
      → is_queue c queue ≡ there → is_leaf c queue ≡ leaf → accepts s.stops queue ≡ open_ → has_label c.labels (home_of c queue label) ≡ known → may_use c queue (home_of c queue label) ≡ may
      → not (fits_in master c.maximum_allocation) ≡ large → is_used s.leaves (tenant_of queue) app ≡ used → has_most_apps c s queue ≡ most
      → first_that_holds (reasons c s (event.Submit queue app user label master))
      ≡ first_that_holds ((NoSuchQueue, not there) ∷ (NotALeaf, not leaf) ∷ (QueueStopped, not open_) ∷ (NoSuchLabel, not known) ∷ (LabelNotAccessible, not may)
      ∷ (TooLarge, large) ∷ (NameUsed, used) ∷ (TooManyApplications, most) ∷ [])
  unfolding reasons
  first-submit queue app user label master there leaf open_ known may large used most a b d e f g h k =
      λ i. first_that_holds ((NoSuchQueue, not (a i)) ∷ (NotALeaf, not (b i)) ∷ (QueueStopped, not (d i)) ∷ (NoSuchLabel, not (e i)) ∷ (LabelNotAccessible, not (f i))
      ∷ (TooLarge, g i) ∷ (NameUsed, h i) ∷ (TooManyApplications, k i) ∷ [])
