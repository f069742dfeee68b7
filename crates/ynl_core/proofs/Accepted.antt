-- What the model does where the rows of a cluster change.
use Rattle.std.proofs.Common.{◌≡◌, ℕ, true, false, find, Bool, ◌&&◌, List, Option, None, Some, refl, sym, ap, subst, ◌∙◌}
use Rattle.std.specs.Prelude.{IfSome}
use Rattle.std.specs.List.{AllByRecursion, list_any}
use Rattle.std.specs.Option.{option_and_then}
use Rattle.std.proofs.lemmas.Bool.{and_parts}
use Rattle.std.proofs.lemmas.Option.{none-some, same_Some}
use Rattle.ynl_resource.specs.Names.{same_name, tenant_of}
use Rattle.ynl_resource.specs.declared.amounts.Resource.{Resource}
use Rattle.ynl_resource.specs.declared.ids.Id.{Id}
use Rattle.ynl_resource.specs.declared.labels.Label.{Label}
use Rattle.ynl_resource.specs.declared.names.Name.{Name}
use Rattle.ynl_resource.specs.declared.paths.Path.{Path}
use Rattle.ynl_model.specs.declared.applications.AskRow.{AskRow}
use Rattle.ynl_model.specs.declared.events.Event.TheVariants.{Commit, Exited, Finish, Heartbeat, Lost, Maximum, Poll, Register, Relabel, Release, Start, Stop, Submit}
use Rattle.ynl_model.specs.declared.events.Event.TheVariants as event
use Rattle.ynl_model.specs.Applications.{Application, LeafApps, find_app, in_leaf, new_app, row_of, set_ask, submitted, with_app}
use Rattle.ynl_model.specs.Queues.{set_maximum, set_stop}
use Rattle.ynl_model.specs.declared.nodes.Node.{Node}
use Rattle.ynl_model.specs.declared.containers.Placed.{Placed}
use Rattle.ynl_model.specs.declared.proposals.Proposal.{Proposal}
use Rattle.ynl_model.specs.declared.replies.Reply.{Reply}
use Rattle.ynl_model.specs.declared.replies.Reply.TheVariants.{Committed, Placed as PlacedOn, Proposed}
use Rattle.ynl_model.specs.Check.{proposed, proposed_item}
use Rattle.ynl_model.specs.Cluster.{State, node_of as node_in}
use Rattle.ynl_laws.specs.Tabled.{IsFoundIn, Tabled}
use Rattle.ynl_laws.proofs.Lists.{Each-find, found-passes}
use Rattle.ynl_laws.proofs.Names.{same-name_sym}
use Rattle.ynl_model.specs.Changes.{app_finishes, beat, container_of, end, node_joins, node_leaves, place}
use Rattle.ynl_model.specs.Events.{accepted, answered, commits, done, held, served, where_there}
use Rattle.ynl_inventory.specs.Rows.{AppRow}
use Rattle.ynl_inventory.specs.Meaning.{app_name, app_of, ask_of, item_of, node_of, placed_of}
use Rattle.ynl_inventory.specs.Sound.{IsSound}
use Rattle.ynl_cluster.proofs.requests.Tables.{tabled}
use Rattle.ynl_cluster.specs.Cluster.{ClusterView, label_of, maxima_in, name_in, path_of, state_in, stops_in, tenant_in}
use Rattle.ynl_replies.specs.admission.Admitted.{CanAskAs, CanExit, CanJoin, CanRelabel, CanRelease, CanSubmitAs}
use Rattle.ynl_replies.specs.admission.Named.{IsAppNamed, IsCellBelowRoot, IsNodeNamed, IsPartitionOf, IsQueueOf}
use Rattle.ynl_inventory.specs.declared.partition.Placement.{Placement}
use Rattle.ynl_service.specs.Checking.{IsProposed}
use Rattle.ynl_replies.specs.declared.admission.applications.Asking.{Asking}
use Rattle.ynl_replies.specs.declared.admission.containers.Held.{Held}
use Rattle.ynl_replies.specs.declared.admission.nodes.Moved.{Moved}
use Rattle.ynl_replies.specs.declared.admission.queues.CellNumbers.{CellNumbers}
use Rattle.ynl_replies.specs.declared.admission.submissions.SubmissionNumbers.{SubmissionNumbers}

-- what is found by a name has it
node-named : (s : State) (name : Name) (node : Node) → node_in s name ≡ Some node → name ≡ node.name
node-named s name node found = sym (same-name_sym node.name name (subst (λ o. IfSome o (λ (n : Node). same_name n.name name ≡ true)) found (found-passes (λ (n : Node). same_name n.name name) s.nodes)))

app-named : (leaves : List LeafApps) (tenant name : Name) (app : Application) → find_app leaves tenant name ≡ Some app → name ≡ app.name
unfolding find_app
app-named leaves tenant name app found = go (row_of leaves tenant name) found
  where
    go : (o : Option LeafApps) → option_and_then (λ row. find (λ a. same_name a.name name) row.apps) o ≡ Some app → name ≡ app.name
    go None e = absurd (none-some app e)
    go (Some row) e = sym (same-name_sym app.name name (subst (λ o. IfSome o (λ (a : Application). same_name a.name name ≡ true)) e (found-passes (λ (a : Application). same_name a.name name) row.apps)))

-- and stands in a leaf of the tenant
app-tenant : (s : State) → Tabled s → (tenant name : Name) (app : Application) → find_app s.leaves tenant name ≡ Some app → tenant ≡ tenant_of app.leaf
unfolding find_app
app-tenant s tabled tenant name app found = go (row_of s.leaves tenant name) refl found
  where
    test : LeafApps → Bool
    test row = same_name (tenant_of row.leaf) tenant && list_any (same_name name) row.names

    go : (o : Option LeafApps) → row_of s.leaves tenant name ≡ o → option_and_then (λ row. find (λ a. same_name a.name name) row.apps) o ≡ Some app → tenant ≡ tenant_of app.leaf
    go None r e = absurd (none-some app e)
    go (Some row) r e =
        let there = Each-find (λ row. AllByRecursion (IsFoundIn s.leaves row) row.apps) test s.leaves tabled.finds row r in
        let own = Each-find (IsFoundIn s.leaves row) (λ (a : Application). same_name a.name name) row.apps there.0 app e in
        sym (ap tenant_of own.0.at ∙ same-name_sym (tenant_of row.leaf) tenant ((and_parts (same_name (tenant_of row.leaf) tenant) _ there.1).0))

module _ (w u : ClusterView) where
  pub registered : (name : Name) (label : Label) (size : Resource) (p : ℕ) → CanJoin w name label p → state_in u ≡ node_joins w.config name (label_of w p) size (state_in w)
      → accepted w.config (state_in w) (Register name label size) ≡ done (state_in u)
  unfolding accepted
  registered name label size p can is = ap done (ap (λ l. node_joins w.config name l size (state_in w)) (sym can.partition.own) ∙ sym is)

  pub lost : (name : Name) (n : ℕ) (named : IsNodeNamed w name n) → state_in u ≡ node_leaves (node_of w.rows.partitions named.row) (state_in w) → accepted w.config (state_in w) (Lost name) ≡ done (state_in u)
  unfolding accepted
  lost name n named is = ap (λ o. where_there o (state_in w) (λ node. done (node_leaves node (state_in w)))) named.named ∙ ap done (sym is)

  pub relabelled : (name : Name) (label : Label) (moved : Moved) (can : CanRelabel w name label moved)
      → state_in u ≡ node_joins w.config can.node.row.name (label_of w moved.partition) can.node.row.size (node_leaves (node_of w.rows.partitions can.node.row) (state_in w))
      → accepted w.config (state_in w) (Relabel name label) ≡ done (state_in u)
  unfolding accepted
  relabelled name label moved can is =
      ap (λ o. where_there o (state_in w) (λ node. done (node_joins w.config name label node.size (node_leaves node (state_in w))))) can.node.named
      ∙ ap done ((λ i. node_joins w.config (node-named (state_in w) name (node_of w.rows.partitions can.node.row) can.node.named i) (sym can.partition.own i) can.node.row.size (node_leaves (node_of w.rows.partitions can.node.row) (state_in w))) ∙ sym is)

  pub beats : (name : Name) (n : ℕ) (named : IsNodeNamed w name n) → state_in u ≡ (beat w.config (node_of w.rows.partitions named.row) w.config.containers_per_heartbeat (state_in w)).state
      → accepted w.config (state_in w) (Heartbeat name)
      ≡ record { state = state_in u; reply = PlacedOn (beat w.config (node_of w.rows.partitions named.row) w.config.containers_per_heartbeat (state_in w)).placed }
  unfolding accepted
  beats name n named is =
      ap (λ o. where_there o (state_in w) (λ node. served (beat w.config node w.config.containers_per_heartbeat (state_in w)))) named.named
      ∙ (λ i. record { state = sym is i; reply = PlacedOn (beat w.config (node_of w.rows.partitions named.row) w.config.containers_per_heartbeat (state_in w)).placed })

  pub exited : (name : Name) (id : Id) (held : Held) (can : CanExit w name id held) → state_in u ≡ end w.config (state_in w) (placed_of w.rows (label_of w held.partition) can.container)
      → accepted w.config (state_in w) (Exited name id) ≡ done (state_in u)
  unfolding accepted
  exited name id held can is = ap (λ o. where_there o (state_in w) (λ container. done (end w.config (state_in w) container))) can.named ∙ ap done (sym is)

  pub released : (tenant : Name) (id : Id) (held : Held) (can : CanRelease w tenant id held) → state_in u ≡ end w.config (state_in w) (placed_of w.rows (label_of w held.partition) can.its.container)
      → accepted w.config (state_in w) (Release tenant id) ≡ done (state_in u)
  unfolding accepted
  released tenant id held can is = ap (λ o. where_there o (state_in w) (λ container. done (end w.config (state_in w) container))) can.its.named ∙ ap done (sym is)

  pub submits : (queue : Path) (app user : Name) (label : Option Label) (master : Resource) (numbers : SubmissionNumbers) → CanSubmitAs w queue app label numbers
      → state_in u ≡ record (state_in w) { leaves = in_leaf (path_of w numbers.leaf) (submitted (new_app (path_of w numbers.leaf) app user (label_of w numbers.home) master)) (state_in w).leaves }
      → accepted w.config (state_in w) (Submit queue app user label master) ≡ done (state_in u)
  unfolding accepted
  submits queue app user label master numbers can is =
      ap done ((λ i. record (state_in w) { leaves = in_leaf (sym can.own i) (submitted (new_app (sym can.own i) app user (sym can.label_is i) master)) (state_in w).leaves }) ∙ sym is)

  pub asks : (tenant name : Name) (row : AskRow) (asking : Asking) (can : CanAskAs w tenant name row asking)
      → state_in u ≡ record (state_in w) { leaves = in_leaf (path_of w can.app.row.leaf) (with_app (app_name w.rows.tenants can.app.row.tenant can.app.row.turn) (set_ask (ask_of w.rows.partitions asking.ask))) (state_in w).leaves }
      → accepted w.config (state_in w) (event.Ask tenant name row.label row.priority row.count row.size) ≡ done (state_in u)
  unfolding accepted
  asks tenant name row asking can is =
      ap (λ o. where_there o (state_in w) (λ found. done (record (state_in w) { leaves = in_leaf found.leaf (with_app name (set_ask (record { label = row.label; priority = row.priority; count = row.count; size = row.size }))) (state_in w).leaves }))) can.app.named
      ∙ ap done ((λ i. record (state_in w) { leaves = in_leaf (path_of w can.app.row.leaf) (with_app (app-named (state_in w).leaves tenant name (app_of w.rows (asking.app, can.app.row)) can.app.named i) (set_ask (sym can.means i))) (state_in w).leaves }) ∙ sym is)

  pub finishes : (tenant name : Name) (n : ℕ) (named : IsAppNamed w tenant name n) → state_in u ≡ app_finishes w.config (app_of w.rows (n, named.row)) (state_in w)
      → accepted w.config (state_in w) (Finish tenant name) ≡ done (state_in u)
  unfolding accepted
  finishes tenant name n named is = ap (λ o. where_there o (state_in w) (λ found. done (app_finishes w.config found (state_in w)))) named.named ∙ ap done (sym is)

  pub stops : (queue : Path) (q : ℕ) → IsQueueOf w queue q → state_in u ≡ record (state_in w) { stops = set_stop (path_of w q) true (state_in w).stops }
      → accepted w.config (state_in w) (Stop queue) ≡ done (state_in u)
  unfolding accepted
  stops queue q named is = ap done ((λ i. record (state_in w) { stops = set_stop (sym named.own i) true (state_in w).stops }) ∙ sym is)

  pub starts : (queue : Path) (q : ℕ) → IsQueueOf w queue q → state_in u ≡ record (state_in w) { stops = set_stop (path_of w q) false (state_in w).stops }
      → accepted w.config (state_in w) (Start queue) ≡ done (state_in u)
  unfolding accepted
  starts queue q named is = ap done ((λ i. record (state_in w) { stops = set_stop (sym named.own i) false (state_in w).stops }) ∙ sym is)

  pub bounds : (queue : Path) (label : Label) (share : ℕ) (cell : CellNumbers) → IsCellBelowRoot w queue label cell
      → state_in u ≡ record (state_in w) { maxima = set_maximum (path_of w cell.queue) (label_of w cell.partition) share (state_in w).maxima }
      → accepted w.config (state_in w) (Maximum queue label share) ≡ done (state_in u)
  unfolding accepted
  bounds queue label share cell can is =
      ap done ((λ i. record (state_in w) { maxima = set_maximum (sym can.queue.queue.own i) (sym can.partition.own i) share (state_in w).maxima }) ∙ sym is)

-- what was proposed is placed
module _ (w u : ClusterView) (proposal : Proposal) (placement : Placement) (is : IsProposed w proposal placement) where
  -- the node is the one whose name the proposal has
  node-same : node_of w.rows.partitions is.placeable.node_row ≡ node_of w.rows.partitions is.node.row
  node-same = ap (node_of w.rows.partitions) (same_Some is.placeable.node_row is.node.row (sym is.placeable.node_found ∙ is.node.found))

  -- the request is the proposal's
  item-same : item_of w.rows is.placeable.app_row placement.role placement.size ≡ proposed_item proposal (app_of w.rows (placement.app, is.app.row))
  item-same = ap (λ (row : AppRow). item_of w.rows row placement.role placement.size) (same_Some is.placeable.app_row is.app.row (sym is.placeable.app_found ∙ is.app.found)) ∙ sym is.item

  pub committed : (placed : Placed)
      → state_in u ≡ place w.config (node_of w.rows.partitions is.placeable.node_row) (item_of w.rows is.placeable.app_row placement.role placement.size) (state_in w)
      → placed ≡ container_of w.config (state_in w) (node_of w.rows.partitions is.placeable.node_row) (item_of w.rows is.placeable.app_row placement.role placement.size)
      → accepted w.config (state_in w) (Commit proposal) ≡ record { state = state_in u; reply = Committed placed }
  unfolding accepted
  committed placed state told =
      ap (λ o. where_there o (state_in w) (λ node. where_there (find_app (state_in w).leaves proposal.tenant proposal.app) (state_in w) (commits w.config (state_in w) proposal node))) is.node.named
      ∙ ap (λ o. where_there o (state_in w) (commits w.config (state_in w) proposal (node_of w.rows.partitions is.node.row))) is.app.named
      ∙ (λ i. record {
        state = place w.config (sym node-same i) (sym item-same i) (state_in w);
        reply = Committed (container_of w.config (state_in w) (sym node-same i) (sym item-same i));
      })
      ∙ (λ i. record { state = sym state i; reply = Committed (sym told i) })

-- a question changes nothing
module _ (w : ClusterView) where
  pub polls : IsSound w.rows → (tenant name : Name) (label : Label) (n : ℕ) (named : IsAppNamed w tenant name n) (p : ℕ) → IsPartitionOf w label p
      → (reply : Reply) → reply ≡ held (state_in w) (tenant_in w.rows named.row) (name_in w.rows named.row) (label_of w p)
      → accepted w.config (state_in w) (Poll tenant name label) ≡ record { state = state_in w; reply = reply }
  unfolding accepted
  polls sound tenant name label n named p is reply told =
      let own = app-tenant (state_in w) (tabled w.rows sound (stops_in w) (maxima_in w)) tenant name (app_of w.rows (n, named.row)) named.named in
      let called = app-named (state_in w).leaves tenant name (app_of w.rows (n, named.row)) named.named in
      (λ i. record { state = state_in w; reply = held (state_in w) (own i) (called i) (sym is.own i) }) ∙ (λ i. record { state = state_in w; reply = sym told i })

  pub proposes : (name : Name) (n : ℕ) (named : IsNodeNamed w name n) (o : Option Proposal) → o ≡ proposed w.config (state_in w) (node_of w.rows.partitions named.row)
      → accepted w.config (state_in w) (event.Propose name) ≡ record { state = state_in w; reply = Proposed o }
  unfolding accepted
  proposes name n named o is = ap (λ o. where_there o (state_in w) (λ node. answered (state_in w) (Proposed (proposed w.config (state_in w) node)))) named.named ∙ ap (λ o. answered (state_in w) (Proposed o)) (sym is)
