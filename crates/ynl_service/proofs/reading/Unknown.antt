-- What there is of an unknown label or an unknown queue.
use Rattle.std.proofs.Common.{◌≡◌, ◌*◌, ◌/◌, ◌<◌, ℕ, suc, true, false, min, nat_eq, nat_le, List, [], ◌∷◌, map, filter, fold, length, is_some, Option, None, Some, inl, inr, refl, sym, ap, subst, ◌∙◌, arith, true≢false}
use Rattle.std.specs.List.{AllByRecursion}
use Rattle.std.specs.Option.{option_map_or}
use Rattle.std.proofs.lemmas.Bool.Decides.{nat_tests}
use Rattle.std.proofs.lemmas.Option.{get_or_from_slice_get, slice_get_within}
use Rattle.std.specs.Map.{lookup}
use Rattle.ynl_resource.specs.Amounts.{amount, nothing, scale_floor, smaller_of, total_of}
use Rattle.ynl_resource.specs.Names.{root, same_label, same_path, way_to}
use Rattle.ynl_resource.specs.Ranges.{whole}
use Rattle.ynl_resource.specs.declared.amounts.Resource.{Resource}
use Rattle.ynl_resource.specs.declared.labels.Label.{Label}
use Rattle.ynl_resource.specs.declared.labels.Label.TheVariants.{Unlabelled, Named}
use Rattle.ynl_resource.specs.declared.paths.Path.{Path}
use Rattle.ynl_model.specs.declared.applications.AskRow.{AskRow}
use Rattle.ynl_model.specs.declared.nodes.Node.{Node}
use Rattle.ynl_model.specs.declared.labels.LabelRow.{LabelRow}
use Rattle.ynl_model.specs.Cluster.{guaranteed, is_spent, clock, maximum, total}
use Rattle.ynl_model.specs.Events.{pending, pending_on, sorted}
use Rattle.ynl_model.specs.Limits.{master_limit, user_cap, user_limit, user_share}
use Rattle.ynl_model.specs.Nodes.{clock_limit, has_label, label_row, nodes_of, total as total_on}
use Rattle.ynl_model.specs.Queues.{Config, QueueRow, capacity_on, guaranteed as guaranteed_of, maximum as maximum_of, maximum_on, queue_row, setting}
use Rattle.ynl_laws.proofs.Lists.{Each-map, find-nothing}
use Rattle.ynl_laws.proofs.Names.{same-label_path, same-path}
use Rattle.ynl_inventory.specs.layout.Paths.{path_at}
use Rattle.ynl_slots.proofs.Lists.{all_from, filter_none}
use Rattle.ynl_tables.specs.declared.apps.asks.Ask.{Ask}
use Rattle.ynl_inventory.specs.Rows.{AppRow, NodeRow}
use Rattle.ynl_inventory.specs.Meaning.{app_of, ask_of, node_of}
use Rattle.ynl_inventory.specs.Sound.{HasPartition, IsApp, IsFor, IsSound}
use Rattle.ynl_inventory.proofs.Asked.{asked-there}
use Rattle.ynl_inventory.proofs.Finding.{not-true}
use Rattle.ynl_inventory.proofs.Lookups.{each-place}
use Rattle.ynl_inventory.proofs.Updates.{each-number}
use Rattle.ynl_cluster.specs.Cluster.{ClusterView, label_of, state_in}
use Rattle.ynl_replies.proofs.admission.LabelsKnown.{label-known}
use Rattle.ynl_service.specs.reading.Readings.{IsNowhere}

-- ---- shares of nothing

share-of_nothing : (k : ℕ) → scale_floor nothing k whole ≡ nothing
share-of_nothing k = let none : 0 * k ≡ 0 = omega arith in ap (λ n. amount (n / whole) (n / whole)) none

part-of_nothing : (k : ℕ) → scale_floor nothing k 100 ≡ nothing
part-of_nothing k = let none : 0 * k ≡ 0 = omega arith in ap (λ n. amount (n / 100) (n / 100)) none

no-share : (a : Resource) → scale_floor a 0 whole ≡ nothing
no-share a = let m : a.memory * 0 ≡ 0 = omega arith in let v : a.vcores * 0 ≡ 0 = omega arith in λ i. amount (m i / whole) (v i / whole)

no-part : (a : Resource) → scale_floor a 0 100 ≡ nothing
no-part a = let m : a.memory * 0 ≡ 0 = omega arith in let v : a.vcores * 0 ≡ 0 = omega arith in λ i. amount (m i / 100) (v i / 100)

smaller-nothing : (a : Resource) → smaller_of a nothing ≡ nothing
smaller-nothing a = let m : min a.memory 0 ≡ 0 = omega arith in let v : min a.vcores 0 ≡ 0 = omega arith in λ i. amount (m i) (v i)

steps-nothing : (share : Path → ℕ) (steps : List Path) → fold (λ above step. scale_floor above (share step) whole) nothing steps ≡ nothing
steps-nothing share [] = refl
steps-nothing share (step ∷ steps) = ap (λ a. fold (λ above step. scale_floor above (share step) whole) a steps) (share-of_nothing (share step)) ∙ steps-nothing share steps

-- ---- an unknown label

module _ (w : ClusterView) (sound : IsSound w.rows) (configured : IsFor w.config w.rows) (label : Label) (unknown : has_label w.config.labels label ≡ false) where
  -- no partition has it
  label-apart : (p : ℕ) → HasPartition w.rows p → same_label (label_of w p) label ≡ false
  label-apart p has =
      not-true (same_label (label_of w p) label)
      (λ same. true≢false (sym (label-known w.config w.rows configured label p has (same-label_path (label_of w p) label same)) ∙ unknown))

  -- no node is there
  no-nodes : nodes_of (state_in w).nodes label ≡ []
  no-nodes =
      filter_none (λ (node : Node). same_label node.label label) (state_in w).nodes
      (Each-map (λ (e : ℕ × NodeRow). same_label (label_of w e.1.partition) label ≡ false) (λ (node : Node). same_label node.label label ≡ false) (λ (e : ℕ × NodeRow). node_of w.rows.partitions e.1) (λ e h. h) w.rows.nodes
      (each-number (λ n row. same_label (label_of w row.partition) label ≡ false) w.rows.nodes sound.node_numbers (λ n row found. label-apart row.partition (sound.nodes n row found))))

  nothing-there : total (state_in w) label ≡ nothing
  unfolding total_on
  nothing-there = ap (total_of (λ (node : Node). node.size)) no-nodes

  nothing-guaranteed : (queue : Path) → guaranteed w.config (state_in w) queue label ≡ nothing
  unfolding guaranteed guaranteed_of
  nothing-guaranteed queue =
      ap (λ t. fold (λ above step. scale_floor above (capacity_on w.config step label) whole) t (way_to queue)) nothing-there ∙ steps-nothing (λ step. capacity_on w.config step label) (way_to queue)

  no-maximum : (queue : Path) → maximum (state_in w) queue label ≡ nothing
  unfolding maximum maximum_of
  no-maximum queue =
      ap (λ t. fold (λ above step. scale_floor above (maximum_on (state_in w).maxima step label) whole) t (way_to queue)) nothing-there ∙ steps-nothing (λ step. maximum_on (state_in w).maxima step label) (way_to queue)

  -- nothing is asked for there
  pub no-asks : (n : ℕ) (row : AppRow) → lookup (nat_eq n) w.rows.apps ≡ Some row → pending_on label (app_of w.rows (n, row)) ≡ []
  no-asks n row found = ap (λ (asks : List AskRow). map pending (sorted asks)) none
    where
      its : IsApp w.rows n row
      its = sound.apps n row found

      none : filter (λ ask. same_label ask.label label) (map (ask_of w.rows.partitions) row.asks) ≡ []
      none =
          filter_none (λ (ask : AskRow). same_label ask.label label) (map (ask_of w.rows.partitions) row.asks)
          (Each-map (λ (ask : Ask). HasPartition w.rows ask.partition) (λ (ask : AskRow). same_label ask.label label ≡ false) (ask_of w.rows.partitions) (λ ask has. label-apart ask.partition has) row.asks
          (all_from (λ (ask : Ask). HasPartition w.rows ask.partition) row.asks (asked-there w.rows sound row.home its.home row.asks its.asked)))

  -- its clock is spent
  pub unknown-spent : true ≡ is_spent w.config.labels (state_in w) label
  unfolding is_spent
  unknown-spent = sym (ap (λ limit. nat_le limit (clock (state_in w) label)) (no-limit label unknown) ∙ least (clock (state_in w) label))
    where
      least : (n : ℕ) → nat_le 0 n ≡ true
      least n = grind (arith, nat_tests)

      no-row : (o : Option LabelRow) → is_some o ≡ false → option_map_or (λ (row : LabelRow). row.limit) o 0 ≡ 0
      no-row None k = refl
      no-row (Some row) k = absurd (true≢false k)

      no-limit : (l : Label) → has_label w.config.labels l ≡ false → clock_limit w.config.labels l ≡ 0
      no-limit Unlabelled k = absurd (true≢false k)
      no-limit (Named name) k = no-row (label_row w.config.labels name) k

-- ---- a queue that is not there, or not below root

no-setting : (field : QueueRow → ℕ) (c : Config) (queue : Path) → queue_row c queue ≡ None → setting field 0 c queue ≡ 0
no-setting field c queue none = ap (λ o. option_map_or field o 0) none

module _ (w : ClusterView) (sound : IsSound w.rows) (configured : IsFor w.config w.rows) (leaf : Path) (label : Label) (is : IsNowhere w.config leaf label) where
  no-cap : user_cap w.config (state_in w) leaf label ≡ nothing
  no-cap = go is
    where
      go : IsNowhere w.config leaf label → user_cap w.config (state_in w) leaf label ≡ nothing
      go (inl none) =
          ap (λ n. scale_floor (guaranteed w.config (state_in w) leaf label) n 100) (no-setting (λ row. row.leaf.user_limit_factor) w.config leaf none) ∙ no-part (guaranteed w.config (state_in w) leaf label)
      go (inr unknown) =
          ap (λ a. scale_floor a (setting (λ row. row.leaf.user_limit_factor) 0 w.config leaf) 100) (nothing-guaranteed w sound configured label unknown leaf)
          ∙ part-of_nothing (setting (λ row. row.leaf.user_limit_factor) 0 w.config leaf)

  -- the user limit is nothing
  pub no-user_limit : (size : Resource) → nothing ≡ user_limit w.config (state_in w) leaf label size
  unfolding user_limit
  no-user_limit size = sym (ap (smaller_of (user_share w.config (state_in w) leaf label size)) no-cap ∙ smaller-nothing (user_share w.config (state_in w) leaf label size))

  -- and so is the master limit
  pub no-master_limit : nothing ≡ master_limit w.config (state_in w) leaf label
  unfolding master_limit
  no-master_limit = sym (go is)
    where
      go : IsNowhere w.config leaf label → scale_floor (maximum (state_in w) leaf label) (setting (λ row. row.leaf.maximum_am_resource_percent) 0 w.config leaf) whole ≡ nothing
      go (inl none) =
          ap (λ n. scale_floor (maximum (state_in w) leaf label) n whole) (no-setting (λ row. row.leaf.maximum_am_resource_percent) w.config leaf none) ∙ no-share (maximum (state_in w) leaf label)
      go (inr unknown) =
          ap (λ a. scale_floor a (setting (λ row. row.leaf.maximum_am_resource_percent) 0 w.config leaf) whole) (no-maximum w sound configured label unknown leaf)
          ∙ share-of_nothing (setting (λ row. row.leaf.maximum_am_resource_percent) 0 w.config leaf)

-- and neither has root
pub root-row : (w : ClusterView) → IsSound w.rows → IsFor w.config w.rows → (queue : Path) → queue ≡ root → queue_row w.config queue ≡ None
root-row w sound configured queue is =
    find-nothing (λ (row : QueueRow). same_path row.path queue) w.config.queues
    (unmapped w.config.queues (subst (AllByRecursion (λ path. same_path path queue ≡ false)) configured.paths below))
  where
    unmapped : (rows : List QueueRow) → AllByRecursion (λ path. same_path path queue ≡ false) (map (λ row. row.path) rows) → AllByRecursion (λ (row : QueueRow). same_path row.path queue ≡ false) rows
    unmapped [] h = tt
    unmapped (row ∷ rows) h = (h.0, unmapped rows h.1)

    below : AllByRecursion (λ path. same_path path queue ≡ false) w.rows.paths
    below =
        each-place (λ path. same_path path queue ≡ false) w.rows.paths
        (λ k path at. not-true (same_path path queue) (λ same.
        let own : path_at w.rows.paths (suc k) ≡ path = get_or_from_slice_get w.rows.paths k path root at in
        let inside : k < length w.rows.paths = slice_get_within w.rows.paths k path at in
        let zero-is : suc k ≡ 0 = sound.tree.apart (suc k) 0 (omega (arith, inside)) (omega arith) (own ∙ same-path path queue same ∙ is) in
        omega (arith, zero-is)))
