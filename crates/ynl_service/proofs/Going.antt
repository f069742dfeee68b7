-- A step of a heartbeat.
use Rattle.std.proofs.Common.{◌≡◌, ℕ, zero, suc, ◌+◌, ◌<◌, ◌≤◌, Bool, true, false, cond, nat_eq, List, [], ◌∷◌, ◌++◌, length, slice_get, Option, None, Some, is_some, refl, sym, ap, subst, ◌∙◌, arith}
use Rattle.std.specs.Prelude.{IfSome}
use Rattle.std.specs.Map.{lookup}
use Rattle.std.specs.Option.{option_map_or}
use Rattle.std.proofs.lemmas.Option.{none-some, same_Some}
use Rattle.ynl_model.specs.declared.containers.Placed.{Placed}
use Rattle.ynl_model.specs.declared.nodes.Node.{Node}
use Rattle.ynl_model.specs.Cluster.{is_spent}
use Rattle.ynl_model.specs.Changes.{beat, container_of, next_item, place}
use Rattle.ynl_model.specs.Service.{Item, choice}
use Rattle.ynl_laws.specs.Working.{IsWorking}
use Rattle.ynl_laws.proofs.Soundness.Steps.{stands-found}
use Rattle.ynl_laws.proofs.Soundness.Working.{working-place}
use Rattle.ynl_inventory.specs.Rows.{AppRow, NodeRow}
use Rattle.ynl_inventory.specs.Changes.{next_clock_at, next_container, partition_of_node, with_placed}
use Rattle.ynl_inventory.specs.Meaning.{item_of, label_at, node_of}
use Rattle.ynl_inventory.specs.Parts.{LeavesRoom}
use Rattle.ynl_inventory.specs.Sound.{IsPlaceable, IsSound}
use Rattle.ynl_inventory.proofs.Containers.{labels}
use Rattle.ynl_inventory.proofs.Finding.{find-node, has-partition}
use Rattle.ynl_inventory.proofs.Lookups.{read-after, row_after, still-found}
use Rattle.ynl_cluster.specs.Cluster.{ClusterView, state_in}
use Rattle.ynl_search.specs.declared.found.Found.{Found}
use Rattle.ynl_search.specs.Laws.{item_found, no_item}
use Rattle.ynl_service.specs.Serving.{CanBePlaced, HasRoom, IsNext, IsNode, IsNoStep, IsStep}
use Rattle.ynl_service.proofs.Beats.{beat-none, beat-some, restamped}

-- there is a place in a list
pub place-there : {X : Type 0} (xs : List X) (p : ℕ) → p < length xs → (x : X) × (slice_get xs p ≡ Some x)
place-there [] p inside = absurd (omega (arith, inside))
place-there (x ∷ xs) zero inside = (x, refl)
place-there (x ∷ xs) (suc p) inside = place-there xs p (omega (arith, inside))

-- where nothing is next nothing comes
pub no-step : (w : ClusterView) (n : ℕ) (list : List Placed) → IsNext w n None → IsNoStep w w n list list
no-step w n list next = record { same = refl; list = refl; beat = λ of at times. beat-none w.config of times (state_in w) (next of at) }

module _ (w u : ClusterView) (n : ℕ) (found : Found) (can : CanBePlaced w n found) (sound : IsSound w.rows) (before-works : IsWorking w.config (state_in w)) (rooms : length w.rooms ≡ length w.rows.partitions)
    (next : IsNext w n (Some found)) (number : ℕ)
    (rows : u ≡ record w { rows = with_placed number n found.app found.role found.size w.rows; rooms = u.rooms }) (room : LeavesRoom (partition_of_node w.rows.nodes n) 1 w.rooms u.rooms)
    (state : (can : IsPlaceable w.rows n found.app found.role) → state_in u ≡ place w.config (node_of w.rows.partitions can.node_row) (item_of w.rows can.app_row found.role found.size) (state_in w))
    (told : Placed) (is-told : (can : IsPlaceable w.rows n found.app found.role) → told ≡ container_of w.config (state_in w) (node_of w.rows.partitions can.node_row) (item_of w.rows can.app_row found.role found.size)) where
  abbrev cp : IsPlaceable w.rows n found.app found.role
  cp = can.placeable

  abbrev item : Item
  item = item_of w.rows cp.app_row found.role found.size

  abbrev model : Node
  model = node_of w.rows.partitions cp.node_row

  is-item : item_found w.rows found ≡ item
  is-item = ap (λ o. option_map_or (λ (row : AppRow). item_of w.rows row found.role found.size) o no_item) cp.app_found

  next-is : next_item w.config (state_in w) model ≡ Some item
  next-is = next model (record { row = cp.node_row; found = cp.node_found; is = refl }) ∙ ap (λ (i : Item). Some i) is-item

  chosen : (is_spent w.config.labels (state_in w) model.label ≡ false) × (choice w.config (state_in w) model ≡ Some item)
  chosen = go (is_spent w.config.labels (state_in w) model.label) refl next-is
    where
      go : (b : Bool) → is_spent w.config.labels (state_in w) model.label ≡ b → cond b None (choice w.config (state_in w) model) ≡ Some item
          → (is_spent w.config.labels (state_in w) model.label ≡ false) × (choice w.config (state_in w) model ≡ Some item)
      go true e k = absurd (none-some item k)
      go false e k = (e, k)

  config-same : u.config ≡ w.config
  config-same = ap (λ (x : ClusterView). x.config) rows

  working : IsWorking u.config (state_in u)
  working =
      subst (λ c. IsWorking c (state_in u)) (sym config-same)
      (subst (IsWorking w.config) (sym (state cp))
      (working-place w.config (state_in w) model item before-works (stands-found (state_in w) cp.node_row.name model (find-node w.rows sound n cp.node_row cp.node_found)) chosen.1 chosen.0))

  -- ---- the node afterwards

  abbrev stamp : NodeRow → NodeRow
  stamp row = record row { stamp = next_clock_at w.rows.partitions (partition_of_node w.rows.nodes n) }

  abbrev row : NodeRow
  row = row_after n n stamp cp.node_row

  row-there : lookup (nat_eq n) u.rows.nodes ≡ Some row
  row-there = ap (λ (x : ClusterView). lookup (nat_eq n) x.rows.nodes) rows ∙ still-found n n stamp w.rows.nodes cp.node_row cp.node_found

  row-partition : row.partition ≡ cp.node_row.partition
  row-partition = read-after (λ (r : NodeRow). r.partition) n n stamp cp.node_row refl

  same-partition : partition_of_node u.rows.nodes n ≡ partition_of_node w.rows.nodes n
  same-partition = ap (λ o. option_map_or (λ (r : NodeRow). r.partition) o 0) row-there ∙ row-partition ∙ sym (ap (λ o. option_map_or (λ (r : NodeRow). r.partition) o 0) cp.node_found)

  label-same : label_at u.rows.partitions row.partition ≡ label_at w.rows.partitions cp.node_row.partition
  label-same =
      ap (λ (x : ClusterView). label_at x.rows.partitions row.partition) rows
      ∙ labels w.rows (partition_of_node w.rows.nodes n) n (λ es. es ++ (number, next_container w.rows n found.app found.role found.size) ∷ []) row.partition
      ∙ ap (label_at w.rows.partitions) row-partition

  model-after : node_of u.rows.partitions row ≡ restamped row.stamp model
  model-after = λ i. record {
    name = read-after (λ (r : NodeRow). r.name) n n stamp cp.node_row refl i;
    label = label-same i;
    size = read-after (λ (r : NodeRow). r.size) n n stamp cp.node_row refl i;
    stamp = row.stamp;
  }

  module _ (of : Node) (at : IsNode w n of) where
    model-is : model ≡ of
    model-is = ap (node_of w.rows.partitions) (same_Some cp.node_row at.row (sym cp.node_found ∙ at.found)) ∙ at.is

    one-more : (times : ℕ) → beat w.config of (suc times) (state_in w) ≡ record { placed = told ∷ (beat w.config of times (state_in u)).placed; state = (beat w.config of times (state_in u)).state }
    one-more times =
        ap (λ m. beat w.config m (suc times) (state_in w)) (sym model-is)
        ∙ beat-some w.config model times (state_in w) item next-is
        ∙ (λ i. record { placed = sym (is-told cp) i ∷ (beat w.config (model-is i) times (sym (state cp) i)).placed; state = (beat w.config (model-is i) times (sym (state cp) i)).state })

  -- room is left for the rest
  room-left : (left : ℕ) → HasRoom w n (suc left) → HasRoom u n left
  room-left left h = subst (λ p. IfSome (slice_get u.rooms p) (λ room. left ≤ room)) (sym same-partition) (go (slice_get u.rooms p) (room.own held.0 held.1))
    where
      p : ℕ
      p = partition_of_node w.rows.nodes n

      inside : p < length w.rooms
      inside = subst (λ m. m < length w.rooms) (sym (ap (λ o. option_map_or (λ (r : NodeRow). r.partition) o 0) cp.node_found))
          (subst (λ m. cp.node_row.partition < m) (sym rooms) (has-partition w.rows sound cp.node_row.partition cp.partition cp.partition_found))

      held : (x : ℕ) × (slice_get w.rooms p ≡ Some x)
      held = place-there w.rooms p inside

      enough : suc left ≤ held.0
      enough = subst (λ o. IfSome o (λ room. suc left ≤ room)) held.1 h

      go : (o : Option ℕ) → IfSome o (λ now. held.0 ≤ now + 1) → IfSome o (λ room. left ≤ room)
      go None k = tt
      go (Some now) k = omega (arith, k, enough)

  pub step : (before after : List Placed) → after ≡ before ++ told ∷ [] → IsStep w u n before after
  step before after list = record {
    working = working;
    live = ap is_some row-there;
    node = λ of at. (row.stamp, record { row = row; found = row-there; is = model-after ∙ ap (restamped row.stamp) (model-is of at) });
    told = told;
    list = list;
    beat = one-more;
    room = room-left;
  }
