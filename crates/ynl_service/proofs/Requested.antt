-- What a node and a partition have left for a request is what the model tests.
use Rattle.std.proofs.Common.{◌≡◌, ◌⊎◌, ℕ, Bool, true, false, not, ◌&&◌, ◌||◌, cond, nat_eq, [], ◌∷◌, slice_get, Option, None, Some, inl, inr, refl, sym, ap, subst, ◌∙◌, arith, true≢false}
use Rattle.std.specs.Prelude.{IfSome}
use Rattle.std.specs.Map.{lookup}
use Rattle.std.proofs.lemmas.Bool.Decides.{nat_tests}
use Rattle.std.proofs.lemmas.Option.{same_Some}
use Rattle.ynl_resource.specs.Amounts.{fits_in}
use Rattle.ynl_resource.specs.Refusals.{first_that_holds}
use Rattle.ynl_resource.specs.declared.amounts.Resource.{Resource}
use Rattle.ynl_resource.specs.declared.refusals.Refusal.{Refusal}
use Rattle.ynl_resource.specs.declared.refusals.Refusal.TheVariants.{NoRoom, PartitionBusy, OverMaximum, OverUserLimit, OverMasterShare}
use Rattle.ynl_model.specs.declared.nodes.Node.{Node}
use Rattle.ynl_model.specs.Cluster.{State, free}
use Rattle.ynl_model.specs.Service.{Item, has_room, some_eligible, within_maximum, within_master_share, within_user_limit}
use Rattle.ynl_model.specs.Check.{comes_as_guest}
use Rattle.ynl_slots.proofs.Lists.{all_from}
use Rattle.ynl_tables.specs.declared.containers.container.Role.{Role}
use Rattle.ynl_tables.specs.declared.containers.container.Role.TheVariants.{Master, Ask as Asked}
use Rattle.ynl_inventory.specs.Rows.{AppRow, NodeRow}
use Rattle.ynl_inventory.specs.Meaning.{item_of, node_of, what_of}
use Rattle.ynl_inventory.specs.Parts.{free_of}
use Rattle.ynl_inventory.specs.Sound.{CanTake, HasPartition, IsAskedOn, IsFor, IsPlaceable, IsSound}
use Rattle.ynl_inventory.proofs.Asked.{ask-there}
use Rattle.ynl_cluster.specs.seating.Seating.{shares}
use Rattle.ynl_cluster.specs.Cluster.{ClusterView, label_of, maxima_in, state_in, stops_in}
use Rattle.ynl_search.proofs.FreeMeans.{free-means}
use Rattle.ynl_service.specs.Checking.{limit_reasons, request_reasons}
use Rattle.ynl_service.proofs.Accessing.{guest-told}

module _ (w : ClusterView) (sound : IsSound w.rows) (n app : ℕ) (role : Role) (size : Resource) (can : IsPlaceable w.rows n app role) where
  abbrev s : State
  s = state_in w

  abbrev node : Node
  node = node_of w.rows.partitions can.node_row

  abbrev item : Item
  item = item_of w.rows can.app_row role size

  -- the node has room for what fits in what is free of it
  pub room-told : has_room s node size ≡ fits_in size (free_of w.rows n)
  room-told = ap (fits_in size) (free-means w.rows sound n can.node_row can.node_found (stops_in w) (maxima_in w))

  -- the first reason, by what is told of the request
  pub first-request : (fits guest busy : Bool) → fits_in size (free_of w.rows n) ≡ fits → comes_as_guest w.config node.label item.what ≡ guest → some_eligible w.config s node ≡ busy
      → first_that_holds (request_reasons w.config s node item)
      ≡ cond (not fits) (Some NoRoom) (cond guest (cond busy (Some PartitionBusy) None) (first_that_holds (limit_reasons w.config s node.label item)))
  first-request fits guest busy x y z =
      (λ i. first_that_holds
      ((NoRoom, not ((room-told ∙ x) i)) ∷ (PartitionBusy, y i && z i) ∷ (OverMaximum, not (y i) && not (within_maximum s node.label item))
      ∷ (OverUserLimit, not (y i) && not (within_user_limit w.config s node.label item))
      ∷ (OverMasterShare, not (y i) && not (within_master_share w.config s node.label item.leaf item.what item.size)) ∷ []))
      ∙ ap (cond (not fits) (Some NoRoom)) (go guest)
    where
      go : (guest : Bool)
          → first_that_holds
          ((PartitionBusy, guest && busy) ∷ (OverMaximum, not guest && not (within_maximum s node.label item)) ∷ (OverUserLimit, not guest && not (within_user_limit w.config s node.label item))
          ∷ (OverMasterShare, not guest && not (within_master_share w.config s node.label item.leaf item.what item.size)) ∷ [])
          ≡ cond guest (cond busy (Some PartitionBusy) None) (first_that_holds (limit_reasons w.config s node.label item))
      go true = refl
      go false = refl

  -- what is no guest is of an application that shares the partition
  module _ (configured : IsFor w.config w.rows) (own : comes_as_guest w.config (label_of w can.node_row.partition) (what_of w.rows.partitions role) ≡ false) where
    abbrev p : ℕ
    p = can.node_row.partition

    at-home : (home : ℕ) → home ≡ p → (nat_eq p 0 || nat_eq home p) ≡ true
    at-home home is = ends (nat_eq p 0) (nat_eq home p) (grind (arith, nat_tests, is))
      where
        ends : (a b : Bool) → b ≡ true → (a || b) ≡ true
        ends true b h = refl
        ends false b h = h

    on-default : (home : ℕ) → p ≡ 0 → (nat_eq p 0 || nat_eq home p) ≡ true
    on-default home is = ap (λ b. b || nat_eq home p) (the is)
      where
        the : p ≡ 0 → nat_eq p 0 ≡ true
        the is = grind (arith, nat_tests, is)

    shares-as : (r : Role) → comes_as_guest w.config (label_of w p) (what_of w.rows.partitions r) ≡ false → CanTake w.rows app p can.partition.guests can.app_row r → shares p can.app_row ≡ true
    shares-as Master none take = at-home can.app_row.home take.0
    shares-as (Asked q priority) none take = go take.1
      where
        on : IsAskedOn can.app_row.home q
        on = ask-there (IsAskedOn can.app_row.home) q priority can.app_row.asks
            (all_from (λ ask. IsAskedOn can.app_row.home ask.partition) can.app_row.asks (sound.apps app can.app_row can.app_found).asked) take.0

        by : q ≡ p → IsAskedOn can.app_row.home q → shares p can.app_row ≡ true
        by same (inl home) = at-home can.app_row.home (sym home ∙ same)
        by same (inr default) = on-default can.app_row.home (sym same ∙ default)

        guest : (q ≡ 0) × (can.partition.guests ≡ true) → shares p can.app_row ≡ true
        guest both =
            let has : HasPartition w.rows p = sound.nodes n can.node_row can.node_found in
            let read : IfSome (slice_get w.rows.partitions p) (λ part. true ≡ part.guests) = subst (λ o. IfSome o (λ part. true ≡ part.guests)) (sym can.partition_found) (sym both.1) in
            let zero : nat_eq q 0 ≡ true = (let is = both.0 in grind (arith, nat_tests, is)) in
            absurd (true≢false (sym (ap (λ b. b && true) zero) ∙ guest-told w sound configured p has true read (Asked q priority) (subst (HasPartition w.rows) (sym both.0) sound.some) ∙ none))

        go : (q ≡ p) ⊎ ((q ≡ 0) × (can.partition.guests ≡ true)) → shares p can.app_row ≡ true
        go (inl same) = by same on
        go (inr both) = guest both

    pub own-shares : IfSome (lookup (nat_eq app) w.rows.apps) (λ row. shares p row ≡ true)
    own-shares = subst (λ o. IfSome o (λ (row : AppRow). shares p row ≡ true)) (sym can.app_found) (shares-as role own can.role)

-- so it is with the row of the node that is read
module _ (w : ClusterView) (sound : IsSound w.rows) (n app : ℕ) (role : Role) (size : Resource) (row : NodeRow) (found : lookup (nat_eq n) w.rows.nodes ≡ Some row) where
  module _ (can : IsPlaceable w.rows n app role) where
    row-is : row ≡ can.node_row
    row-is = same_Some row can.node_row (sym found ∙ can.node_found)

    guest-at : (guest : Bool) → guest ≡ comes_as_guest w.config (label_of w row.partition) (what_of w.rows.partitions role)
        → comes_as_guest w.config (label_of w can.node_row.partition) (what_of w.rows.partitions role) ≡ guest
    guest-at guest is = sym (is ∙ ap (λ (r : NodeRow). comes_as_guest w.config (label_of w r.partition) (what_of w.rows.partitions role)) row-is)

    pub shares-read : IsFor w.config w.rows → (guest : Bool) → guest ≡ comes_as_guest w.config (label_of w row.partition) (what_of w.rows.partitions role) → guest ≡ false
        → IfSome (lookup (nat_eq app) w.rows.apps) (λ other. shares row.partition other ≡ true)
    shares-read configured guest is none =
        subst (λ (r : NodeRow). IfSome (lookup (nat_eq app) w.rows.apps) (λ other. shares r.partition other ≡ true)) (sym row-is)
        (own-shares w sound n app role size can configured (guest-at guest is ∙ none))

  abbrev First : Option Refusal → Type 0
  First result =
      (can : IsPlaceable w.rows n app role)
      → result ≡ first_that_holds (request_reasons w.config (state_in w) (node_of w.rows.partitions can.node_row) (item_of w.rows can.app_row role size))

  pub without-room : fits_in size (free_of w.rows n) ≡ false → First (Some NoRoom)
  without-room fits can = sym (first-request w sound n app role size can false _ _ fits refl refl)

  module _ (fits : fits_in size (free_of w.rows n) ≡ true) (guest : Bool) (told : guest ≡ comes_as_guest w.config (label_of w row.partition) (what_of w.rows.partitions role)) where
    pub as-own : guest ≡ false → (result : Option Refusal)
        → ((node : Node) (other : AppRow) → node.label ≡ label_of w row.partition → free_of w.rows n ≡ free (state_in w) node → lookup (nat_eq app) w.rows.apps ≡ Some other
        → result ≡ first_that_holds (limit_reasons w.config (state_in w) node.label (item_of w.rows other role size)))
        → First result
    as-own none result limits can =
        limits (node_of w.rows.partitions can.node_row) can.app_row (ap (λ (r : NodeRow). label_of w r.partition) (sym (row-is can)))
        (sym (free-means w.rows sound n can.node_row can.node_found (stops_in w) (maxima_in w))) can.app_found
        ∙ sym (first-request w sound n app role size can true false _ fits (guest-at can guest told ∙ none) refl)

    pub as-guest : guest ≡ true → (busy : Bool) → ((row : NodeRow) → lookup (nat_eq n) w.rows.nodes ≡ Some row → busy ≡ some_eligible w.config (state_in w) (node_of w.rows.partitions row))
        → (b : Bool) → busy ≡ b → First (cond b (Some PartitionBusy) None)
    as-guest comes busy read b is can =
        sym (first-request w sound n app role size can true true b fits (guest-at can guest told ∙ comes) (sym (read can.node_row can.node_found) ∙ is))
