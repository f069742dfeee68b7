-- What is noted of queues stays right while the cluster changes.
use Rattle.std.proofs.Common.{arith, ◌≡◌, ◌⊎◌, inl, inr, ℕ, ◌+◌, Bool, true, false, ◌&&◌, nat_eq, [], ◌∷◌, filter, slice_get, Option, None, Some, is_some, option_map, refl, sym, ap, subst, ◌∙◌, true≢false}
use Rattle.std.specs.Prelude.{IfSome, position}
use Rattle.std.specs.Map.{lookup}
use Rattle.std.specs.Option.{option_and_then, option_map_or}
use Rattle.std.proofs.lemmas.Option.{none-some, same_Some}
use Rattle.ynl_resource.specs.Names.{is_within, same_id, same_path, tenant_of, top_level}
use Rattle.ynl_resource.specs.declared.amounts.Resource.{Resource}
use Rattle.ynl_resource.specs.declared.names.Name.{Name}
use Rattle.ynl_model.specs.Applications.{Application, LeafApps, in_leaf, leaf_of, row_of, set_ask, submitted, with_app}
use Rattle.ynl_model.specs.Changes.{app_finishes, end, place}
use Rattle.ynl_model.specs.Cluster.{State, containers_on, is_master_what}
use Rattle.ynl_laws.specs.Tabled.{Tabled}
use Rattle.ynl_inventory.specs.layout.Paths.{HasNumber, path_at}
use Rattle.ynl_laws.specs.Working.{IsWorking, has_row}
use Rattle.ynl_tables.specs.declared.containers.container.Container.{Container}
use Rattle.ynl_tables.specs.declared.containers.container.Role.{Role}
use Rattle.ynl_tables.specs.declared.containers.container.Role.TheVariants.{Master, Ask as Asked}
use Rattle.ynl_inventory.specs.Rows.{AppRow, NodeRow, PartitionRow, Rows}
use Rattle.ynl_tables.specs.declared.apps.asks.Ask.{Ask}
use Rattle.ynl_inventory.specs.declared.submission.NewSubmission.{NewSubmission}
use Rattle.ynl_inventory.specs.Meaning.{app_name, app_of, ask_of, item_of, node_of, placed_of, what_of}
use Rattle.ynl_inventory.specs.Parts.{held_at}
use Rattle.ynl_inventory.specs.Sound.{CanAsk, CanSubmit, IsAskedOn, IsFor, IsPlaceable, IsSound}
use Rattle.ynl_inventory.proofs.AppsFound.{no-submission}
use Rattle.ynl_inventory.proofs.Asked.{on-there}
use Rattle.ynl_inventory.proofs.Finding.{has-partition}
use Rattle.ynl_inventory.proofs.Submitted.{app-submission}
use Rattle.ynl_cluster.proofs.requests.Running.{label-tells}
use Rattle.ynl_cluster.proofs.requests.Tables.{tabled}
use Rattle.ynl_cluster.specs.Cluster.{ClusterView, IsCell, label_of, maxima_in, path_of, state_in, stops_in}
use Rattle.ynl_search.proofs.notes.Facts.{known, once, owned, row-there}
use Rattle.ynl_search.proofs.notes.Lasting.{stays-asking, stays-asking_elsewhere, stays-ending, stays-ending_elsewhere, stays-finishing, stays-placing, stays-placing_elsewhere, stays-submitting}
use Rattle.ynl_inventory.specs.Meaning.{has_none_below}
use Rattle.ynl_inventory.specs.Sound.{HasPartition, IsLeaf}
use Rattle.ynl_search.specs.notes.Notes.{Table}
use Rattle.ynl_search.specs.notes.Shut.{AreOwnRight}
use Rattle.ynl_search.specs.notes.Laws.{AreReadable, Stays}
use Rattle.ynl_search.specs.notes.Upkeep.{AreLeft, changed_on, is_on}
use Rattle.ynl_search.proofs.notes.Leaving.{HaveSameCells, after-change, same-cells}

-- what both states are
pub readable : (w u : ClusterView) → IsSound w.rows → IsSound u.rows → IsWorking w.config (state_in w) → (t : State) → state_in u ≡ t → AreReadable (state_in w) t
readable w u sound after working t is = record {
  kept = working.kept;
  tabled = tabled w.rows sound (stops_in w) (maxima_in w);
  after = subst Tabled is (tabled u.rows after (stops_in u) (maxima_in u));
}

-- whether a queue's notes are forgotten, by partition
by-partition : (only : Option ℕ) (p : ℕ) (within : Bool) → (is_on only p && within) ≡ false → (within ≡ false) ⊎ (is_on only p ≡ false)
by-partition only p within h = go (is_on only p) refl h
  where
    go : (b : Bool) → is_on only p ≡ b → (b && within) ≡ false → (within ≡ false) ⊎ (is_on only p ≡ false)
    go true e h = inl h
    go false e h = inr e

-- a container stands in a partition's row
pub part : (w : ClusterView) (p number : ℕ) (c : Container) → held_at w.rows p number ≡ Some c → (part : PartitionRow) × (slice_get w.rows.partitions p ≡ Some part) × (lookup (nat_eq number) part.containers ≡ Some c)
part w p number c held = go (slice_get w.rows.partitions p) refl held
  where
    go : (o : Option PartitionRow) → slice_get w.rows.partitions p ≡ o → option_and_then (λ row. lookup (nat_eq number) row.containers) o ≡ Some c
        → (part : PartitionRow) × (slice_get w.rows.partitions p ≡ Some part) × (lookup (nat_eq number) part.containers ≡ Some c)
    go None e h = absurd (none-some c h)
    go (Some part) e h = (part, e, h)

module _ (w u : ClusterView) (sound : IsSound w.rows) (after : IsSound u.rows) (working : IsWorking w.config (state_in w)) where
  -- ---- placing

  module _ (node app : ℕ) (role : Role) (size : Resource) (can : IsPlaceable w.rows node app role)
      (is : state_in u ≡ place w.config (node_of w.rows.partitions can.node_row) (item_of w.rows can.app_row role size) (state_in w)) where
    pub placing-stays : (p q : ℕ) → IsCell w p q → (is_on (changed_on role can.node_row.partition) p && is_within (path_of w q) (path_of w can.app_row.leaf)) ≡ false
        → Stays w.config (state_in w) (state_in u) (label_of w p) (path_of w q)
    placing-stays p q cell apart = subst (λ t. Stays w.config (state_in w) t (label_of w p) (path_of w q)) (sym is) (go role refl (by-partition (changed_on role can.node_row.partition) p _ apart))
      where
        both : AreReadable (state_in w) (place w.config (node_of w.rows.partitions can.node_row) (item_of w.rows can.app_row role size) (state_in w))
        both = readable w u sound after working _ is

        go : (r : Role) → r ≡ role → (is_within (path_of w q) (path_of w can.app_row.leaf) ≡ false) ⊎ (is_on (changed_on role can.node_row.partition) p ≡ false)
            → Stays w.config (state_in w) (place w.config (node_of w.rows.partitions can.node_row) (item_of w.rows can.app_row role size) (state_in w)) (label_of w p) (path_of w q)
        go r e (inl off) =
            stays-placing w.config (state_in w) (node_of w.rows.partitions can.node_row) (item_of w.rows can.app_row role size) (label_of w p) (path_of w q) both
            (row-there w.rows sound (stops_in w) (maxima_in w) can.node_row.partition can.partition can.partition_found)
            (known w.rows sound (stops_in w) (maxima_in w) app can.app_row can.app_found) off
        go Master e (inr away) = absurd (true≢false (ap (λ r. is_on (changed_on r can.node_row.partition) p) e ∙ away))
        go (Asked asked priority) e (inr away) =
            stays-placing_elsewhere w.config (state_in w) (node_of w.rows.partitions can.node_row) (item_of w.rows can.app_row role size) (label_of w p) (path_of w q) both
            (row-there w.rows sound (stops_in w) (maxima_in w) can.node_row.partition can.partition can.partition_found)
            (known w.rows sound (stops_in w) (maxima_in w) app can.app_row can.app_found)
            (ap (λ r. is_master_what (what_of w.rows.partitions r)) (sym e))
            (label-tells w.rows sound p can.node_row.partition cell.partition (has-partition w.rows sound can.node_row.partition can.partition can.partition_found) ∙ ap (λ r. is_on (changed_on r can.node_row.partition) p) e ∙ away)

  -- ---- ending

  module _ (p number : ℕ) (c : Container) (row : AppRow) (held : held_at w.rows p number ≡ Some c) (found : lookup (nat_eq c.app) w.rows.apps ≡ Some row)
      (is : state_in u ≡ end w.config (state_in w) (placed_of w.rows (label_of w p) c)) where
    pub ending-stays : (r q : ℕ) → IsCell w r q → (is_on (changed_on c.role p) r && is_within (path_of w q) (path_of w row.leaf)) ≡ false
        → Stays w.config (state_in w) (state_in u) (label_of w r) (path_of w q)
    ending-stays r q cell apart = subst (λ t. Stays w.config (state_in w) t (label_of w r) (path_of w q)) (sym is) (go (changed_on c.role p) refl (by-partition (changed_on c.role p) r _ apart))
      where
        at : (part : PartitionRow) × (slice_get w.rows.partitions p ≡ Some part) × (lookup (nat_eq number) part.containers ≡ Some c)
        at = part w p number c held

        both : AreReadable (state_in w) (end w.config (state_in w) (placed_of w.rows (label_of w p) c))
        both = readable w u sound after working _ is

        there : has_row (state_in w).partitions (label_of w p) ≡ true
        there = row-there w.rows sound (stops_in w) (maxima_in w) p at.0 at.1

        alone : filter (λ k. same_id k.id (placed_of w.rows (label_of w p) c).id) (containers_on (state_in w) (label_of w p)) ≡ placed_of w.rows (label_of w p) c ∷ []
        alone = once w.rows sound (stops_in w) (maxima_in w) p number at.0 c at.1 at.2

        go : (only : Option ℕ) → changed_on c.role p ≡ only → (is_within (path_of w q) (path_of w row.leaf) ≡ false) ⊎ (is_on (changed_on c.role p) r ≡ false)
            → Stays w.config (state_in w) (end w.config (state_in w) (placed_of w.rows (label_of w p) c)) (label_of w r) (path_of w q)
        go only e (inl off) =
            stays-ending w.config (state_in w) (placed_of w.rows (label_of w p) c) (path_of w row.leaf) (label_of w r) (path_of w q) both there alone
            (owned w.rows sound (stops_in w) (maxima_in w) p number row c found) off
        go None e (inr away) = absurd (true≢false (sym (ap (λ o. is_on o r) e) ∙ away))
        go (Some only) e (inr away) =
            stays-ending_elsewhere w.config (state_in w) (placed_of w.rows (label_of w p) c) (label_of w r) (path_of w q) both there alone
            (label-tells w.rows sound r p cell.partition (has-partition w.rows sound p at.0 at.1) ∙ other c.role away)
          where
            other : (role : Role) → is_on (changed_on role p) r ≡ false → nat_eq r p ≡ false
            other Master h = absurd (true≢false h)
            other (Asked asked priority) h = h

  -- ---- submitting

  module _ (name : Name) (new : NewSubmission) (can : CanSubmit w.rows name new) (app : Application) (at : app.leaf ≡ path_of w new.leaf) (named : app.name ≡ name)
      (is : state_in u ≡ record (state_in w) { leaves = in_leaf app.leaf (submitted app) (state_in w).leaves }) where
    unused : is_some (leaf_of (state_in w).leaves (tenant_of app.leaf) app.name) ≡ false
    unfolding leaf_of
    unused = ap (λ o. is_some (option_map (λ (row : LeafApps). row.leaf) o))
        ((λ i. row_of (state_in w).leaves (tenant_of (at i)) (named i))
        ∙ no-submission w.rows sound new.tenant (tenant_of (path_of w new.leaf)) name
        (λ q there same. ap (λ (t : Name). option_map_or (λ n. n + 1) (position (same_path (top_level t)) w.rows.paths) 0) same ∙ can.tenant) can.unnamed)

    pub submitting-stays : (p q : ℕ) → IsCell w p q → (is_on None p && is_within (path_of w q) (path_of w new.leaf)) ≡ false → Stays w.config (state_in w) (state_in u) (label_of w p) (path_of w q)
    submitting-stays p q cell apart = subst (λ t. Stays w.config (state_in w) t (label_of w p) (path_of w q)) (sym is)
        (stays-submitting w.config (state_in w) app (label_of w p) (path_of w q) (readable w u sound after working _ is) unused (ap (is_within (path_of w q)) at ∙ apart))

  -- ---- asking

  module _ (app : ℕ) (ask : Ask) (row : AppRow) (found : lookup (nat_eq app) w.rows.apps ≡ Some row) (own : IsAskedOn row.home ask.partition)
      (is : state_in u ≡ record (state_in w) { leaves = in_leaf (path_of w row.leaf) (with_app (app_name w.rows.tenants row.tenant row.turn) (set_ask (ask_of w.rows.partitions ask))) (state_in w).leaves }) where
    pub asking-stays : (p q : ℕ) → IsCell w p q → (is_on (Some ask.partition) p && is_within (path_of w q) (path_of w row.leaf)) ≡ false
        → Stays w.config (state_in w) (state_in u) (label_of w p) (path_of w q)
    asking-stays p q cell apart = subst (λ t. Stays w.config (state_in w) t (label_of w p) (path_of w q)) (sym is) (go (by-partition (Some ask.partition) p _ apart))
      where
        both : AreReadable (state_in w) (record (state_in w) { leaves = in_leaf (path_of w row.leaf) (with_app (app_name w.rows.tenants row.tenant row.turn) (set_ask (ask_of w.rows.partitions ask))) (state_in w).leaves })
        both = readable w u sound after working _ is

        go : (is_within (path_of w q) (path_of w row.leaf) ≡ false) ⊎ (nat_eq p ask.partition ≡ false)
            → Stays w.config (state_in w) (record (state_in w) { leaves = in_leaf (path_of w row.leaf) (with_app (app_name w.rows.tenants row.tenant row.turn) (set_ask (ask_of w.rows.partitions ask))) (state_in w).leaves }) (label_of w p) (path_of w q)
        go (inl off) = stays-asking w.config (state_in w) (path_of w row.leaf) (app_name w.rows.tenants row.tenant row.turn) (ask_of w.rows.partitions ask) (label_of w p) (path_of w q) both off
        go (inr away) = stays-asking_elsewhere w.config (state_in w) (path_of w row.leaf) (app_name w.rows.tenants row.tenant row.turn) (ask_of w.rows.partitions ask) (label_of w p) (path_of w q) both
            (label-tells w.rows sound p ask.partition cell.partition (on-there w.rows sound row.home (sound.apps app row found).home ask.partition own) ∙ away)

  -- ---- finishing

  module _ (app : ℕ) (row : AppRow) (found : lookup (nat_eq app) w.rows.apps ≡ Some row) (is : state_in u ≡ app_finishes w.config (app_of w.rows (app, row)) (state_in w)) where
    pub finishing-stays : (p q : ℕ) → IsCell w p q → (is_on None p && is_within (path_of w q) (path_of w row.leaf)) ≡ false → Stays w.config (state_in w) (state_in u) (label_of w p) (path_of w q)
    finishing-stays p q cell apart = subst (λ t. Stays w.config (state_in w) t (label_of w p) (path_of w q)) (sym is)
        (stays-finishing w.config (state_in w) (app_of w.rows (app, row)) (label_of w p) (path_of w q) (readable w u sound after working _ is) working.ordered
        (known w.rows sound (stops_in w) (maxima_in w) app row found) apart)

-- ---- what is called

-- the leaf of a live application is one
pub leaf-is : (w u : ClusterView) → IsSound w.rows → (app : ℕ) (row : AppRow) → lookup (nat_eq app) w.rows.apps ≡ Some row → u.rows.paths ≡ w.rows.paths → IsLeaf u.rows row.leaf
leaf-is w u sound app row found same = record {
  there = subst (λ paths. HasNumber paths row.leaf) (sym same) (app-submission w.rows sound app row found).there;
  none_below = subst (λ paths. has_none_below paths (path_at paths row.leaf) ≡ true) (sym same) (app-submission w.rows sound app row found).leaf;
}

-- a partition stays
pub still-there : (w u : ClusterView) → IsFor w.config w.rows → IsFor u.config u.rows → u.config ≡ w.config → (p : ℕ) → HasPartition w.rows p → HasPartition u.rows p
still-there w u before after config p has = ((same-cells u w after before (sym config)).there p 0 (record { partition = has; queue = omega arith })).partition

-- so does the one on which requests change with a container
pub changed-there : (v : Rows) (role : Role) (p : ℕ) (only : Option ℕ) → only ≡ changed_on role p → HasPartition v p → IfSome only (HasPartition v)
changed-there v role p only which has = subst (λ o. IfSome o (HasPartition v)) (sym which) (go role)
  where
    go : (r : Role) → IfSome (changed_on r p) (HasPartition v)
    go Master = tt
    go (Asked asked priority) = has

module _ (w u : ClusterView) (sound : IsSound w.rows) (after : IsSound u.rows) (working : IsWorking w.config (state_in w))
    (before-for : IsFor w.config w.rows) (after-for : IsFor u.config u.rows) (config : u.config ≡ w.config) (old left : Table) where
  abbrev pub cells : HaveSameCells w u
  cells = same-cells w u before-for after-for config

  -- a container was placed
  pub place-right : (node app : ℕ) (role : Role) (size : Resource) (can : IsPlaceable w.rows node app role)
      → state_in u ≡ place w.config (node_of w.rows.partitions can.node_row) (item_of w.rows can.app_row role size) (state_in w)
      → (row : AppRow) → lookup (nat_eq app) w.rows.apps ≡ Some row → (nrow : NodeRow) → lookup (nat_eq node) w.rows.nodes ≡ Some nrow
      → (only : Option ℕ) → only ≡ changed_on role nrow.partition → IsLeaf u.rows row.leaf → AreLeft u row.leaf (is_on only) old left → (AreOwnRight w old → AreOwnRight u left)
  place-right node app role size can is row found nrow nfound only which leaf are =
      after-change w u cells after row.leaf leaf (is_on only) old left are
      (λ p q cell apart. placing-stays w u sound after working node app role size can is p q cell
      ((λ i. is_on ((ap (λ (r : NodeRow). changed_on role r.partition) there ∙ sym which) i) p && is_within (path_of w q) (path_of w (own i).leaf)) ∙ apart))
    where
      own : can.app_row ≡ row
      own = same_Some can.app_row row (sym can.app_found ∙ found)

      there : can.node_row ≡ nrow
      there = same_Some can.node_row nrow (sym can.node_found ∙ nfound)

  -- one ended
  pub end-right : (p number : ℕ) (c : Container) (row : AppRow) → held_at w.rows p number ≡ Some c → lookup (nat_eq c.app) w.rows.apps ≡ Some row
      → state_in u ≡ end w.config (state_in w) (placed_of w.rows (label_of w p) c)
      → (only : Option ℕ) → only ≡ changed_on c.role p → IsLeaf u.rows row.leaf → AreLeft u row.leaf (is_on only) old left → (AreOwnRight w old → AreOwnRight u left)
  end-right p number c row held found is only which leaf are =
      after-change w u cells after row.leaf leaf (is_on only) old left are
      (λ r q cell apart. ending-stays w u sound after working p number c row held found is r q cell (ap (λ o. is_on o r && is_within (path_of w q) (path_of w row.leaf)) (sym which) ∙ apart))

  -- an application was submitted
  pub submit-right : (name : Name) (new : NewSubmission) → CanSubmit w.rows name new → (app : Application) → app.leaf ≡ path_of w new.leaf → app.name ≡ name
      → state_in u ≡ record (state_in w) { leaves = in_leaf app.leaf (submitted app) (state_in w).leaves }
      → IsLeaf u.rows new.leaf → AreLeft u new.leaf (is_on None) old left → (AreOwnRight w old → AreOwnRight u left)
  submit-right name new can app at named is leaf are = after-change w u cells after new.leaf leaf (is_on None) old left are (submitting-stays w u sound after working name new can app at named is)

  -- one asked
  pub ask-right : (app : ℕ) (ask : Ask) (row : AppRow) → lookup (nat_eq app) w.rows.apps ≡ Some row → CanAsk w.rows app ask
      → state_in u ≡ record (state_in w) { leaves = in_leaf (path_of w row.leaf) (with_app (app_name w.rows.tenants row.tenant row.turn) (set_ask (ask_of w.rows.partitions ask))) (state_in w).leaves }
      → IsLeaf u.rows row.leaf → AreLeft u row.leaf (is_on (Some ask.partition)) old left → (AreOwnRight w old → AreOwnRight u left)
  ask-right app ask row found can is leaf are =
      after-change w u cells after row.leaf leaf (is_on (Some ask.partition)) old left are
      (asking-stays w u sound after working app ask row found (subst (λ o. IfSome o (λ (r : AppRow). IsAskedOn r.home ask.partition)) found can.1) is)

  -- one finished
  pub finish-right : (app : ℕ) (row : AppRow) → lookup (nat_eq app) w.rows.apps ≡ Some row → state_in u ≡ app_finishes w.config (app_of w.rows (app, row)) (state_in w)
      → IsLeaf u.rows row.leaf → AreLeft u row.leaf (is_on None) old left → (AreOwnRight w old → AreOwnRight u left)
  finish-right app row found is leaf are = after-change w u cells after row.leaf leaf (is_on None) old left are (finishing-stays w u sound after working app row found is)
