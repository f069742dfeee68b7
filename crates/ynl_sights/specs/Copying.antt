-- What is copied of a cluster is what there is to see of it.
use Rattle.std.specs.Prelude.{◌≡◌, ℕ, ◌+◌, not, ◌&&◌, nat_eq, List, [], ◌∷◌, ◌++◌, map, filter, flat_map, length, take, slice_index_or, if◌then◌else◌}
use Rattle.ynl_resource.specs.Amounts.{nothing}
use Rattle.ynl_resource.specs.Names.{root, way_to}
use Rattle.ynl_resource.specs.declared.amounts.Resource.{Resource}
use Rattle.ynl_resource.specs.declared.paths.Path.{Path}
use Rattle.ynl_model.specs.Cluster.{masters_used}
use Rattle.ynl_model.specs.Limits.{user_limit, master_limit}
use Rattle.ynl_model.specs.Service.{Item, no_master_in, standing}
use Rattle.ynl_tables.specs.declared.apps.asks.Ask.{Ask}
use Rattle.ynl_lanes.specs.declared.lane.kinds.Kind.{Kind}
use Rattle.ynl_lanes.specs.declared.lane.kinds.Kind.TheVariants as kind
use Rattle.ynl_inventory.specs.Rows.{Rows, AppRow}
use Rattle.ynl_inventory.specs.Apps.{runs_at}
use Rattle.ynl_inventory.specs.Meaning.{app_name}
use Rattle.ynl_cluster.specs.requests.Laws.{in_leaf}
use Rattle.ynl_cluster.specs.requests.Requests.{Request, asked, item_for, master_wanted}
use Rattle.ynl_cluster.specs.seating.Seating.{user_use}
use Rattle.ynl_cluster.specs.Cluster.{ClusterView, label_of, path_of, state_in}
use Rattle.ynl_search.specs.declared.place.Place.{Place}
use Rattle.ynl_search.specs.Places.{IsSmallPlace}
use Rattle.ynl_search.specs.Scenes.{IsPlaceOf}
use Rattle.ynl_sights.specs.Sights.{Offer, offer_of, reach_of}
use Rattle.ynl_sights.specs.Rows.{asks_in, masters_in, reach_in, reach_of_queue, standing_in, user_limit_in, AreLeaves}
use Rattle.ynl_sights.specs.declared.rows.QueueSight.{QueueSight}
use Rattle.ynl_sights.specs.declared.rows.Limits.{Limits}
use Rattle.ynl_sights.specs.declared.rows.LeafSights.{LeafSights}
use Rattle.ynl_sights.specs.declared.rows.Wanted.{Wanted}

-- ---- ways and limits

-- a place is that of a queue on a partition
pub record IsAt (w : ClusterView) (p q : ℕ) (place : Place) : Type 0 where
  pub is : IsPlaceOf w p nothing place
  pub small : IsSmallPlace place
  pub queue : place.queue ≡ q

-- a row is that of a queue, as it stands on a partition
pub record IsQueueOf (w : ClusterView) (p : ℕ) (queue : Path) (row : QueueSight) : Type 0 where
  pub stands : standing_in row ≡ standing w.config (state_in w) (label_of w p) queue
  pub reach : reach_of_queue row ≡ reach_of (state_in w) (label_of w p) queue

-- rows are those of the first so many queues on the way to a leaf
pub record AreQueuesTo (w : ClusterView) (p : ℕ) (leaf : Path) (depth : ℕ) (rows : List QueueSight) : Type 0 where
  pub names : map (λ row. row.name) rows ≡ take depth leaf
  pub stand : map standing_in rows ≡ map (standing w.config (state_in w) (label_of w p)) (take depth (way_to leaf))
  pub reach : map reach_of_queue rows ≡ map (reach_of (state_in w) (label_of w p)) (take depth (way_to leaf))

-- rows are those of all queues on the way to a leaf
abbrev pub AreAllTo : ClusterView → ℕ → ℕ → List QueueSight → Type 0
AreAllTo w p q rows = AreQueuesTo w p (path_of w q) (length (path_of w q)) rows

-- rows are added, those of the first so many queues on the way to a leaf
pub record AddsTo (w : ClusterView) (p : ℕ) (leaf : Path) (depth : ℕ) (old new : List QueueSight) : Type 0 where
  pub more : List QueueSight
  pub is : new ≡ old ++ more
  pub queues : AreQueuesTo w p leaf depth more

-- those of all of them
abbrev pub AddsAll : ClusterView → ℕ → ℕ → List QueueSight → List QueueSight → Type 0
AddsAll w p q old new = AddsTo w p (path_of w q) (length (path_of w q)) old new

-- limits are those of a leaf on a partition
pub record AreLimitsOf (w : ClusterView) (p q : ℕ) (limits : Limits) : Type 0 where
  pub user_limit : (size : Resource) → user_limit_in limits size ≡ user_limit w.config (state_in w) (path_of w q) (label_of w p) size
  pub masters : limits.masters ≡ masters_used (state_in w) (path_of w q) (label_of w p)
  pub master_limit : limits.master_limit ≡ master_limit w.config (state_in w) (path_of w q) (label_of w p)
  pub no_master : limits.no_master ≡ no_master_in (state_in w) (path_of w q) (label_of w p)

-- ---- what applications want

-- a request of an application that stands so
abbrev pub wanted_as : Rows → ℕ → AppRow → Resource → ℕ → Wanted
wanted_as v place row size priority = record {
  place = place;
  size = size;
  priority = priority;
  app = app_name v.tenants row.tenant row.turn;
  user = slice_index_or v.users row.user [];
}

-- with what its user uses of the leaf's part of a partition
abbrev pub shown_as : Rows → ℕ → ℕ → AppRow → Resource → ℕ → Resource × Wanted
shown_as v p place row size priority = (user_use v p row.leaf row.user, wanted_as v place row size priority)

-- an application's master, which is wanted on the home partition while the application does not run
abbrev pub master_shown : Rows → ℕ → ℕ → ℕ → AppRow → List (Resource × Wanted)
master_shown v p place n row = if not (runs_at v n row) && nat_eq row.home p then shown_as v p place row row.master 0 ∷ [] else []

-- some asks of an application, as far as they are for a partition
abbrev pub asks_shown : Rows → ℕ → ℕ → AppRow → List Ask → List (Resource × Wanted)
asks_shown v p place row asks = map (λ ask. shown_as v p place row ask.size ask.priority) (filter (λ ask. nat_eq ask.partition p) asks)

-- what an application asks for on a partition while it runs
abbrev pub asked_shown : Rows → ℕ → ℕ → ℕ → AppRow → List (Resource × Wanted)
asked_shown v p place n row = if runs_at v n row then asks_shown v p place row row.asks else []

-- numbers are those of the live applications of a leaf, in the order of submission
abbrev pub AreAppsOf : Rows → ℕ → List ℕ → Type 0
AreAppsOf v q numbers = numbers ≡ map (λ e. e.0) (in_leaf q v.apps)

-- of applications one after another, of which the first stands in this place
abbrev pub one_by_one : {X : Type 0} → (ℕ → ℕ → AppRow → List X) → ℕ → List (ℕ × AppRow) → List X
one_by_one each place [] = []
one_by_one each place (e ∷ apps) = each place e.0 e.1 ++ one_by_one each (place + 1) apps

-- some requests of the applications of a leaf, as the model has them
abbrev pub items_in : Rows → (ℕ → AppRow → List Request) → ℕ → List Item
items_in v among q = flat_map (λ e. map (item_for v e.1) (among e.0 e.1)) (in_leaf q v.apps)

-- what there is to see of them on a partition
abbrev pub offers_at : ClusterView → ℕ → (ℕ → AppRow → List Request) → ℕ → List Offer
offers_at w p among q = map (offer_of w.config (state_in w) (label_of w p)) (items_in w.rows among q)

-- what an application wants on a partition, of a kind: its master, or what it asks for
abbrev pub kind_wanted : Kind → Rows → ℕ → ℕ → AppRow → List Request
kind_wanted kind.Master v p = master_wanted v p
kind_wanted kind.Ask v p = asked v p

-- ---- leaf after leaf

-- leaves have ways, below what root uses of a partition and may use
pub record AreLeavesOn (w : ClusterView) (p : ℕ) (leaves : LeafSights) : Type 0 where
  pub root : reach_in leaves.root ≡ reach_of (state_in w) (label_of w p) root
  pub ways : AreLeaves leaves

-- a leaf is added with what is wanted of it
pub record AddsLeaf (w : ClusterView) (p q : ℕ) (old new : LeafSights) : Type 0 where
  pub leaves : AreLeavesOn w p new
  pub masters : masters_in new ≡ masters_in old ++ offers_at w p (master_wanted w.rows p) q
  pub asks : asks_in (label_of w p) new ≡ asks_in (label_of w p) old ++ offers_at w p (asked w.rows p) q
