-- What the rows of a sight mean.
use Rattle.std.specs.Prelude.{◌<◌, ◌≤◌, List, [], ◌∷◌, ◌++◌, length, map, flat_map, slice_range, Option, IfSome}
use Rattle.std.specs.List.{AllByRecursion}
use Rattle.std.specs.Option.{option_map_or}
use Rattle.ynl_resource.specs.declared.amounts.Resource.{Resource}
use Rattle.ynl_resource.specs.declared.labels.Label.{Label}
use Rattle.ynl_resource.specs.declared.labels.Label.TheVariants.{Unlabelled}
use Rattle.ynl_resource.specs.declared.paths.Path.{Path}
use Rattle.ynl_model.specs.declared.proposals.What.{What}
use Rattle.ynl_model.specs.declared.proposals.What.TheVariants.{Master, Ask as Asked}
use Rattle.ynl_model.specs.Service.{Item, Key, Standing, rank}
use Rattle.ynl_search.specs.limits.Limits.{limit_of}
use Rattle.ynl_sights.specs.Sights.{Reach, Tests, Bid, Offer}
use Rattle.ynl_sights.specs.declared.rows.Margin.{Margin}
use Rattle.ynl_sights.specs.declared.rows.QueueSight.{QueueSight}
use Rattle.ynl_sights.specs.declared.rows.Limits.{Limits}
use Rattle.ynl_sights.specs.declared.rows.Wanted.{Wanted}
use Rattle.ynl_sights.specs.declared.rows.Offered.{Offered}
use Rattle.ynl_sights.specs.declared.rows.LeafSight.{LeafSight}
use Rattle.ynl_sights.specs.declared.rows.LeafSights.{LeafSights}

-- how a queue stands
abbrev pub standing_in : QueueSight → Standing
standing_in queue = record { ratio = record { used = queue.margin.used.memory; guaranteed = queue.guaranteed }; name = queue.name }

abbrev pub reach_in : Margin → Reach
reach_in margin = record { used = margin.used; maximum = margin.maximum }

abbrev pub reach_of_queue : QueueSight → Reach
reach_of_queue queue = reach_in queue.margin

-- ---- ways

-- where the queues on the way to a leaf stand among some, and it has at least one
abbrev pub IsSpan : List QueueSight → LeafSight → Type 0
IsSpan queues leaf = (leaf.start < leaf.end) × (leaf.end ≤ length queues)

-- the queues on the way to a leaf
abbrev pub way_in : List QueueSight → LeafSight → List QueueSight
way_in queues leaf = slice_range queues leaf.start leaf.end

abbrev pub way_of : LeafSights → LeafSight → List QueueSight
way_of leaves leaf = way_in leaves.queues.items leaf

-- the leaf at the end of a way
abbrev pub leaf_of : List QueueSight → Path
leaf_of way = map (λ queue. queue.name) way

-- ---- requests

-- the user limit for a size
abbrev pub user_limit_in : Limits → Resource → Resource
user_limit_in limits size = limit_of limits.users size

abbrev pub item_in : List QueueSight → What → Wanted → Item
item_in way what wanted = record { leaf = leaf_of way; app = wanted.app; user = wanted.user; what = what; size = wanted.size }

abbrev pub key_in : List QueueSight → What → Wanted → Key
key_in way what wanted = record { standings = map standing_in way; turn = wanted.place ∷ rank what }

abbrev pub bid_in : List QueueSight → What → Wanted → Bid
bid_in way what wanted = record { item = item_in way what wanted; key = key_in way what wanted }

-- root's reach comes first
abbrev pub tests_in : Margin → List QueueSight → Limits → Resource → Wanted → Tests
tests_in root way limits user_used wanted = record {
  way = reach_in root ∷ map reach_of_queue way;
  user_used = user_used;
  user_limit = user_limit_in limits wanted.size;
  masters_used = limits.masters;
  master_limit = limits.master_limit;
  no_master = limits.no_master;
}

abbrev pub offer_by : Margin → List QueueSight → Limits → What → Resource × Wanted → Offer
offer_by root way limits what one = record { bid = bid_in way what one.1; tests = tests_in root way limits one.0 one.1 }

-- what a request shows: what its user uses, and the rest
abbrev pub shown : Offered → Resource × Wanted
shown offered = (offered.user_used, offered.wanted)

-- ---- leaves

-- a request of a leaf
abbrev pub offer_at : LeafSights → LeafSight → What → Offered → Offer
offer_at leaves leaf what offered = offer_by leaves.root (way_of leaves leaf) leaf.limits what (shown offered)

abbrev pub masters_at : LeafSights → LeafSight → List Offer
masters_at leaves leaf = map (offer_at leaves leaf Master) leaf.list.value.masters.items

abbrev pub asks_at : Label → LeafSights → LeafSight → List Offer
asks_at label leaves leaf = map (λ offered. offer_at leaves leaf (Asked label offered.wanted.priority) offered) leaf.list.value.asks.items

abbrev pub masters_in : LeafSights → List Offer
masters_in leaves = flat_map (masters_at leaves) leaves.leaves.items

abbrev pub asks_in : Label → LeafSights → List Offer
asks_in label leaves = flat_map (asks_at label leaves) leaves.leaves.items

-- the offers of all leaves, masters first
abbrev pub offers_in : Label → LeafSights → List Offer
offers_in label leaves = masters_in leaves ++ asks_in label leaves

-- each leaf has a way
abbrev pub AreLeaves : LeafSights → Type 0
AreLeaves leaves = AllByRecursion (IsSpan leaves.queues.items) leaves.leaves.items

-- ---- guests

-- what is asked for on DEFAULT, without what it would be tested against there
abbrev pub bids_of : List Offer → List Bid
bids_of offers = map (λ offer. offer.bid) offers

abbrev pub guest_bids_in : Option LeafSights → List Bid
guest_bids_in guests = option_map_or (λ leaves. bids_of (asks_in Unlabelled leaves)) guests []

abbrev pub AreGuests : Option LeafSights → Type 0
AreGuests guests = IfSome guests AreLeaves
