-- What is seen for a node determines the choice.
use Rattle.std.proofs.Common.{◌≡◌, Bool, true, false, cond, not, ◌&&◌, ◌||◌, List, [], ◌∷◌, map, filter, find, Option, Some, None, refl, ap, ◌∙◌}
use Rattle.std.specs.Prelude.{option_map}
use Rattle.std.specs.List.{list_any, list_all}
use Rattle.std.specs.Option.{option_or}
use Rattle.std.specs.Ordering.{is_gt}
use Rattle.ynl_resource.specs.Amounts.{fits_in}
use Rattle.ynl_resource.specs.Names.{root, way_to}
use Rattle.ynl_resource.specs.declared.labels.Label.{Label}
use Rattle.ynl_resource.specs.declared.labels.Label.TheVariants.{Unlabelled}
use Rattle.ynl_model.specs.declared.nodes.Node.{Node}
use Rattle.ynl_model.specs.declared.proposals.What.{What}
use Rattle.ynl_model.specs.declared.proposals.What.TheVariants.{Master, Ask as Asked}
use Rattle.ynl_model.specs.Queues.{Config}
use Rattle.ynl_model.specs.Cluster.{State, free}
use Rattle.ynl_model.specs.Service.{Item, key, key_order, items_for, asks_for, first_of, is_eligible, eligible, within_maximum, within_user_limit, within_master_share, some_eligible, takes_guests, guests_for, choice, has_room as has_room_on}
use Rattle.ynl_model.specs.Check.{proposal_of, proposed}
use Rattle.ynl_sights.specs.Sights.{reach_of, tests_of, bid_of, offer_of, sighted, stays_within, keeps_share, passes, has_room, first_bid, open_bids, open_guests, chosen, planned, SightsDecide}

-- ---- lists whose elements are made of others

pub all-map : {X Y : Type 0} (f : X → Y) (test : Y → Bool) (xs : List X) → list_all test (map f xs) ≡ list_all (λ x. test (f x)) xs
all-map f test [] = refl
all-map f test (x ∷ xs) = ap (λ b. test (f x) && b) (all-map f test xs)

any-map : {X Y : Type 0} (f : X → Y) (test : Y → Bool) (other : X → Bool) → ((x : X) → test (f x) ≡ other x) → (xs : List X) → list_any test (map f xs) ≡ list_any other xs
any-map f test other same [] = refl
any-map f test other same (x ∷ xs) = λ i. same x i || any-map f test other same xs i

filter-map : {X Y : Type 0} (f : X → Y) (test : Y → Bool) (other : X → Bool) → ((x : X) → test (f x) ≡ other x) → (xs : List X) → filter test (map f xs) ≡ map f (filter other xs)
filter-map f test other same [] = refl
filter-map f test other same (x ∷ xs) = go (test (f x)) (other x) (same x) (filter-map f test other same xs)
  where
    go : (a b : Bool) → a ≡ b → filter test (map f xs) ≡ map f (filter other xs) → cond a (f x ∷ filter test (map f xs)) (filter test (map f xs)) ≡ map f (cond b (x ∷ filter other xs) (filter other xs))
    go a true e rest = ap (λ a. cond a (f x ∷ filter test (map f xs)) (filter test (map f xs))) e ∙ ap (λ ys. f x ∷ ys) rest
    go a false e rest = ap (λ a. cond a (f x ∷ filter test (map f xs)) (filter test (map f xs))) e ∙ rest

find-map : {X Y : Type 0} (f : X → Y) (test : Y → Bool) (other : X → Bool) → ((x : X) → test (f x) ≡ other x) → (xs : List X) → find test (map f xs) ≡ option_map f (find other xs)
find-map f test other same [] = refl
find-map f test other same (x ∷ xs) = go (test (f x)) (other x) (same x) (find-map f test other same xs)
  where
    go : (a b : Bool) → a ≡ b → find test (map f xs) ≡ option_map f (find other xs) → cond a (Some (f x)) (find test (map f xs)) ≡ option_map f (cond b (Some x) (find other xs))
    go a true e rest = ap (λ a. cond a (Some (f x)) (find test (map f xs))) e
    go a false e rest = ap (λ a. cond a (Some (f x)) (find test (map f xs))) e ∙ rest

-- the first of some requests, with or without what they are ordered by
first-of : (c : Config) (s : State) (label : Label) (items : List Item) → option_map (λ bid. bid.item) (first_bid (map (bid_of c s label) items)) ≡ first_of (key c s label) items
first-of c s label items =
    ap (option_map (λ bid. bid.item)) (find-map (bid_of c s label)
    (λ bid. list_all (λ other. not (is_gt (key_order bid.key other.key))) (map (bid_of c s label) items)) (λ item. list_all (λ other. not (is_gt (key_order (key c s label item) (key c s label other)))) items)
    (λ item. all-map (bid_of c s label) (λ other. not (is_gt (key_order (key c s label item) other.key))) items) items)
    ∙ go (first_of (key c s label) items)
  where
    go : (o : Option Item) → option_map (λ bid. bid.item) (option_map (bid_of c s label) o) ≡ o
    go None = refl
    go (Some item) = refl

-- ---- offers

within : (s : State) (label : Label) (item : Item) → list_all (stays_within item.size) (map (reach_of s label) (root ∷ way_to item.leaf)) ≡ within_maximum s label item
unfolding within_maximum
within s label item = all-map (reach_of s label) (stays_within item.size) (root ∷ way_to item.leaf)

share : (c : Config) (s : State) (label : Label) (item : Item) (what : What) → keeps_share what item.size (tests_of c s label item) ≡ within_master_share c s label item.leaf what item.size
unfolding within_master_share
share c s label item Master = refl
share c s label item (Asked asked priority) = refl

offer-passes : (c : Config) (s : State) (node : Node) (item : Item) → passes (free s node) (offer_of c s node.label item) ≡ is_eligible c s node item
unfolding is_eligible within_user_limit
offer-passes c s node item = λ i. fits_in item.size (free s node) && within s node.label item i && within_user_limit c s node.label item && share c s node.label item item.what i

-- ---- the choice

bids-open : (c : Config) (s : State) (node : Node) → open_bids (sighted c s node) ≡ map (bid_of c s node.label) (eligible c s node)
bids-open c s node =
    ap (map (λ offer. offer.bid)) (filter-map (offer_of c s node.label) (passes (free s node)) (is_eligible c s node) (offer-passes c s node) (items_for s node.label))
    ∙ over (eligible c s node)
  where
    over : (items : List Item) → map (λ offer. offer.bid) (map (offer_of c s node.label) items) ≡ map (bid_of c s node.label) items
    over [] = refl
    over (item ∷ items) = ap (λ bids. bid_of c s node.label item ∷ bids) (over items)

-- the guests that may be placed, by what was seen
guests-open : (c : Config) (s : State) (node : Node) → open_guests (sighted c s node) ≡ map (bid_of c s Unlabelled) (guests_for c s node)
unfolding guests_for
guests-open c s node = go (takes_guests c node.label) (list_any (passes (free s node)) (sighted c s node).offers) (some_eligible c s node)
    (any-map (offer_of c s node.label) (passes (free s node)) (is_eligible c s node) (offer-passes c s node) (items_for s node.label))
  where
    go : (takes a b : Bool) → a ≡ b →
        cond (not a) (filter (has_room (free s node)) (cond takes (map (bid_of c s Unlabelled) (asks_for s Unlabelled)) [])) []
        ≡ map (bid_of c s Unlabelled) (cond (takes && not b) (filter (λ item. has_room_on s node item.size) (asks_for s Unlabelled)) [])
    go true a true e = ap (λ a. cond (not a) (filter (has_room (free s node)) (map (bid_of c s Unlabelled) (asks_for s Unlabelled))) []) e
    go true a false e = ap (λ a. cond (not a) (filter (has_room (free s node)) (map (bid_of c s Unlabelled) (asks_for s Unlabelled))) []) e
        ∙ filter-map (bid_of c s Unlabelled) (has_room (free s node)) (λ item. has_room_on s node item.size) (λ item. refl) (asks_for s Unlabelled)
    go false true b e = refl
    go false false b e = refl

or-map : {X Y : Type 0} (f : X → Y) (a b : Option X) → option_map f (option_or a b) ≡ option_or (option_map f a) (option_map f b)
or-map f None b = refl
or-map f (Some x) b = refl

pub sights_choose : (c : Config) (s : State) (node : Node) → chosen (sighted c s node) ≡ choice c s node
unfolding choice
sights_choose c s node =
    or-map (λ bid. bid.item) (first_bid (open_bids (sighted c s node))) (first_bid (open_guests (sighted c s node)))
    ∙ (λ i. option_or
    ((ap (λ bids. option_map (λ bid. bid.item) (first_bid bids)) (bids-open c s node) ∙ first-of c s node.label (eligible c s node)) i)
    ((ap (λ bids. option_map (λ bid. bid.item) (first_bid bids)) (guests-open c s node) ∙ first-of c s Unlabelled (guests_for c s node)) i))

pub sights_decide : SightsDecide
unfolding planned proposed
sights_decide c s node = ap (option_map (proposal_of node)) (sights_choose c s node)
