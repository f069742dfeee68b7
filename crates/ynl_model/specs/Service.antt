-- Which request is served: what is eligible on a node, the order of service, and the choice.
use Rattle.std.specs.Prelude.{ℕ, ◌*◌, Bool, true, not, ◌&&◌, ◌||◌, ◌==◌, nat_lt, List, [], ◌∷◌, ◌++◌, map, filter, find, flat_map, Option, if◌then◌else◌}
use Rattle.std.specs.List.{list_any, list_all, position_or_len}
use Rattle.std.specs.Option.{option_or}
use Rattle.std.specs.Ordering.{nat_cmp, ordering_then, is_gt}
use Rattle.std.specs.declared.cmp.Ordering.{Ordering}
use Rattle.std.specs.declared.cmp.Ordering.TheVariants.{Less, Equal, Greater}
use Rattle.std.specs.Cmp.Lexicographic.{slice_cmp}
use Rattle.ynl_resource.specs.Amounts.{plus, fits_in}
use Rattle.ynl_resource.specs.declared.amounts.Resource.{Resource}
use Rattle.ynl_resource.specs.Names.{same_name, name_order, same_label, is_default, root, way_to}
use Rattle.ynl_resource.specs.declared.names.Name.{Name}
use Rattle.ynl_resource.specs.declared.labels.Label.{Label}
use Rattle.ynl_resource.specs.declared.labels.Label.TheVariants.{Unlabelled}
use Rattle.ynl_resource.specs.declared.paths.Path.{Path}
use Rattle.ynl_model.specs.Nodes.{Node, is_exclusive}
use Rattle.ynl_model.specs.Queues.{Config}
use Rattle.ynl_model.specs.Applications.{Application, apps_of, all_apps}
use Rattle.ynl_model.specs.declared.applications.AskRow.{AskRow}
use Rattle.ynl_model.specs.Cluster.{State, What, Master, Asked, free, waits, runs, used, user_used, masters_used, maximum, guaranteed, is_master, counted}
use Rattle.ynl_model.specs.Limits.{user_limit, master_limit}

-- a request that could be placed: of which leaf, application and user, for what, and how large
pub record Item : Type 0 where
  pub leaf : Path
  pub app : Name
  pub user : Name
  pub what : What
  pub size : Resource

-- a request of an application
abbrev pub item_of : Application → What → Resource → Item
item_of app what size = record { leaf = app.leaf; app = app.name; user = app.user; what = what; size = size }

-- the request for an application's master
abbrev pub master_item : Application → Item
master_item app = item_of app Master app.master

-- the request of an ask
abbrev pub ask_item : Application → AskRow → Item
ask_item app ask = item_of app (Asked ask.label ask.priority) ask.size

-- the masters wanted on a partition: of the waiting applications whose home label it is
abbrev pub masters_for : State → Label → List Item
masters_for s label = map master_item (filter (λ app. waits s app && same_label app.home label) (all_apps s.leaves))

-- what an application asks for on a label
abbrev pub asks_of : Label → Application → List Item
asks_of label app = map (ask_item app) (filter (λ ask. same_label ask.label label && nat_lt 0 ask.count) app.asks)

-- what the running applications ask for on a label
unfoldable pub asks_for : State → Label → List Item
asks_for s label = flat_map (asks_of label) (filter (runs s) (all_apps s.leaves))

-- the requests for a partition
unfoldable pub items_for : State → Label → List Item
items_for s label = masters_for s label ++ asks_for s label

-- whether a size fits what is free on a node
abbrev pub has_room : State → Node → Resource → Bool
has_room s node size = fits_in size (free s node)

-- whether each queue from root to the leaf stays within its maximum with so much more
unfoldable pub within_maximum : State → Label → Item → Bool
within_maximum s label item =
    list_all (λ queue. fits_in (plus (used s queue label) item.size) (maximum s queue label)) (root ∷ way_to item.leaf)

-- whether the user stays within the user limit of the leaf
unfoldable pub within_user_limit : Config → State → Label → Item → Bool
within_user_limit c s label item =
    fits_in (plus (user_used s item.leaf item.user label) item.size) (user_limit c s item.leaf label item.size)

-- whether no master of the leaf holds a container on the partition
abbrev pub no_master_in : State → Path → Label → Bool
no_master_in s leaf label = not (list_any is_master (counted s leaf label))

-- whether one more master is within the master limit, or the only one of the leaf
abbrev pub takes_master : Config → State → Label → Path → Resource → Bool
takes_master c s label leaf size = fits_in (plus (masters_used s leaf label) size) (master_limit c s leaf label) || no_master_in s leaf label

-- whether a request keeps the master share, which is tested for masters alone
unfoldable pub within_master_share : Config → State → Label → Path → What → Resource → Bool
within_master_share c s label leaf Master size = takes_master c s label leaf size
within_master_share c s label leaf (Asked asked priority) size = true

-- whether a request for the node's partition may be placed on the node
unfoldable pub is_eligible : Config → State → Node → Item → Bool
is_eligible c s node item =
    has_room s node item.size && within_maximum s node.label item && within_user_limit c s node.label item
    && within_master_share c s node.label item.leaf item.what item.size

-- the eligible requests on a node
abbrev pub eligible : Config → State → Node → List Item
eligible c s node = filter (is_eligible c s node) (items_for s node.label)

-- whether any request is eligible on a node
abbrev pub some_eligible : Config → State → Node → Bool
some_eligible c s node = list_any (is_eligible c s node) (items_for s node.label)

-- whether a partition takes guests: it is not exclusive, and not DEFAULT
abbrev pub takes_guests : Config → Label → Bool
takes_guests c label = not (is_default label) && not (is_exclusive c.labels label)

-- the requests that may be placed on a node as guests: asks for DEFAULT that fit, where nothing is eligible
unfoldable pub guests_for : Config → State → Node → List Item
guests_for c s node =
    if takes_guests c node.label && not (some_eligible c s node)
    then filter (λ item. has_room s node item.size) (asks_for s Unlabelled)
    else []

-- how much of its guarantee a queue uses, by memory
pub record Ratio : Type 0 where
  pub used : ℕ
  pub guaranteed : ℕ

-- ratios compare as fractions; one over 0 comes after every other
abbrev pub ratio_order : Ratio → Ratio → Ordering
ratio_order a b =
    if a.guaranteed == 0
    then (if b.guaranteed == 0 then Equal else Greater)
    else (if b.guaranteed == 0 then Less else nat_cmp (a.used * b.guaranteed) (b.used * a.guaranteed))

-- how a queue stands among its siblings: by its ratio, and where those are equal by its name
pub record Standing : Type 0 where
  pub ratio : Ratio
  pub name : Name

-- the smaller ratio first, ties by name
abbrev pub standing_order : Standing → Standing → Ordering
standing_order a b = ordering_then (ratio_order a.ratio b.ratio) (name_order a.name b.name)

-- the last name of a path
abbrev pub last_name : Path → Name
last_name [] = []
last_name (name ∷ []) = name
last_name (name ∷ next ∷ path) = last_name (next ∷ path)

-- how a queue stands on a partition
abbrev pub standing : Config → State → Label → Path → Standing
standing c s label queue = record {
  ratio = record { used = (used s queue label).memory; guaranteed = (guaranteed c s queue label).memory };
  name = last_name queue;
}

-- an application's place among the live ones of its leaf, in the order of submission
abbrev pub place_in_leaf : State → Path → Name → ℕ
place_in_leaf s leaf name = position_or_len (λ app. same_name app.name name) (apps_of s.leaves leaf)

-- within an application the master first, and then the asks by priority
abbrev pub rank : What → List ℕ
rank Master = 0 ∷ []
rank (Asked label priority) = 1 ∷ priority ∷ []

-- what requests are ordered by: how the queues on the way to the leaf stand, the place in the leaf, and the rank in the application
pub record Key : Type 0 where
  pub standings : List Standing
  pub turn : List ℕ

-- the key of a request, with the ratios on a partition
unfoldable pub key : Config → State → Label → Item → Key
key c s label item = record {
  standings = map (standing c s label) (way_to item.leaf);
  turn = place_in_leaf s item.leaf item.app ∷ rank item.what;
}

-- keys compare from the left
abbrev pub key_order : Key → Key → Ordering
key_order a b = ordering_then (slice_cmp standing_order a.standings b.standings) (slice_cmp nat_cmp a.turn b.turn)

-- whether no request of a list is before this one
abbrev pub is_first : (Item → Key) → List Item → Item → Bool
is_first key_of items item = list_all (λ other. not (is_gt (key_order (key_of item) (key_of other)))) items

-- the request that no other is before
abbrev pub first_of : (Item → Key) → List Item → Option Item
first_of key_of items = find (is_first key_of items) items

-- the choice on a node: the first eligible request, or else the first guest, with the ratios on DEFAULT
unfoldable pub choice : Config → State → Node → Option Item
choice c s node = option_or (first_of (key c s node.label) (eligible c s node)) (first_of (key c s Unlabelled) (guests_for c s node))
