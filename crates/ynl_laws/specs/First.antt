-- The first of some requests as a relation: one of them that no other is before. It speaks of no list's order, so it can be found in any way.
use Rattle.std.specs.Prelude.{◌≡◌, Bool, IsFalse, List, Option, Some, None}
use Rattle.std.specs.List.{Contains}
use Rattle.std.specs.Option.{option_or}
use Rattle.std.specs.Ordering.{is_gt}
use Rattle.ynl_resource.specs.declared.labels.Label.{Label}
use Rattle.ynl_resource.specs.declared.labels.Label.TheVariants.{Unlabelled}
use Rattle.ynl_model.specs.declared.nodes.Node.{Node}
use Rattle.ynl_model.specs.Queues.{Config}
use Rattle.ynl_model.specs.Cluster.{State}
use Rattle.ynl_model.specs.Service.{Item, Key, key, key_order, items_for, asks_for, eligible, guests_for, first_of, choice}
use Rattle.ynl_laws.specs.Tabled.{Tabled}
use Rattle.ynl_laws.specs.Untied.{AllDistinct, HaveOwnKeys}

-- one of those of which P holds, and no other of them is before it; or none, where P holds of nothing
abbrev pub IsFirst : {X : Type 0} → (X → X → Bool) → (X → Type 0) → Option X → Type 0
IsFirst {X} later P None = (x : X) → P x → ⊥
IsFirst {X} later P (Some x) = P x × ((y : X) → P y → IsFalse (later x y))

-- whether the second of two requests is before the first
abbrev pub is_later : (Item → Key) → Item → Item → Bool
is_later key_of a b = is_gt (key_order (key_of a) (key_of b))

-- what the definition finds in a list is the first of what the list contains
abbrev pub IsFirstFound : Type 0
IsFirstFound = (key_of : Item → Key) (items : List Item) → IsFirst (is_later key_of) (Contains items) (first_of key_of items)

-- where no two tie, no other is the first
abbrev pub IsFirstAlone : Type 0
IsFirstAlone = (key_of : Item → Key) (items : List Item) (o : Option Item) → HaveOwnKeys key_of items → IsFirst (is_later key_of) (Contains items) o → o ≡ first_of key_of items

-- no two requests for a partition tie, and no two of the asks that guests come from: `requests_do_not_tie` says it of each state
pub record AreUntied (c : Config) (s : State) : Type 0 where
  pub requests : (p : Label) → HaveOwnKeys (key c s p) (items_for s p)
  pub guests : HaveOwnKeys (key c s Unlabelled) (asks_for s Unlabelled)

-- that is so where leaves and applications are found by their names, and the asks of each application differ
abbrev pub AreTabledUntied : Type 0
AreTabledUntied = (c : Config) (s : State) → Tabled s → AllDistinct s.leaves → AreUntied c s

-- the first of the eligible requests on a node, or else the first of the guests, is the choice
abbrev pub IsFirstChosen : Config → State → Node → Type 0
IsFirstChosen c s node =
    (own guest : Option Item) → IsFirst (is_later (key c s node.label)) (Contains (eligible c s node)) own → IsFirst (is_later (key c s Unlabelled)) (Contains (guests_for c s node)) guest
    → option_or own guest ≡ choice c s node

-- that holds where no two tie
abbrev pub IsFirstChosenUntied : Type 0
IsFirstChosenUntied = (c : Config) (s : State) (node : Node) → AreUntied c s → IsFirstChosen c s node
