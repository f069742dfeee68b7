-- The chains of the containers of a node, or of an application.
use Rattle.std.specs.Prelude.{◌≡◌, ◌≢◌, ℕ, List, ◌∷◌, ◌++◌, filter, map, nat_eq, Option, Some, None, option_map, IfSome, IfNone}
use Rattle.std.specs.List.{AllByRecursion}
use Rattle.std.specs.Map.{lookup}
use Rattle.ynl_slots.specs.declared.chain.Links.{Links}
use Rattle.ynl_slots.specs.declared.chain.Chain.{Chain}
use Rattle.ynl_slots.specs.Chain.{IsChain, first_or}
use Rattle.ynl_tables.specs.declared.containers.container.Container.{Container}
use Rattle.ynl_tables.specs.containers.Table.{Table}

-- the numbers of the rows with this key, in their order
abbrev pub numbers_of : {X : Type 0} → (X → ℕ) → ℕ → List (ℕ × X) → List ℕ
numbers_of key k entries = map (λ e. e.0) (filter (λ e. nat_eq (key e.1) k) entries)

-- the chain has just the numbers of the rows with this key, in their order
abbrev pub IsChainOf : {X : Type 0} → (X → ℕ) → List (ℕ × Links) → List (ℕ × X) → Chain → ℕ → Type 0
IsChainOf key links entries chain k = IsChain (λ n. lookup (nat_eq n) links) chain (numbers_of key k entries)

-- the chain has just the containers of the node, in the order of placement
abbrev pub IsNodeChain : Table → Chain → ℕ → Type 0
IsNodeChain t chain node = IsChainOf (λ c. c.node) t.of_node t.entries chain node

-- and so with an application
abbrev pub IsAppChain : Table → Chain → ℕ → Type 0
IsAppChain t chain app = IsChainOf (λ c. c.app) t.of_app t.entries chain app

-- the chain of each other node is still its chain
abbrev pub KeepsNodes : ℕ → Table → Table → Type 0
KeepsNodes node old new = (other : ℕ) (chain : Chain) → other ≢ node → IsNodeChain old chain other → IsNodeChain new chain other

-- and so with each other application
abbrev pub KeepsApps : ℕ → Table → Table → Type 0
KeepsApps app old new = (other : ℕ) (chain : Chain) → other ≢ app → IsAppChain old chain other → IsAppChain new chain other

-- the first row of the key, if there is one
pub record IsFirst {X : Type 0} (key : X → ℕ) (k : ℕ) (entries : List (ℕ × X)) (first : Option ℕ) : Type 0 where
  pub number : first ≡ first_or None (numbers_of key k entries)
  pub own : IfSome first (λ n. option_map key (lookup (nat_eq n) entries) ≡ Some k)
  pub none : IfNone first (AllByRecursion (λ e. key e.1 ≢ k) entries)

-- the row of the key that comes next after the one under n, if there is one
pub record IsNext {X : Type 0} (key : X → ℕ) (k : ℕ) (entries : List (ℕ × X)) (n : ℕ) (next : Option ℕ) : Type 0 where
  pub number : (front back : List ℕ) → numbers_of key k entries ≡ front ++ n ∷ back → next ≡ first_or None back
  pub own : IfSome next (λ m. option_map key (lookup (nat_eq m) entries) ≡ Some k)

-- the first container of a node, if the chain is the node's
abbrev pub IsFirstOfNode : Table → Chain → Option ℕ → Type 0
IsFirstOfNode t chain first = (node : ℕ) → IsNodeChain t chain node → IsFirst (λ c. c.node) node t.entries first

-- and of an application
abbrev pub IsFirstOfApp : Table → Chain → Option ℕ → Type 0
IsFirstOfApp t chain first = (app : ℕ) → IsAppChain t chain app → IsFirst (λ c. c.app) app t.entries first

-- the next container of the same node, if it has a chain
abbrev pub IsNextOfNode : Table → ℕ → Option ℕ → Type 0
IsNextOfNode t number next =
    (c : Container) (chain : Chain) → lookup (nat_eq number) t.entries ≡ Some c → IsNodeChain t chain c.node
    → IsNext (λ x. x.node) c.node t.entries number next

-- and of the same application
abbrev pub IsNextOfApp : Table → ℕ → Option ℕ → Type 0
IsNextOfApp t number next =
    (c : Container) (chain : Chain) → lookup (nat_eq number) t.entries ≡ Some c → IsAppChain t chain c.app
    → IsNext (λ x. x.app) c.app t.entries number next
