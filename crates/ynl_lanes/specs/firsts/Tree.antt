-- A binary tree in one list: the root at 1, the parent of the node at i at i / 2, and the leaves in the second half.
use Rattle.std.specs.Prelude.{◌≡◌, ◌≢◌, ℕ, ◌*◌, ◌/◌, ◌-◌, ◌^◌, ◌<◌, ◌≤◌, List, ◌++◌, length, drop, replicate, slice_index_or}

-- the leaves, which are the values in the places
abbrev pub values_of : {T : Type 0} → List T → List T
values_of tree = drop (length tree / 2) tree

-- the values, and behind them none up to so many
abbrev pub filled_up : {T : Type 0} → T → ℕ → List T → List T
filled_up none room values = values ++ replicate (room - length values) none

-- the node at i is at or above its parent
abbrev pub IsAboveParent : {T : Type 0} → (T → T → Type 0) → List T → ℕ → Type 0
IsAboveParent {T} below tree i = (d : T) → below (slice_index_or tree (i / 2) d) (slice_index_or tree i d)

-- each node but the root is at or above its parent
abbrev pub IsOrdered : {T : Type 0} → (T → T → Type 0) → List T → Type 0
IsOrdered below tree = (i : ℕ) → 2 ≤ i → i < length tree → IsAboveParent below tree i

-- and so it is but for the children of one node
abbrev pub IsOrderedBut : {T : Type 0} → (T → T → Type 0) → ℕ → List T → Type 0
IsOrderedBut below parent tree = (i : ℕ) → 2 ≤ i → i < length tree → i / 2 ≢ parent → IsAboveParent below tree i

-- there are as many leaves as other nodes, of which the one at 0 is not used, and few enough to add two of their numbers
pub record IsShape {T : Type 0} (tree : List T) : Type 0 where
  pub even : 2 * (length tree / 2) ≡ length tree
  pub small : length tree < 2 ^ 63

-- and they are ordered
pub record IsTree {T : Type 0} (below : T → T → Type 0) (tree : List T) : Type 0 where
  pub shape : IsShape tree
  pub ordered : IsOrdered below tree
