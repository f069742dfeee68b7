-- Nodes that are dealt out.
use Rattle.std.specs.Prelude.{◌≡◌, ℕ, ◌+◌, ◌%◌, ◌<◌, ◌==◌, if◌then◌else◌, List, [], ◌∷◌, length, count_by, slice_index_or, Vec}
use Rattle.std.specs.List.{flat_map}
use Rattle.std.specs.List.Sorted.{IsSorted}
use Rattle.std.specs.Ordering.{nat_cmp}
use Rattle.std.specs.Cmp.Lexicographic.{slice_cmp}
use Rattle.std.specs.declared.alloc.Global.{Global}
use Rattle.ynl_resource.specs.declared.names.Name.{Name}
use Rattle.ynl_resource.specs.Names.{same_name}

-- how often a node stands in a list
abbrev pub times_in : Name → List Name → ℕ
times_in node nodes = count_by (λ other. same_name other node) nodes

-- the nodes of all lists, list by list
abbrev pub all_dealt : List (Vec Name Global) → List Name
all_dealt lists = flat_map (λ list. list.items) lists

-- each node stands in the lists as often as in these
abbrev pub AreDealt : List Name → List (Vec Name Global) → Type 0
AreDealt nodes lists = (node : Name) → times_in node (all_dealt lists) ≡ times_in node nodes

-- the nodes whose numbers, counted from n, leave k where they are divided by the count
abbrev pub every : ℕ → ℕ → ℕ → List Name → List Name
every count k n [] = []
every count k n (node ∷ nodes) = if n % count == k then node ∷ every count k (n + 1) nodes else every count k (n + 1) nodes

-- the nodes stand in the lists in turn: the first in the first list, and so on, and after the last list in the first again
abbrev pub AreInTurn : List Name → List (Vec Name Global) → Type 0
AreInTurn nodes lists = (k : ℕ) (list : Vec Name Global) → k < length lists → (slice_index_or lists k list).items ≡ every (length lists) k 0 nodes

-- names in byte order
abbrev pub AreInOrder : List Name → Type 0
AreInOrder names = IsSorted (slice_cmp nat_cmp) names
