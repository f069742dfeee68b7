-- What decides between two requests: the queues from root down, and within one leaf the order of submission and then the rank.
use Rattle.std.specs.Prelude.{◌≡◌, IsTrue, [], ◌∷◌, ◌++◌}
use Rattle.std.specs.Cmp.Lexicographic.{slice_cmp}
use Rattle.std.specs.Ordering.{nat_cmp, ordering_then}
use Rattle.std.specs.declared.cmp.Ordering.TheVariants.{Less, Equal}
use Rattle.ynl_resource.specs.Names.{is_within}
use Rattle.ynl_resource.specs.declared.names.Name.{Name}
use Rattle.ynl_resource.specs.declared.labels.Label.{Label}
use Rattle.ynl_resource.specs.declared.paths.Path.{Path}
use Rattle.ynl_model.specs.Queues.{Config}
use Rattle.ynl_model.specs.Cluster.{State}
use Rattle.ynl_model.specs.Service.{Item, key, key_order, standing, standing_order, place_in_leaf, rank}

-- the child of a queue that has a name
abbrev pub below : Path → Name → Path
below queue name = queue ++ name ∷ []

-- of requests below two children of a queue those below the child with the lesser standing are first, whatever stands below
abbrev pub DoQueuesDecide : Type 0
DoQueuesDecide =
    (c : Config) (s : State) (p : Label) (queue : Path) (m n : Name) (a b : Item) → IsTrue (is_within (below queue m) a.leaf) → IsTrue (is_within (below queue n) b.leaf)
    → standing_order (standing c s p (below queue m)) (standing c s p (below queue n)) ≡ Less → key_order (key c s p a) (key c s p b) ≡ Less

-- two children of a queue whose standings tie are one child
abbrev pub DoSiblingsNotTie : Type 0
DoSiblingsNotTie = (c : Config) (s : State) (p : Label) (queue : Path) (m n : Name) → standing_order (standing c s p (below queue m)) (standing c s p (below queue n)) ≡ Equal → m ≡ n

-- of requests of one leaf those of the application that was submitted first are first, and of one application the lower rank
abbrev pub DoesSubmissionDecide : Type 0
DoesSubmissionDecide =
    (c : Config) (s : State) (p : Label) (a b : Item) → a.leaf ≡ b.leaf
    → key_order (key c s p a) (key c s p b) ≡ ordering_then (nat_cmp (place_in_leaf s a.leaf a.app) (place_in_leaf s b.leaf b.app)) (slice_cmp nat_cmp (rank a.what) (rank b.what))
