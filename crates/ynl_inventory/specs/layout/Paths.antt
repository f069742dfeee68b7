-- Queues under numbers. The paths that are named here are those of the queues below root, whose own number is 0.
use Rattle.std.specs.Prelude.{◌≡◌, ◌≢◌, true, Bool, ℕ, ◌+◌, ◌<◌, List, ◌∷◌, length, map, take, slice_index_or, Vec}
use Rattle.std.specs.declared.alloc.Global.{Global}
use Rattle.std.specs.List.{All, Contains}
use Rattle.std.specs.List.Sorted.{IsStrictlySortedBy}
use Rattle.ynl_resource.specs.Names.{root, name_order, is_within}
use Rattle.ynl_resource.specs.declared.names.Name.{Name}
use Rattle.ynl_resource.specs.declared.paths.Path.{Path}
use Rattle.ynl_model.specs.Queues.{Config}
use Rattle.ynl_model.specs.Service.{last_name}
use Rattle.ynl_laws.specs.Decided.{below}

-- the paths of a configuration's queues, in its order
abbrev pub paths_of : Config → List Path
paths_of c = map (λ row. row.path) c.queues

module _ (paths : List Path) where
  -- there is a queue of this number
  abbrev pub HasNumber : ℕ → Type 0
  HasNumber n = n < length (root ∷ paths)

  -- its path
  abbrev pub path_at : ℕ → Path
  path_at n = slice_index_or (root ∷ paths) n root

  -- whether a queue stands above the queue of this number, or is that queue
  abbrev pub is_above : ℕ → Path → Bool
  is_above n queue = is_within queue (path_at n)

  -- a queue has its own path and the parent's number
  pub record HasParent (n : ℕ) : Type 0 where
    pub parent : ℕ
    pub there : HasNumber parent
    pub above : path_at n ≡ below (path_at parent) (last_name (path_at n))

  -- no two queues have one path, and each but root stands just below another
  pub record IsTree : Type 0 where
    pub apart : (n m : ℕ) → HasNumber n → HasNumber m → path_at n ≡ path_at m → n ≡ m
    pub parents : (n : ℕ) → 0 < n → HasNumber n → HasParent n

  -- the numbers of the queues on the way from root to a queue, both among them
  pub record IsLine (n : ℕ) (line : List ℕ) : Type 0 where
    pub len : length line ≡ length (path_at n) + 1
    pub there : (i d : ℕ) → i < length line → HasNumber (slice_index_or line i d)
    pub path : (i d : ℕ) → i < length line → path_at (slice_index_or line i d) ≡ take i (path_at n)

  -- the names of queues
  abbrev pub names_of : List ℕ → List Name
  names_of numbers = map (λ n. last_name (path_at n)) numbers

  -- a queue stands just below another
  pub record IsChild (n child : ℕ) : Type 0 where
    pub there : HasNumber child
    pub path : path_at child ≡ below (path_at n) (last_name (path_at child))

  -- the numbers of all queues just below a queue, in the order of their names
  pub record AreChildren (n : ℕ) (numbers : List ℕ) : Type 0 where
    pub order : IsStrictlySortedBy name_order (names_of numbers)
    pub each : All (IsChild n) numbers
    pub all : (child : ℕ) → IsChild n child → Contains numbers child

  -- a queue of this name stands just below another
  pub record IsChildOf (n : ℕ) (name : Name) (child : ℕ) : Type 0 where
    pub there : HasNumber child
    pub path : path_at child ≡ below (path_at n) name

  -- none does
  abbrev pub HasNoChild : ℕ → Name → Type 0
  HasNoChild n name = (child : ℕ) → HasNumber child → path_at child ≢ below (path_at n) name

  -- a number is that of the queue of a path
  pub record IsNumberOf (queue : Path) (n : ℕ) : Type 0 where
    pub there : HasNumber n
    pub path : path_at n ≡ queue

  -- none is
  abbrev pub HasNoNumber : Path → Type 0
  HasNoNumber queue = (n : ℕ) → HasNumber n → path_at n ≢ queue

  -- each queue below a queue stands in one of these, or below it
  abbrev pub CoverBelow : ℕ → List ℕ → Type 0
  CoverBelow n numbers =
      (m : ℕ) → HasNumber m → n ≢ m → is_above m (path_at n) ≡ true
      → (child : ℕ) × Contains numbers child × (is_above m (path_at child) ≡ true)

  -- the queues are a tree, and each has its line
  pub record AreLines (lines : List (Vec ℕ Global)) : Type 0 where
    pub tree : IsTree
    pub many : length lines ≡ length (root ∷ paths)
    pub each : (n : ℕ) (d : Vec ℕ Global) → HasNumber n → IsLine n (slice_index_or lines n d).items

  -- each has its children
  pub record HaveChildren (lists : List (Vec ℕ Global)) : Type 0 where
    pub many : length lists ≡ length (root ∷ paths)
    pub each : (n : ℕ) (d : Vec ℕ Global) → HasNumber n → AreChildren n (slice_index_or lists n d).items
