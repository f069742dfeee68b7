-- What a descent looks for: below a queue, the first of some requests in the order of service.
use Rattle.std.specs.Prelude.{◌≡◌, ℕ, ◌<◌, List, [], length, slice_index_or, Option, None}
use Rattle.ynl_resource.specs.declared.names.Name.{Name}
use Rattle.ynl_resource.specs.declared.labels.Label.{Label}
use Rattle.ynl_resource.specs.declared.paths.Path.{Path}
use Rattle.ynl_model.specs.Queues.{Config}
use Rattle.ynl_model.specs.Cluster.{State}
use Rattle.ynl_model.specs.Service.{Item, Standing as Stands, key, standing}
use Rattle.ynl_laws.specs.Decided.{below}
use Rattle.ynl_laws.specs.Descent.{IsBelow, IsBelowSome}
use Rattle.ynl_laws.specs.First.{IsFirst, is_later}

-- some requests in a state, and the partition whose ratios order them
pub record Scene : Type 0 where
  pub config : Config
  pub state : State
  pub label : Label
  pub items : List Item

-- a queue of a scene: its path, and the names of the queues just below it
pub record Branch : Type 0 where
  pub scene : Scene
  pub path : Path
  pub children : List Name

-- it is the first of the requests below a queue, or there is none
abbrev pub IsFirstBelow : Scene → Path → Option Item → Type 0
IsFirstBelow scene queue found = IsFirst (is_later (key scene.config scene.state scene.label)) (IsBelow scene.items queue) found

-- no request stands below a queue
abbrev pub HasNone : Scene → Path → Type 0
HasNone scene queue = IsFirstBelow scene queue None

module _ (b : Branch) where
  -- it is the first of the requests below the branch
  abbrev pub IsFirstOf : Option Item → Type 0
  IsFirstOf found = IsFirstBelow b.scene b.path found

  -- each request below the branch stands below one of its children
  abbrev pub AreAllBelow : Type 0
  AreAllBelow = (item : Item) → IsBelow b.scene.items b.path item → IsBelowSome b.scene.items b.path b.children item

  -- there is a child in this place
  abbrev pub HasPlace : ℕ → Type 0
  HasPlace place = place < length b.children

  -- its name, its path, and how it stands
  abbrev pub name_at : ℕ → Name
  name_at place = slice_index_or b.children place []

  abbrev pub path_at : ℕ → Path
  path_at place = below b.path (name_at place)

  abbrev pub stands : Name → Stands
  stands name = standing b.scene.config b.scene.state b.scene.label (below b.path name)

  abbrev pub stands_at : ℕ → Stands
  stands_at place = stands (name_at place)

  -- no request stands below it
  abbrev pub HasNoneAt : ℕ → Type 0
  HasNoneAt place = HasNone b.scene (path_at place)

  -- another branch is that child
  pub record IsChildAt (place : ℕ) (child : Branch) : Type 0 where
    pub scene : child.scene ≡ b.scene
    pub path : child.path ≡ path_at place
