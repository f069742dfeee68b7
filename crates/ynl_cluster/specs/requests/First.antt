-- The first of the requests of a leaf that pass a test.
use Rattle.std.specs.Prelude.{◌≡◌, ◌⊎◌, ℕ, ◌<◌, true, false, nat_eq, Bool, List, [], ◌∷◌, filter, Option, Some, None, option_map}
use Rattle.std.specs.Cmp.Lexicographic.{slice_cmp}
use Rattle.std.specs.List.{Contains}
use Rattle.std.specs.Map.{lookup}
use Rattle.std.specs.Ordering.{is_gt, nat_cmp}
use Rattle.ynl_resource.specs.declared.labels.Label.{Label}
use Rattle.ynl_model.specs.Queues.{Config}
use Rattle.ynl_model.specs.Service.{Item, key}
use Rattle.ynl_model.specs.declared.queues.StopRow.{StopRow}
use Rattle.ynl_model.specs.declared.queues.MaximumRow.{MaximumRow}
use Rattle.ynl_laws.specs.Descent.{IsBelow}
use Rattle.ynl_laws.specs.First.{IsFirst, is_later}
use Rattle.ynl_inventory.specs.layout.Paths.{path_at}
use Rattle.ynl_tables.specs.declared.containers.container.Role.{Role}
use Rattle.ynl_tables.specs.declared.containers.container.Role.TheVariants.{Master, Ask as Asked}
use Rattle.ynl_inventory.specs.Rows.{Rows, AppRow}
use Rattle.ynl_inventory.specs.Meaning.{state_of}
use Rattle.ynl_inventory.specs.Sound.{IsLeaf, IsSound}
use Rattle.ynl_cluster.specs.requests.Laws.{AreListed, place_of}
use Rattle.ynl_cluster.specs.requests.Requests.{Request, Wants, item_for}

-- within an application the master comes first, and then the asks by priority
abbrev pub rank_of : Role → List ℕ
rank_of Master = 0 ∷ []
rank_of (Asked p priority) = 1 ∷ priority ∷ []

-- whether a request of an application comes after another of it
abbrev pub ranks_after : Request → Request → Bool
ranks_after r other = is_gt (slice_cmp nat_cmp (rank_of r.role) (rank_of other.role))

-- a request of a live application of a leaf
pub record Asker : Type 0 where
  pub number : ℕ
  pub row : AppRow
  pub request : Request

module _ (v : Rows) (among : ℕ → AppRow → List Request) (test : Item → Bool) (q : ℕ) where
  -- it is one of those of the leaf that pass the test
  pub record IsPassing (a : Asker) : Type 0 where
    pub found : lookup (nat_eq a.number) v.apps ≡ Some a.row
    pub own : a.row.leaf ≡ q
    pub there : Contains (among a.number a.row) a.request
    pub passes : test (item_for v a.row a.request) ≡ true

  -- it does not come after another: its application stands before the other's, or it is the same, and the request does not rank after the other
  abbrev pub IsNotAfter : Asker → Asker → Type 0
  IsNotAfter a other = (place_of v a.number < place_of v other.number) ⊎ ((other.number ≡ a.number) × (ranks_after a.request other.request ≡ false))

  -- it is the first of them, or there is none
  abbrev pub IsFirstPassing : Option Asker → Type 0
  IsFirstPassing None = (other : Asker) → IsPassing other → ⊥
  IsFirstPassing (Some a) = IsPassing a × ((other : Asker) → IsPassing other → IsNotAfter a other)

-- what the model has of it
abbrev pub item_by : Rows → Asker → Item
item_by v a = item_for v a.row a.request

-- the first of a leaf's requests is the model's first below the leaf
abbrev pub FirstIsModel : Type 0
FirstIsModel =
    (v : Rows) → IsSound v → (stops : List StopRow) (maxima : List MaximumRow) (q : ℕ) → IsLeaf v q → AreListed v stops maxima q
    → (among : ℕ → AppRow → List Request) (items : List Item) → ((item : Item) → Contains items item → Wants v among item) → ((item : Item) → Wants v among item → Contains items item)
    → (test : Item → Bool) (found : Option Asker) → IsFirstPassing v among test q found
    → (c : Config) (label : Label)
    → IsFirst (is_later (key c (state_of v stops maxima) label)) (IsBelow (filter test items) (path_at v.paths q)) (option_map (item_by v) found)
