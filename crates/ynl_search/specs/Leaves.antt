-- What the requests of a leaf are tested against, and what the model says of it.
use Rattle.std.specs.Prelude.{◌≡◌, ℕ, Bool, ◌&&◌, ◌||◌, not, if◌then◌else◌}
use Rattle.ynl_resource.specs.Amounts.{fits_in, plus}
use Rattle.ynl_resource.specs.declared.amounts.Resource.{Resource}
use Rattle.ynl_resource.specs.declared.labels.Label.{Label}
use Rattle.ynl_resource.specs.declared.paths.Path.{Path}
use Rattle.ynl_model.specs.Queues.{Config, setting}
use Rattle.ynl_model.specs.Cluster.{State, free, is_master_what, masters_used, user_used}
use Rattle.ynl_model.specs.Limits.{master_limit, user_limit, users}
use Rattle.ynl_model.specs.Service.{Item, is_eligible, no_master_in}
use Rattle.ynl_model.specs.declared.nodes.Node.{Node}
use Rattle.ynl_model.specs.declared.queues.LeafSettings.{LeafSettings}
use Rattle.ynl_model.specs.declared.uses.Use.{Use}
use Rattle.ynl_laws.specs.Uses.{use_of}
use Rattle.ynl_search.specs.limits.Limits.{limit_of}
use Rattle.ynl_search.specs.declared.leaf.LeafTests.{LeafTests}
use Rattle.ynl_search.specs.Places.{allows, can_take}

-- what is kept of a leaf is what the model says of it
pub record IsLeafKept (c : Config) (s : State) (label : Label) (leaf : Path) (settings : LeafSettings) (kept : Use) (users_there : ℕ) : Type 0 where
  pub percent : settings.minimum_user_limit_percent ≡ setting (λ row. row.leaf.minimum_user_limit_percent) 0 c leaf
  pub factor : settings.user_limit_factor ≡ setting (λ row. row.leaf.user_limit_factor) 0 c leaf
  pub share : settings.maximum_am_resource_percent ≡ setting (λ row. row.leaf.maximum_am_resource_percent) 0 c leaf
  pub uses : kept ≡ use_of s label leaf
  pub users : users_there ≡ users s leaf label

-- whether a user that uses so much keeps the user limit with so much more
abbrev pub keeps_limit : LeafTests → Resource → Resource → Bool
keeps_limit tests used size = fits_in (plus used size) (limit_of tests.limits size)

-- whether one more master of this size keeps the master limit, or is the only one
abbrev pub keeps_share : LeafTests → Resource → Bool
keeps_share tests size = not tests.has_master || fits_in (plus tests.masters size) tests.master_limit

-- whether an ask of a user that uses so much may be placed
abbrev pub passes_ask : LeafTests → Resource → Resource → Bool
passes_ask tests used size = allows tests.headroom size && keeps_limit tests used size

-- and a master
abbrev pub passes_master : LeafTests → Resource → Resource → Bool
passes_master tests used size = passes_ask tests used size && keeps_share tests size

-- whether a request may be placed, by the tests of its leaf
abbrev pub passes : LeafTests → Resource → Item → Bool
passes tests used item = if is_master_what item.what then passes_master tests used item.size else passes_ask tests used item.size

-- what a leaf's requests are tested against is what the model says of it
pub record AreTests (c : Config) (s : State) (label : Label) (free_there : Resource) (leaf : Path) (tests : LeafTests) : Type 0 where
  pub headroom : (size : Resource) → allows tests.headroom size ≡ can_take s label free_there leaf size
  pub limit : (size : Resource) → limit_of tests.limits size ≡ user_limit c s leaf label size
  pub masters : tests.masters ≡ masters_used s leaf label
  pub master_limit : tests.master_limit ≡ master_limit c s leaf label
  pub has_master : not tests.has_master ≡ no_master_in s leaf label

-- the same of all but its headroom
pub record AreLimits (c : Config) (s : State) (label : Label) (leaf : Path) (tests : LeafTests) : Type 0 where
  pub limit : (size : Resource) → limit_of tests.limits size ≡ user_limit c s leaf label size
  pub masters : tests.masters ≡ masters_used s leaf label
  pub master_limit : tests.master_limit ≡ master_limit c s leaf label
  pub has_master : not tests.has_master ≡ no_master_in s leaf label

-- then they tell of each request of the leaf whether it is eligible on a node of the partition that has so much free
abbrev pub TestsTell : Type 0
TestsTell =
    (c : Config) (s : State) (label : Label) (leaf : Path) (tests : LeafTests) (node : Node) (item : Item) → AreTests c s label (free s node) leaf tests → node.label ≡ label → item.leaf ≡ leaf
    → passes tests (user_used s leaf item.user label) item ≡ is_eligible c s node item
