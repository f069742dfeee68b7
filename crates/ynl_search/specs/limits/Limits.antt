-- The user limit of a leaf on a partition, by the numbers of the leaf there.
use Rattle.std.specs.Prelude.{◌≡◌, IsTrue}
use Rattle.ynl_resource.specs.Amounts.{plus, greater_of, smaller_of, scale_ceil, fits_in}
use Rattle.ynl_resource.specs.Ranges.{whole}
use Rattle.ynl_resource.specs.declared.amounts.Resource.{Resource}
use Rattle.ynl_resource.specs.declared.labels.Label.{Label}
use Rattle.ynl_resource.specs.declared.paths.Path.{Path}
use Rattle.ynl_model.specs.Queues.{Config, setting}
use Rattle.ynl_model.specs.Cluster.{State, used, guaranteed}
use Rattle.ynl_model.specs.Limits.{users, user_cap, user_limit}
use Rattle.ynl_search.specs.declared.limits.limits.Limits.{Limits}

-- the most that a user may use with a request: the share of what the users share then, and no more than the cap
unfoldable pub limit_of : Limits → Resource → Resource
limit_of limits ask =
    let base : Resource = greater_of limits.guaranteed (plus limits.used ask) in
    smaller_of (greater_of (scale_ceil base 1 limits.users) (scale_ceil base limits.percent whole)) limits.cap

-- the numbers are those of a leaf on a partition
pub record AreLimitsOf (c : Config) (s : State) (leaf : Path) (label : Label) (limits : Limits) : Type 0 where
  pub used : limits.used ≡ used s leaf label
  pub guaranteed : limits.guaranteed ≡ guaranteed c s leaf label
  pub users : limits.users ≡ users s leaf label
  pub percent : limits.percent ≡ setting (λ row. row.leaf.minimum_user_limit_percent) 0 c leaf
  pub cap : limits.cap ≡ user_cap c s leaf label

-- for each leaf and partition whose numbers they are, it is the user limit for a request
abbrev pub IsUserLimit : Limits → Resource → Resource → Type 0
IsUserLimit limits ask most =
    (c : Config) (s : State) (leaf : Path) (label : Label) → AreLimitsOf c s leaf label limits → most ≡ user_limit c s leaf label ask

-- a request fits in a room, and a user that uses so much keeps the limit with it
pub record KeepsWithin (limits : Limits) (used room size : Resource) : Type 0 where
  pub fits : IsTrue (fits_in size room)
  pub keeps : IsTrue (fits_in (plus used size) (limit_of limits size))

-- it is no less than the limit for any request that asks for no more
abbrev pub IsNoLess : Limits → Resource → Resource → Type 0
IsNoLess limits ask most = (lesser : Resource) → IsTrue (fits_in lesser ask) → IsTrue (fits_in (limit_of limits lesser) most)
