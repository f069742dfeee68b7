-- Use and totals in bounds, as a statement over every list of events in range.
use Rattle.std.specs.Prelude.{◌≤◌, ◌^◌, IsTrue, List}
use Rattle.std.specs.List.{AllByRecursion}
use Rattle.ynl_resource.specs.Amounts.{fits_in}
use Rattle.ynl_resource.specs.declared.names.Name.{Name}
use Rattle.ynl_resource.specs.declared.labels.Label.{Label}
use Rattle.ynl_resource.specs.declared.paths.Path.{Path}
use Rattle.ynl_model.specs.Queues.{Config}
use Rattle.ynl_model.specs.Cluster.{State, total, sizes, containers_on, used, user_used, masters_used, guests}
use Rattle.ynl_model.specs.Events.{state_after}
use Rattle.ynl_model.specs.declared.events.Event.{Event}
use Rattle.ynl_laws.specs.Working.{IsRanged}

-- the sizes of a list of events are in range
abbrev pub AreRanged : List Event → Type 0
AreRanged events = AllByRecursion IsRanged events

-- the total of a partition is in bounds, and all containers there, and what a queue, a user in it, its masters and its guests use, fit in the total
pub record IsBounded (s : State) (queue : Path) (p : Label) : Type 0 where
  pub memory : (total s p).memory ≤ 2 ^ 48
  pub vcores : (total s p).vcores ≤ 2 ^ 32
  pub all_fits : IsTrue (fits_in (sizes (containers_on s p)) (total s p))
  pub use_fits : IsTrue (fits_in (used s queue p) (total s p))
  pub users_fit : (user : Name) → IsTrue (fits_in (user_used s queue user p) (total s p))
  pub masters_fit : IsTrue (fits_in (masters_used s queue p) (total s p))
  pub guests_fit : IsTrue (fits_in (guests s queue p) (total s p))

-- in each state after events in range
abbrev pub IsAlwaysBounded : Type 0
IsAlwaysBounded = (c : Config) (events : List Event) (queue : Path) (p : Label) → AreRanged events → IsBounded (state_after c events) queue p
