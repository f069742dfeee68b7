-- A queue on the way of a search, and what the model says of it.
use Rattle.std.specs.Prelude.{◌≡◌, Bool, true, ◌&&◌, ◌∷◌}
use Rattle.std.specs.List.{list_all}
use Rattle.ynl_resource.specs.Amounts.{amount, fits_in}
use Rattle.ynl_resource.specs.Names.{root, way_to}
use Rattle.ynl_resource.specs.declared.amounts.Resource.{Resource}
use Rattle.ynl_resource.specs.declared.labels.Label.{Label}
use Rattle.ynl_resource.specs.declared.paths.Path.{Path}
use Rattle.ynl_model.specs.Queues.{Config, capacity_on, maximum_on}
use Rattle.ynl_model.specs.Cluster.{State, guaranteed, maximum, used}
use Rattle.ynl_cluster.specs.uses.Tallies.{IsTotal}
use Rattle.ynl_search.specs.notes.Shut.{keeps_maximum}
use Rattle.ynl_search.specs.declared.headroom.Headroom.{Headroom}
use Rattle.ynl_search.specs.declared.place.Place.{Place}
use Rattle.ynl_search.specs.declared.place.Cell.{Cell}

-- whether there is headroom for so much
abbrev pub allows : Headroom → Resource → Bool
allows h size = h.is_open && fits_in size h.room

-- whether so much fits what is free, and the queue and those above it stay within their maxima
abbrev pub can_take : State → Label → Resource → Path → Resource → Bool
can_take s label free queue size = fits_in size free && list_all (keeps_maximum s label size) (root ∷ way_to queue)

-- a place is that of a queue on a partition
pub record IsPlace (c : Config) (s : State) (label : Label) (free : Resource) (queue : Path) (place : Place) : Type 0 where
  pub headroom : (size : Resource) → allows place.headroom size ≡ can_take s label free queue size
  pub guaranteed : place.guaranteed ≡ guaranteed c s queue label
  pub most : place.most ≡ maximum s queue label

-- what it is guaranteed, and may use at most, is what the model says, whatever its headroom is
pub record HasAmounts (c : Config) (s : State) (label : Label) (queue : Path) (place : Place) : Type 0 where
  pub guaranteed : place.guaranteed ≡ guaranteed c s queue label
  pub most : place.most ≡ maximum s queue label

-- more room than any request needs
abbrev pub any_room : Resource
any_room = amount 0xffff_ffff_ffff_ffff 0xffff_ffff_ffff_ffff

-- the place of the same queue where there is room for all that its own requests ask for
abbrev pub in_any_room : Place → Place
in_any_room place = record place { headroom = record { is_open = true; room = any_room } }

-- its amounts are at most what the largest partition has
pub record IsSmallPlace (place : Place) : Type 0 where
  pub guaranteed : IsTotal place.guaranteed
  pub most : IsTotal place.most

-- a cell is that of a queue on a partition
pub record IsCell (c : Config) (s : State) (label : Label) (queue : Path) (cell : Cell) : Type 0 where
  pub capacity : cell.capacity ≡ capacity_on c queue label
  pub maximum : cell.maximum ≡ maximum_on s.maxima queue label
  pub used : cell.used ≡ used s queue label
