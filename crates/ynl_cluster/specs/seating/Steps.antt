-- What the functions start from: lanes that are those of the rows but for one thing.
use Rattle.std.specs.Prelude.{◌≡◌, ℕ, Bool, false, true, not, ◌&&◌, ◌||◌, nat_eq, List, [], ◌∷◌, ◌++◌, length, Some, ◌⊎◌}
use Rattle.std.specs.Map.{lookup}
use Rattle.std.specs.Option.{option_map_or}
use Rattle.ynl_resource.specs.declared.amounts.Resource.{Resource}
use Rattle.ynl_slots.specs.Slots.{HasDistinctNumbers, IsUnused}
use Rattle.ynl_tables.specs.declared.containers.container.Container.{Container}
use Rattle.ynl_tables.specs.declared.containers.container.Role.{Role}
use Rattle.ynl_inventory.specs.layout.Paths.{HasNumber}
use Rattle.ynl_lanes.specs.declared.lane.kinds.Both.{Both}
use Rattle.ynl_lanes.specs.lane.Seats.{Seats}
use Rattle.ynl_lanes.specs.table.Lanes.{lane_at}
use Rattle.ynl_inventory.specs.Rows.{Rows, AppRow}
use Rattle.ynl_inventory.specs.Apps.{is_master_role}
use Rattle.ynl_inventory.specs.Parts.{containers_of, held_at}
use Rattle.ynl_inventory.specs.Changes.{partition_of_node, with_dropped, with_ended, with_placed, with_stood}
use Rattle.ynl_inventory.specs.Sound.{HasPartition, IsPlaceable, IsSound, IsStandable}
use Rattle.ynl_cluster.specs.seating.Seating.{Figures, AreSeated, AreSeatedWith, is_of, shares, user_use, waits_of}

-- an application, if some is meant
abbrev pub OnlyIf : Bool → ℕ → ℕ → Type 0
OnlyIf true app n = n ≡ app
OnlyIf false app n = ⊥

-- but for what waits of some applications
pub record AreSeatedButFor (May : ℕ → Type 0) (v : Rows) (lanes : List (List Seats)) : Type 0 where
  pub waits : ℕ → ℕ → Both Resource
  pub others : (p n : ℕ) → ¬ May n → waits p n ≡ waits_of v p n
  pub seated : AreSeatedWith (record { used = user_use v; waits = waits }) v lanes

-- but for what waits of one
abbrev pub AreSeatedBut : ℕ → Rows → List (List Seats) → Type 0
AreSeatedBut app v lanes = AreSeatedButFor (OnlyIf true app) v lanes

-- also but for what the user of an application uses of a partition in its leaf: the amounts there and in the rows stand so to one another
pub record AreUsedBut (May : ℕ → Type 0) (app p : ℕ) (Stand : Resource → Resource → Type 0) (v : Rows) (lanes : List (List Seats)) : Type 0 where
  pub row : AppRow
  pub found : lookup (nat_eq app) v.apps ≡ Some row
  pub shared : shares p row ≡ true
  pub figures : Figures
  pub stand : Stand (figures.used p row.leaf row.user) (user_use v p row.leaf row.user)
  pub uses : (r q user : ℕ) → (nat_eq r p && is_of q user row) ≡ false → figures.used r q user ≡ user_use v r q user
  pub waits : (r n : ℕ) → ¬ May n → figures.waits r n ≡ waits_of v r n
  pub seated : AreSeatedWith figures v lanes

-- in both lanes of a leaf, those of a partition and of DEFAULT, there is room for the next seat of a user
abbrev pub IsReserved : ℕ → ℕ → ℕ → List (List Seats) → Type 0
IsReserved home leaf user lanes = (p : ℕ) → (nat_eq p 0 || nat_eq home p) ≡ true → (lane_at p leaf lanes).ready ≡ Some user

-- but for the seats of an application that came last, for which there is room
pub record IsUnseated (app : ℕ) (v : Rows) (lanes : List (List Seats)) : Type 0 where
  pub before : Rows
  pub row : AppRow
  pub apps : v.apps ≡ before.apps ++ (app, row) ∷ []
  pub paths : v.paths ≡ before.paths
  pub partitions : v.partitions ≡ before.partitions
  pub unused : IsUnused app before.apps
  pub home : HasPartition v row.home
  pub leaf : HasNumber v.paths row.leaf
  pub seated : AreSeated before lanes
  pub room : IsReserved row.home row.leaf row.user lanes

-- a container is placed on a node
pub record WasPlaced (number node app : ℕ) (role : Role) (size : Resource) (before v : Rows) : Type 0 where
  pub can : IsPlaceable before node app role
  pub rows : v ≡ with_placed number node app role size before

-- or it comes to stand there as one that was placed
pub record CameToStand (number node app : ℕ) (role : Role) (size : Resource) (before v : Rows) : Type 0 where
  pub clock : ℕ
  pub can : IsStandable before node app role clock
  pub rows : v ≡ with_stood (partition_of_node before.nodes node) number (record { clock = clock; node = node; app = app; role = role; size = size }) before

-- whether something else may wait of an application to which a container came: it was its master, or the application asks in fewer rows
abbrev pub waits_anew : Rows → ℕ → Role → ℕ → Bool
waits_anew v app role asked = is_master_role role || not (nat_eq (option_map_or (λ (row : AppRow). length row.asks) (lookup (nat_eq app) v.apps) 0) asked)

-- the lanes are those of the rows before a container came to a node, when its application asked in so many rows
pub record IsPlaced (node app : ℕ) (role : Role) (size : Resource) (asked : ℕ) (v : Rows) (lanes : List (List Seats)) : Type 0 where
  pub before : Rows
  pub asks : option_map_or (λ (row : AppRow). length row.asks) (lookup (nat_eq app) before.apps) 0 ≡ asked
  pub number : ℕ
  pub came : WasPlaced number node app role size before v ⊎ CameToStand number node app role size before v
  pub sound : IsSound before
  pub seated : AreSeated before lanes

-- those before a container ended on a partition, or went with its node
pub record IsEnded (p : ℕ) (c : Container) (v : Rows) (lanes : List (List Seats)) : Type 0 where
  pub before : Rows
  pub number : ℕ
  pub rows : (v ≡ with_ended p number c.node before) ⊎ (v ≡ with_dropped p number before)
  pub held : held_at before p number ≡ Some c
  pub numbers : HasDistinctNumbers (containers_of before p)
  pub seated : AreSeated before lanes
