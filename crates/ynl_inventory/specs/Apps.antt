-- What is told of applications and of their containers by numbers.
use Rattle.std.specs.Prelude.{◌≡◌, ℕ, ◌<◌, Bool, false, true, not, ◌&&◌, nat_eq, List, [], find, slice_get, Option, option_map, Some}
use Rattle.std.specs.List.{list_any}
use Rattle.std.specs.Map.{lookup}
use Rattle.std.specs.Option.{option_map_or}
use Rattle.ynl_tables.specs.declared.containers.container.Container.{Container}
use Rattle.ynl_tables.specs.declared.containers.container.Role.{Role}
use Rattle.ynl_tables.specs.declared.containers.container.Role.TheVariants.{Master, Ask as Asked}
use Rattle.ynl_inventory.specs.Rows.{Rows, AppRow}

-- the containers of a partition
abbrev pub containers_of : Rows → ℕ → List (ℕ × Container)
containers_of v p = option_map_or (λ row. row.containers) (slice_get v.partitions p) []

-- the leaf of a live application
abbrev pub leaf_of_app : Rows → ℕ → ℕ
leaf_of_app v n = option_map_or (λ row. row.leaf) (lookup (nat_eq n) v.apps) 0

-- whether a container is its application's master
abbrev pub is_master_role : Role → Bool
is_master_role Master = true
is_master_role (Asked p priority) = false

-- whether a container that stands on a partition is a guest there: it was asked for on DEFAULT, and stands elsewhere
abbrev pub is_guest_role : ℕ → Role → Bool
is_guest_role p Master = false
is_guest_role p (Asked asked priority) = nat_eq asked 0 && not (nat_eq p 0)

-- whether a container is the master of an application
abbrev pub is_master_of : ℕ → ℕ × Container → Bool
is_master_of n e = is_master_role e.1.role && nat_eq e.1.app n

-- whether a live application runs: its master stands on its home partition
abbrev pub runs_at : Rows → ℕ → AppRow → Bool
runs_at v n row = list_any (is_master_of n) (containers_of v row.home)

-- the number of an application's master, if it is among these containers
abbrev pub master_in : ℕ → List (ℕ × Container) → Option ℕ
master_in n containers = option_map (λ e. e.0) (find (is_master_of n) containers)

-- the number of a live application's master, if it runs
abbrev pub master_of : Rows → ℕ → AppRow → Option ℕ
master_of v n row = master_in n (containers_of v row.home)

-- no two containers are masters of one application
abbrev pub HasOneMasterEach : List (ℕ × Container) → Type 0
HasOneMasterEach containers =
    (n m : ℕ) (c d : Container) → lookup (nat_eq n) containers ≡ Some c → lookup (nat_eq m) containers ≡ Some d
    → is_master_role c.role ≡ true → is_master_role d.role ≡ true → c.app ≡ d.app → n ≡ m

-- of two applications of one tenant the first was submitted before the other
abbrev pub IsBefore : ℕ × AppRow → ℕ × AppRow → Type 0
IsBefore e f = e.1.tenant ≡ f.1.tenant → e.1.turn < f.1.turn
