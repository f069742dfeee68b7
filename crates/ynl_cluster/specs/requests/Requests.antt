-- What live applications want, by numbers.
use Rattle.std.specs.Prelude.{◌≡◌, ℕ, ◌&&◌, not, nat_eq, List, [], ◌∷◌, ◌++◌, map, filter, Some, if◌then◌else◌}
use Rattle.std.specs.List.{Contains}
use Rattle.std.specs.Map.{lookup}
use Rattle.ynl_resource.specs.declared.amounts.Resource.{Resource}
use Rattle.ynl_model.specs.Service.{Item}
use Rattle.ynl_tables.specs.declared.apps.asks.Ask.{Ask}
use Rattle.ynl_tables.specs.declared.containers.container.Role.{Role}
use Rattle.ynl_tables.specs.declared.containers.container.Role.TheVariants.{Master, Ask as Asked}
use Rattle.ynl_inventory.specs.Rows.{Rows, AppRow}
use Rattle.ynl_inventory.specs.Meaning.{item_of}
use Rattle.ynl_inventory.specs.Apps.{runs_at}

-- a request: for what, and how large
pub record Request : Type 0 where
  pub role : Role
  pub size : Resource

-- the request for an application's master
abbrev pub master_request : AppRow → Request
master_request row = record { role = Master; size = row.master }

-- the request of an ask
abbrev pub ask_request : Ask → Request
ask_request ask = record { role = Asked ask.partition ask.priority; size = ask.size }

-- an application's master is wanted on its home partition while it does not run
abbrev pub master_wanted : Rows → ℕ → ℕ → AppRow → List Request
master_wanted v p n row = if not (runs_at v n row) && nat_eq row.home p then master_request row ∷ [] else []

-- and what it asks for on a partition while it runs
abbrev pub asked : Rows → ℕ → ℕ → AppRow → List Request
asked v p n row = if runs_at v n row then map ask_request (filter (λ ask. nat_eq ask.partition p) row.asks) else []

-- all that an application wants on a partition
abbrev pub wanted : Rows → ℕ → ℕ → AppRow → List Request
wanted v p n row = master_wanted v p n row ++ asked v p n row

-- the request as the model has it
abbrev pub item_for : Rows → AppRow → Request → Item
item_for v row r = item_of v row r.role r.size

-- a live application has this request among some of its own
pub record Wants (v : Rows) (among : ℕ → AppRow → List Request) (item : Item) : Type 0 where
  pub number : ℕ
  pub row : AppRow
  pub found : lookup (nat_eq number) v.apps ≡ Some row
  pub request : Request
  pub there : Contains (among number row) request
  pub is : item ≡ item_for v row request
