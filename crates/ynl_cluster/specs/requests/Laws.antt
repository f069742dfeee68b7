-- What the rows say of requests is what the model says.
use Rattle.std.specs.Prelude.{◌≡◌, ◌↔◌, ℕ, nat_eq, List, map, filter, Some}
use Rattle.std.specs.List.{Contains, position_or_len}
use Rattle.std.specs.Map.{lookup}
use Rattle.std.specs.Ordering.{nat_cmp}
use Rattle.ynl_model.specs.declared.queues.StopRow.{StopRow}
use Rattle.ynl_model.specs.declared.queues.MaximumRow.{MaximumRow}
use Rattle.ynl_model.specs.Applications.{apps_of}
use Rattle.ynl_model.specs.Cluster.{runs}
use Rattle.ynl_model.specs.Service.{Item, asks_for, items_for, place_in_leaf}
use Rattle.ynl_inventory.specs.layout.Paths.{path_at}
use Rattle.ynl_inventory.specs.Rows.{Rows, AppRow}
use Rattle.ynl_inventory.specs.Meaning.{app_of, label_at, state_of}
use Rattle.ynl_inventory.specs.Sound.{HasPartition, IsSound}
use Rattle.ynl_inventory.specs.Apps.{runs_at}
use Rattle.ynl_cluster.specs.requests.Requests.{Wants, asked, wanted}

-- a live application runs in the model where its rows say so
abbrev pub RunsIsModel : Type 0
RunsIsModel =
    (v : Rows) → IsSound v → (stops : List StopRow) (maxima : List MaximumRow) (n : ℕ) (row : AppRow) → lookup (nat_eq n) v.apps ≡ Some row
    → runs (state_of v stops maxima) (app_of v (n, row)) ≡ runs_at v n row

-- the model's requests for a partition are what live applications want there
abbrev pub WantedIsModel : Type 0
WantedIsModel =
    (v : Rows) → IsSound v → (stops : List StopRow) (maxima : List MaximumRow) (p : ℕ) → HasPartition v p → (item : Item)
    → Contains (items_for (state_of v stops maxima) (label_at v.partitions p)) item ↔ Wants v (wanted v p) item

-- and its asks for a partition are what they ask for there
abbrev pub AskedIsModel : Type 0
AskedIsModel =
    (v : Rows) → IsSound v → (stops : List StopRow) (maxima : List MaximumRow) (p : ℕ) → HasPartition v p → (item : Item)
    → Contains (asks_for (state_of v stops maxima) (label_at v.partitions p)) item ↔ Wants v (asked v p) item

-- the live applications of a leaf
abbrev pub in_leaf : ℕ → List (ℕ × AppRow) → List (ℕ × AppRow)
in_leaf q apps = filter (λ e. nat_eq e.1.leaf q) apps

-- where an application stands among all
abbrev pub place_of : Rows → ℕ → ℕ
place_of v n = position_or_len (λ e. nat_eq e.0 n) v.apps

-- the model lists the applications of a leaf in the order of the rows
abbrev pub AreListed : Rows → List StopRow → List MaximumRow → ℕ → Type 0
AreListed v stops maxima q = apps_of (state_of v stops maxima).leaves (path_at v.paths q) ≡ map (app_of v) (in_leaf q v.apps)

-- then two applications of the leaf compare there by their places among all
abbrev pub OrderIsModel : Type 0
OrderIsModel =
    (v : Rows) → IsSound v → (stops : List StopRow) (maxima : List MaximumRow) (q : ℕ) → AreListed v stops maxima q
    → (m : ℕ) (other : AppRow) → lookup (nat_eq m) v.apps ≡ Some other → other.leaf ≡ q → (n : ℕ) (row : AppRow) → lookup (nat_eq n) v.apps ≡ Some row → row.leaf ≡ q
    → nat_cmp (place_in_leaf (state_of v stops maxima) (path_at v.paths q) (app_of v (m, other)).name) (place_in_leaf (state_of v stops maxima) (path_at v.paths q) (app_of v (n, row)).name)
    ≡ nat_cmp (place_of v m) (place_of v n)
