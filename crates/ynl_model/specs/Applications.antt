-- Applications, what they ask for, and the leaves that hold them.
use Rattle.std.specs.Prelude.{ℕ, ◌-◌, Bool, ◌&&◌, ◌==◌, List, [], ◌∷◌, ◌++◌, map, filter, find, flat_map, is_some, Option, if◌then◌else◌}
use Rattle.std.specs.List.{list_any}
use Rattle.std.specs.Option.{option_map, option_map_or, option_and_then}
use Rattle.ynl_resource.specs.declared.amounts.Resource.{Resource}
use Rattle.ynl_resource.specs.Names.{same_name, same_label, same_path, tenant_of}
use Rattle.ynl_resource.specs.declared.names.Name.{Name}
use Rattle.ynl_resource.specs.declared.labels.Label.{Label}
use Rattle.ynl_resource.specs.declared.paths.Path.{Path}
use Rattle.ynl_resource.specs.Tables.{without, put, update}
use Rattle.ynl_model.specs.Queues.{Config, is_leaf}
pub use Rattle.ynl_model.specs.declared.applications.AskRow.{AskRow}

-- a live application; its home label is also the label of its master
pub record Application : Type 0 where
  pub leaf : Path
  pub name : Name
  pub user : Name
  pub home : Label
  pub master : Resource
  pub asks : List AskRow

-- a leaf: the names of all applications that were ever submitted there, and those of them that are live, both in the order of submission
pub record LeafApps : Type 0 where
  pub leaf : Path
  pub names : List Name
  pub apps : List Application

-- a row for each leaf, where nothing was submitted yet
abbrev pub no_apps : Config → List LeafApps
no_apps c = map (λ row. record { leaf = row.path; names = []; apps = [] }) (filter (λ row. is_leaf c row.path) c.queues)

-- a new application asks for nothing yet
abbrev pub new_app : Path → Name → Name → Label → Resource → Application
new_app leaf name user home master = record { leaf = leaf; name = name; user = user; home = home; master = master; asks = [] }

-- the live applications of a leaf
abbrev pub apps_of : List LeafApps → Path → List Application
apps_of leaves leaf = option_map_or (λ row. row.apps) (find (λ row. same_path row.leaf leaf) leaves) []

-- all live applications, leaf by leaf
abbrev pub all_apps : List LeafApps → List Application
all_apps leaves = flat_map (λ row. row.apps) leaves

-- the row of the leaf to which a tenant's application of that name was submitted, whether it is live or finished
abbrev pub row_of : List LeafApps → Name → Name → Option LeafApps
row_of leaves tenant name = find (λ row. same_name (tenant_of row.leaf) tenant && list_any (same_name name) row.names) leaves

-- the leaf to which it was submitted
unfoldable pub leaf_of : List LeafApps → Name → Name → Option Path
leaf_of leaves tenant name = option_map (λ row. row.leaf) (row_of leaves tenant name)

-- whether the tenant ever had an application of that name
abbrev pub is_used : List LeafApps → Name → Name → Bool
is_used leaves tenant name = is_some (leaf_of leaves tenant name)

-- the live application of a tenant and a name
unfoldable pub find_app : List LeafApps → Name → Name → Option Application
find_app leaves tenant name = option_and_then (λ row. find (λ app. same_name app.name name) row.apps) (row_of leaves tenant name)

-- one leaf is changed
abbrev pub in_leaf : Path → (LeafApps → LeafApps) → List LeafApps → List LeafApps
in_leaf leaf change leaves = update (λ row. same_path row.leaf leaf) change leaves

-- an application comes last in its leaf, and its name is used for good
abbrev pub submitted : Application → LeafApps → LeafApps
submitted app row = record row { names = row.names ++ app.name ∷ []; apps = row.apps ++ app ∷ [] }

-- one application of a leaf is changed
abbrev pub with_app : Name → (Application → Application) → LeafApps → LeafApps
with_app name change row = record row { apps = update (λ app. same_name app.name name) change row.apps }

-- an application of a leaf is finished: of it only the name stays
abbrev pub finished : Name → LeafApps → LeafApps
finished name row = record row { apps = without (λ app. same_name app.name name) row.apps }

-- whether an ask is that of the label and the priority
abbrev pub is_ask_of : Label → ℕ → AskRow → Bool
is_ask_of label priority ask = same_label ask.label label && (ask.priority == priority)

-- the ask of a label and a priority
abbrev pub find_ask : Application → Label → ℕ → Option AskRow
find_ask app label priority = find (is_ask_of label priority) app.asks

-- an ask takes the place of the one of its label and priority; with count 0 that one goes
abbrev pub set_ask : AskRow → Application → Application
set_ask ask app =
    let same : AskRow → Bool = is_ask_of ask.label ask.priority in
    record app { asks = if ask.count == 0 then without same app.asks else put same ask app.asks }

-- one container of an ask was placed: its count falls by 1, and at 0 the ask goes
abbrev pub take_one : Label → ℕ → Application → Application
take_one label priority app = record app {
  asks =
      without (λ ask. is_ask_of label priority ask && (ask.count == 0)) (update (is_ask_of label priority) (λ ask. record ask { count = ask.count - 1 }) app.asks);
}
