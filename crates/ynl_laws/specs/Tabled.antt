-- What the tables of users and masters rest on besides: containers of live applications, leaves that their paths find, and names that differ.
use Rattle.std.specs.Prelude.{◌≡◌, true, false, is_some, List, find, Some}
use Rattle.std.specs.List.{AllByRecursion}
use Rattle.ynl_resource.specs.Names.{same_name, same_path, tenant_of}
use Rattle.ynl_resource.specs.declared.names.Name.{Name}
use Rattle.ynl_resource.specs.declared.labels.Label.{Label}
use Rattle.ynl_model.specs.Applications.{Application, LeafApps, apps_of, find_app}
use Rattle.ynl_model.specs.Cluster.{State, containers_on}
use Rattle.ynl_laws.specs.Working.{Pairs}
use Rattle.ynl_laws.specs.Owners.{owner}

-- no two applications of a list have one name
abbrev pub AreNamed : List Application → Type 0
AreNamed apps = Pairs (λ a b. same_name a.name b.name ≡ false) apps

-- each row of a leaf is the one that its path finds
abbrev pub EachLeaf : List LeafApps → Type 0
EachLeaf leaves = AllByRecursion (λ row. find (λ other. same_path other.leaf row.leaf) leaves ≡ Some row) leaves

-- what an application's tenant and name find is the application, and it is in the row of its leaf
pub record IsFoundIn (leaves : List LeafApps) (row : LeafApps) (app : Application) : Type 0 where
  pub at : app.leaf ≡ row.leaf
  pub itself : find_app leaves (tenant_of app.leaf) app.name ≡ Some app

-- what the tables need of a state besides what is kept
pub record Tabled (s : State) : Type 0 where
  pub finds : AllByRecursion (λ row. AllByRecursion (IsFoundIn s.leaves row) row.apps) s.leaves
  pub live : (p : Label) → AllByRecursion (λ k. (k.id.label ≡ p) × (is_some (owner s.leaves k.tenant k.app) ≡ true)) (containers_on s p)
  pub rows : EachLeaf s.leaves
  pub names : AllByRecursion (λ row. AreNamed row.apps) s.leaves

-- what a tenant and a name find stands once in its leaf
abbrev pub IsFoundInLeaf : Type 0
IsFoundInLeaf = (s : State) (tenant name : Name) (found : Application) → Tabled s → find_app s.leaves tenant name ≡ Some found
    → (find (λ app. same_name app.name found.name) (apps_of s.leaves found.leaf) ≡ Some found) × AreNamed (apps_of s.leaves found.leaf)
