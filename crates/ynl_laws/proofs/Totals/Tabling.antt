-- Containers are of live applications, leaves are found by their paths, and the live applications of a leaf differ in name.
use Rattle.std.proofs.Common.{◌≡◌, List, [], Option, Some, None, find, sym, ap, subst, ◌∙◌}
use Rattle.std.specs.Prelude.{IfSome}
use Rattle.std.specs.List.{AllByRecursion}
use Rattle.std.specs.Option.{option_map_or, option_and_then}
use Rattle.ynl_resource.specs.Names.{same_name, same_path}
use Rattle.ynl_resource.specs.declared.names.Name.{Name}
use Rattle.ynl_model.specs.Applications.{Application, LeafApps, apps_of, row_of, find_app}
use Rattle.ynl_model.specs.Cluster.{State}
use Rattle.ynl_laws.proofs.Events.Found.{IsFound, FindsAll}
use Rattle.ynl_laws.proofs.Lists.{Each-find, Each-found, Each-weaker, Each-with}
use Rattle.ynl_laws.proofs.Names.{same-name_sym}
use Rattle.ynl_laws.specs.Tabled.{AreNamed, EachLeaf, Tabled, IsFoundInLeaf}

-- ---- rows and names

abbrev Named : LeafApps → Type 0
Named row = AreNamed row.apps

-- ---- as the tables say it

pub finds-all : (s : State) → Tabled s → FindsAll s.leaves
finds-all s h = Each-weaker _ _ (λ row. Each-weaker _ _ (λ app k. record { at = k.at; itself = k.itself }) row.apps) s.leaves h.finds

-- ---- what is found

pub found-in-leaf : (leaves : List LeafApps) → FindsAll leaves → EachLeaf leaves → AllByRecursion Named leaves → (tenant name : Name) (found : Application) → find_app leaves tenant name ≡ Some found →
    (find (λ app. same_name app.name found.name) (apps_of leaves found.leaf) ≡ Some found) × AreNamed (apps_of leaves found.leaf)
unfolding find_app
found-in-leaf leaves finds rows names tenant name found e =
    go (row_of leaves tenant name) (Each-found _ _ leaves (Each-with _ _ (λ row. AllByRecursion (IsFound leaves row) row.apps × ((find (λ other. same_path other.leaf row.leaf) leaves ≡ Some row) × Named row)) (λ row f k. (f, k)) leaves finds (Each-with _ _ _ (λ row k n. (k, n)) leaves rows names))) e
  where
    go : (o : Option LeafApps) → IfSome o (λ row. AllByRecursion (IsFound leaves row) row.apps × ((find (λ other. same_path other.leaf row.leaf) leaves ≡ Some row) × Named row)) →
        option_and_then (λ row. find (λ app. same_name app.name name) row.apps) o ≡ Some found → (find (λ app. same_name app.name found.name) (apps_of leaves found.leaf) ≡ Some found) × AreNamed (apps_of leaves found.leaf)
    go None k e = cc
    go (Some row) k e =
        let own = Each-find (IsFound leaves row) (λ app. same_name app.name name) row.apps k.0 found e in
        let named : found.name ≡ name = same-name_sym found.name name own.1 in
        let apps : apps_of leaves found.leaf ≡ row.apps = ap (apps_of leaves) own.0.at ∙ ap (λ o. option_map_or (λ (row : LeafApps). row.apps) o []) k.1.0 in
        ((λ i. find (λ app. same_name app.name (named i)) (apps i)) ∙ e, subst AreNamed (sym apps) k.1.1)

pub is-found-in-leaf : IsFoundInLeaf
is-found-in-leaf s tenant name found h e = found-in-leaf s.leaves (finds-all s h) h.rows h.names tenant name found e
