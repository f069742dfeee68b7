-- The home label and the master's size of a live application stay as they were submitted.
use Rattle.std.proofs.Common.{◌≡◌, Bool, true, false, cond, not, ◌&&◌, List, [], ◌∷◌, ◌++◌, Option, Some, None, is_some, option_map, find, refl, sym, ap, ◌∙◌}
use Rattle.std.specs.Prelude.{IfSome}
use Rattle.std.specs.List.{list_any}
use Rattle.std.specs.Option.{option_and_then, option_or}
use Rattle.std.proofs.lemmas.Bool.{and_parts}
use Rattle.std.proofs.lemmas.List.Folds.{find-append}
use Rattle.ynl_resource.specs.Names.{same_name, same_path, tenant_of}
use Rattle.ynl_resource.specs.declared.amounts.Resource.{Resource}
use Rattle.ynl_resource.specs.declared.labels.Label.{Label}
use Rattle.ynl_resource.specs.declared.names.Name.{Name}
use Rattle.ynl_resource.specs.declared.paths.Path.{Path}
use Rattle.ynl_model.specs.Applications.{Application, LeafApps, find_app, finished, in_leaf, leaf_of, row_of, submitted, with_app}
use Rattle.ynl_laws.specs.Working.{KnowsAll}
use Rattle.ynl_laws.proofs.Events.Found.{FindsAll, at-leaf, holds, row-after, test-stays}
use Rattle.ynl_laws.proofs.Events.Kept.{finished-names, with_app-names}
use Rattle.ynl_laws.proofs.Lists.{find-filter, find-through, find-updated, found-passes}
use Rattle.ynl_laws.proofs.Names.{same-name_self, same-name_sym, same-path}

-- the home label of an application, and the size of its master
abbrev pub traits : Application → Label × Resource
traits app = (app.home, app.master)

-- those of the application that a tenant and a name find
abbrev pub traits_in : List LeafApps → Name → Name → Option (Label × Resource)
traits_in leaves tenant name = option_map traits (find_app leaves tenant name)

-- the same, by the row that was found
abbrev traits_at : Name → Option LeafApps → Option (Label × Resource)
traits_at name o = option_map traits (option_and_then (λ row. find (λ app. same_name app.name name) row.apps) o)

-- a change of one application that keeps its name, its home and its master
pub traits-changed : (leaf : Path) (name : Name) (change : Application → Application) → ((app : Application) → (change app).name ≡ app.name) → ((app : Application) → traits (change app) ≡ traits app) → (leaves : List LeafApps) (tenant other : Name) →
    traits_in (in_leaf leaf (with_app name change) leaves) tenant other ≡ traits_in leaves tenant other
unfolding find_app
traits-changed leaf name change named kept leaves tenant other = ap (traits_at other) (row-after leaf (with_app name change) (with_app-names name change) leaves tenant other) ∙ go (row_of leaves tenant other)
  where
    by : (row : LeafApps) (b : Bool) → option_map traits (find (λ app. same_name app.name other) (cond b (with_app name change row) row).apps) ≡ option_map traits (find (λ app. same_name app.name other) row.apps)
    by row true = find-updated (λ app. same_name app.name other) (λ app. same_name app.name name) traits change (λ app _. ap (λ n. same_name n other) (named app)) kept row.apps
    by row false = refl

    go : (o : Option LeafApps) → traits_at other (option_map (at-leaf leaf (with_app name change)) o) ≡ traits_at other o
    go None = refl
    go (Some row) = by row (same_path row.leaf leaf)

-- a new application whose name was not used
pub traits-submitted : (app : Application) (leaves : List LeafApps) → is_some (leaf_of leaves (tenant_of app.leaf) app.name) ≡ false → KnowsAll leaves leaves → FindsAll leaves → (tenant name : Name) (is : Label × Resource) →
    traits_in leaves tenant name ≡ Some is → traits_in (in_leaf app.leaf (submitted app) leaves) tenant name ≡ Some is
unfolding find_app leaf_of
traits-submitted app leaves unused knows finds tenant name is h =
    ap (traits_at name) (find-through (at-leaf app.leaf (submitted app)) (holds app leaves unused knows finds tenant name) (test-stays app leaves unused knows finds tenant name (used (row_of leaves tenant name) h)) leaves)
    ∙ go (row_of leaves tenant name) h
  where
    used : (o : Option LeafApps) → traits_at name o ≡ Some is → is_some (option_map (λ row. row.leaf) o) ≡ true
    used None k = cc
    used (Some row) k = refl

    more : (row : LeafApps) (o : Option Application) → find (λ app. same_name app.name name) row.apps ≡ o → option_map traits o ≡ Some is → option_map traits (find (λ app. same_name app.name name) (row.apps ++ app ∷ [])) ≡ Some is
    more row None e k = cc
    more row (Some other) e k = ap (option_map traits) (find-append _ row.apps (app ∷ []) ∙ ap (λ o. option_or o (find (λ app. same_name app.name name) (app ∷ []))) e) ∙ k

    by : (row : LeafApps) (b : Bool) → option_map traits (find (λ app. same_name app.name name) row.apps) ≡ Some is → option_map traits (find (λ app. same_name app.name name) (cond b (submitted app row) row).apps) ≡ Some is
    by row true k = more row (find (λ app. same_name app.name name) row.apps) refl k
    by row false k = k

    go : (o : Option LeafApps) → traits_at name o ≡ Some is → traits_at name (option_map (at-leaf app.leaf (submitted app)) o) ≡ Some is
    go None k = k
    go (Some row) k = by row (same_path row.leaf app.leaf) k

-- another application is finished
pub traits-finished : (leaf : Path) (name : Name) (leaves : List LeafApps) (tenant other : Name) → (same_name tenant (tenant_of leaf) && same_name other name) ≡ false → traits_in (in_leaf leaf (finished name) leaves) tenant other ≡ traits_in leaves tenant other
unfolding find_app
traits-finished leaf name leaves tenant other off =
    ap (traits_at other) (row-after leaf (finished name) (finished-names name) leaves tenant other) ∙ go (row_of leaves tenant other) (found-passes (λ row. same_name (tenant_of row.leaf) tenant && list_any (same_name other) row.names) leaves)
  where
    away : (row : LeafApps) → same_name (tenant_of row.leaf) tenant ≡ true → same_path row.leaf leaf ≡ true → same_name other name ≡ false
    away row at here =
        let same : tenant ≡ tenant_of leaf = sym (same-name_sym (tenant_of row.leaf) tenant at) ∙ ap tenant_of (same-path row.leaf leaf here) in
        sym (ap (λ b. b && same_name other name) (ap (same_name tenant) (sym same) ∙ same-name_self tenant)) ∙ off

    by : (row : LeafApps) → same_name (tenant_of row.leaf) tenant ≡ true → (b : Bool) → same_path row.leaf leaf ≡ b →
        option_map traits (find (λ app. same_name app.name other) (cond b (finished name row) row).apps) ≡ option_map traits (find (λ app. same_name app.name other) row.apps)
    by row at true e = ap (option_map traits) (find-filter (λ app. same_name app.name other) (λ app. not (same_name app.name name))
        (λ app k. ap not (ap (λ n. same_name n name) (same-name_sym app.name other k) ∙ away row at e)) row.apps)
    by row at false e = refl

    go : (o : Option LeafApps) → IfSome o (λ row. (same_name (tenant_of row.leaf) tenant && list_any (same_name other) row.names) ≡ true) → traits_at other (option_map (at-leaf leaf (finished name)) o) ≡ traits_at other o
    go None k = refl
    go (Some row) k = by row (and_parts _ _ k).0 (same_path row.leaf leaf) refl
