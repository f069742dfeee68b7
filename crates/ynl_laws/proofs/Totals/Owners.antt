-- Whose a container is, through changes of leaves.
use Rattle.std.proofs.Common.{◌≡◌, Bool, true, false, cond, not, ◌&&◌, List, [], ◌∷◌, ◌++◌, Option, Some, None, is_some, option_map, find, refl, sym, ap, ◌∙◌}
use Rattle.std.specs.Prelude.{IfSome}
use Rattle.std.specs.List.{list_any}
use Rattle.std.specs.Option.{option_map_or, option_and_then}
use Rattle.std.proofs.lemmas.Bool.{and_parts}
use mathlib.Core.Bool.{true≢false}
use Rattle.ynl_resource.specs.Names.{same_name, same_path, tenant_of}
use Rattle.ynl_resource.specs.declared.names.Name.{Name}
use Rattle.ynl_resource.specs.declared.paths.Path.{Path}
use Rattle.ynl_model.specs.declared.proposals.What.{What}
use Rattle.ynl_model.specs.declared.proposals.What.TheVariants.{Master, Ask as Asked}
use Rattle.ynl_model.specs.Changes.{taken}
use Rattle.ynl_model.specs.Applications.{Application, LeafApps, row_of, leaf_of, find_app, in_leaf, submitted, with_app, finished}
use Rattle.ynl_laws.proofs.Events.Found.{at-leaf, row-after}
use Rattle.ynl_laws.proofs.Events.Kept.{with_app-names, finished-names}
use Rattle.ynl_laws.proofs.Lists.{find-filter, find-through, find-updated, found-passes, any-other}
use Rattle.ynl_laws.proofs.Names.{same-path, same-name_sym, same-name_self}
use Rattle.ynl_laws.specs.Owners.{owner}

-- the live application of a name in the row that was found
abbrev found_in : Name → Option LeafApps → Option Application
found_in name o = option_and_then (λ row. find (λ app. same_name app.name name) row.apps) o

-- whether a row has an application of a tenant and a name
abbrev has : Name → Name → LeafApps → Bool
has tenant name row = same_name (tenant_of row.leaf) tenant && list_any (same_name name) row.names

-- a test of the user, by the owner
pub by-owner : (user : Name) (o : Option Application) → option_map_or (λ app. same_name app.user user) o false ≡ option_map_or (λ mine. same_name mine user) (option_map (λ app. app.user) o) false
by-owner user None = refl
by-owner user (Some app) = refl

-- a change of one application that keeps its name and its user
pub owner-changed : (leaf : Path) (name : Name) (change : Application → Application) → ((app : Application) → (change app).name ≡ app.name) → ((app : Application) → (change app).user ≡ app.user) → (leaves : List LeafApps) (tenant other : Name) →
    owner (in_leaf leaf (with_app name change) leaves) tenant other ≡ owner leaves tenant other
unfolding find_app
owner-changed leaf name change named used leaves tenant other =
    ap (λ o. option_map (λ app. app.user) (found_in other o)) (row-after leaf (with_app name change) (with_app-names name change) leaves tenant other) ∙ go (row_of leaves tenant other)
  where
    by : (row : LeafApps) (b : Bool) → option_map (λ app. app.user) (find (λ app. same_name app.name other) (cond b (with_app name change row) row).apps) ≡ option_map (λ app. app.user) (find (λ app. same_name app.name other) row.apps)
    by row true = find-updated (λ app. same_name app.name other) (λ app. same_name app.name name) (λ app. app.user) change (λ app _. ap (λ n. same_name n other) (named app)) used row.apps
    by row false = refl

    go : (o : Option LeafApps) → option_map (λ app. app.user) (found_in other (option_map (at-leaf leaf (with_app name change)) o)) ≡ option_map (λ app. app.user) (found_in other o)
    go None = refl
    go (Some row) = by row (same_path row.leaf leaf)

-- another application is finished
pub find-finished : (leaf : Path) (name : Name) (leaves : List LeafApps) (tenant other : Name) → (same_name tenant (tenant_of leaf) && same_name other name) ≡ false → find_app (in_leaf leaf (finished name) leaves) tenant other ≡ find_app leaves tenant other
unfolding find_app
find-finished leaf name leaves tenant other off =
    ap (found_in other) (row-after leaf (finished name) (finished-names name) leaves tenant other) ∙ go (row_of leaves tenant other) (found-passes (has tenant other) leaves)
  where
    away : (row : LeafApps) → same_name (tenant_of row.leaf) tenant ≡ true → same_path row.leaf leaf ≡ true → same_name other name ≡ false
    away row at here =
        let same : tenant ≡ tenant_of leaf = sym (same-name_sym (tenant_of row.leaf) tenant at) ∙ ap tenant_of (same-path row.leaf leaf here) in
        sym (ap (λ b. b && same_name other name) (ap (same_name tenant) (sym same) ∙ same-name_self tenant)) ∙ off

    by : (row : LeafApps) → same_name (tenant_of row.leaf) tenant ≡ true → (b : Bool) → same_path row.leaf leaf ≡ b →
        find (λ app. same_name app.name other) (cond b (finished name row) row).apps ≡ find (λ app. same_name app.name other) row.apps
    by row at true e = find-filter (λ app. same_name app.name other) (λ app. not (same_name app.name name))
        (λ app k. ap not (ap (λ n. same_name n name) (same-name_sym app.name other k) ∙ away row at e)) row.apps
    by row at false e = refl

    go : (o : Option LeafApps) → IfSome o (λ row. has tenant other row ≡ true) → found_in other (option_map (at-leaf leaf (finished name)) o) ≡ found_in other o
    go None k = refl
    go (Some row) k = by row ((and_parts _ _ k).0) (same_path row.leaf leaf) refl

-- one more that does not pass is not found
find-other : {X : Type 0} (q : X → Bool) (xs : List X) (x : X) → q x ≡ false → find q (xs ++ x ∷ []) ≡ find q xs
find-other q [] x h = ap (λ b. cond b (Some x) None) h
find-other q (y ∷ xs) x h = ap (λ o. cond (q y) (Some y) o) (find-other q xs x h)

-- an application is submitted under a name that was not used
pub find-submitted : (app : Application) (leaves : List LeafApps) → is_some (leaf_of leaves (tenant_of app.leaf) app.name) ≡ false → (tenant name : Name) → is_some (leaf_of leaves tenant name) ≡ true →
    find_app (in_leaf app.leaf (submitted app) leaves) tenant name ≡ find_app leaves tenant name
unfolding find_app
find-submitted app leaves unused tenant name used =
    ap (found_in name) (find-through (at-leaf app.leaf (submitted app)) (has tenant name) stays leaves) ∙ go (row_of leaves tenant name) (found-passes (has tenant name) leaves)
  where
    apart : same_name name app.name ≡ true → same_name (tenant_of app.leaf) tenant ≡ true → true ≡ false
    apart f g = sym used ∙ (λ i. is_some (leaf_of leaves (sym (same-name_sym (tenant_of app.leaf) tenant g) i) (same-name_sym name app.name f i))) ∙ unused

    stays : (row : LeafApps) → has tenant name (at-leaf app.leaf (submitted app) row) ≡ has tenant name row
    stays row = step (same_path row.leaf app.leaf) (same_name name app.name) (same_name (tenant_of app.leaf) tenant) refl refl refl
      where
        step : (a b d : Bool) → same_path row.leaf app.leaf ≡ a → same_name name app.name ≡ b → same_name (tenant_of app.leaf) tenant ≡ d → has tenant name (cond a (submitted app row) row) ≡ has tenant name row
        step false b d e f g = refl
        step true false d e f g = ap (λ any. same_name (tenant_of row.leaf) tenant && any) (any-other (same_name name) row.names app.name f)
        step true true false e f g =
            let off : same_name (tenant_of row.leaf) tenant ≡ false = ap (λ path. same_name (tenant_of path) tenant) (same-path row.leaf app.leaf e) ∙ g in
            ap (λ b. b && list_any (same_name name) (row.names ++ app.name ∷ [])) off ∙ sym (ap (λ b. b && list_any (same_name name) row.names) off)
        step true true true e f g = absurd (true≢false (apart f g))

    other : (row : LeafApps) → same_name (tenant_of row.leaf) tenant ≡ true → same_path row.leaf app.leaf ≡ true → (b : Bool) → same_name app.name name ≡ b → same_name app.name name ≡ false
    other row at here true e = absurd (true≢false (apart
        (ap (same_name name) (same-name_sym app.name name e) ∙ same-name_self name)
        (ap (λ path. same_name (tenant_of path) tenant) (sym (same-path row.leaf app.leaf here)) ∙ at)))
    other row at here false e = e

    by : (row : LeafApps) → same_name (tenant_of row.leaf) tenant ≡ true → (b : Bool) → same_path row.leaf app.leaf ≡ b →
        find (λ a. same_name a.name name) (cond b (submitted app row) row).apps ≡ find (λ a. same_name a.name name) row.apps
    by row at true e = find-other (λ a. same_name a.name name) row.apps app (other row at e (same_name app.name name) refl)
    by row at false e = refl

    go : (o : Option LeafApps) → IfSome o (λ row. has tenant name row ≡ true) → found_in name (option_map (at-leaf app.leaf (submitted app)) o) ≡ found_in name o
    go None k = refl
    go (Some row) k = by row ((and_parts _ _ k).0) (same_path row.leaf app.leaf) refl

pub taken-user : (what : What) (app : Application) → (taken what app).user ≡ app.user
taken-user Master app = refl
taken-user (Asked label priority) app = refl
