-- Counts of users, and how many are above 0.
use Rattle.std.proofs.Common.{◌≡◌, ◌⊎◌, inl, inr, Bool, true, false, cond, ◌||◌, List, [], ◌∷◌, map, Option, Some, None, option_map, filter, find, refl, sym, ap, ◌∙◌}
use Rattle.std.specs.Prelude.{IfSome, if◌then◌else◌}
use Rattle.std.specs.List.{list_any}
use Rattle.std.specs.Option.{option_map_or}
use mathlib.Core.Bool.{true≢false}
use Rattle.ynl_resource.specs.Tables.{update}
use Rattle.ynl_resource.specs.Names.{same_name, same_label, same_path, is_default}
use Rattle.ynl_resource.specs.declared.names.Name.{Name}
use Rattle.ynl_resource.specs.declared.labels.Label.{Label}
use Rattle.ynl_resource.specs.declared.paths.Path.{Path}
use Rattle.ynl_model.specs.Applications.{Application, LeafApps, apps_of, in_leaf, with_app}
use Rattle.ynl_laws.proofs.Lists.{find-through, found-passes}
use Rattle.ynl_laws.proofs.Names.{same-path}
use Rattle.ynl_laws.specs.Sharers.{shares, AreSharersKept}

-- ---- leaves

-- the applications of a leaf, once one leaf is changed
pub apps-changed : (changed leaf : Path) (change : LeafApps → LeafApps) (at : List Application → List Application) → ((row : LeafApps) → (change row).leaf ≡ row.leaf) → ((row : LeafApps) → (change row).apps ≡ at row.apps) → (leaves : List LeafApps) →
    (list_any (λ row. same_path row.leaf changed) leaves ≡ true) ⊎ (at [] ≡ []) → apps_of (in_leaf changed change leaves) leaf ≡ cond (same_path changed leaf) (at (apps_of leaves leaf)) (apps_of leaves leaf)
apps-changed changed leaf change at named is leaves there =
    ap (λ o. option_map_or (λ (row : LeafApps). row.apps) o []) (find-through (λ row. if same_path row.leaf changed then change row else row) (λ row. same_path row.leaf leaf)
    (λ row. elim (same_path row.leaf changed) as (λ b. same_path (cond b (change row) row).leaf leaf ≡ same_path row.leaf leaf) [ true ↦ ap (λ l. same_path l leaf) (named row) | false ↦ refl ]) leaves)
    ∙ go (find (λ row. same_path row.leaf leaf) leaves) refl (found-passes (λ row. same_path row.leaf leaf) leaves)
  where
    none-here : (rows : List LeafApps) → find (λ row. same_path row.leaf leaf) rows ≡ None → list_any (λ row. same_path row.leaf leaf) rows ≡ false
    none-here [] e = refl
    none-here (row ∷ rows) e = by (same_path row.leaf leaf) e (none-here rows)
      where
        by : (b : Bool) → cond b (Some row) (find (λ row. same_path row.leaf leaf) rows) ≡ None → (find (λ row. same_path row.leaf leaf) rows ≡ None → list_any (λ row. same_path row.leaf leaf) rows ≡ false) → (b || list_any (λ row. same_path row.leaf leaf) rows) ≡ false
        by true e rest = cc
        by false e rest = rest e

    empty : (b : Bool) → same_path changed leaf ≡ b → find (λ row. same_path row.leaf leaf) leaves ≡ None → (list_any (λ row. same_path row.leaf changed) leaves ≡ true) ⊎ (at [] ≡ []) → [] ≡ cond b (at []) []
    empty false e none there = refl
    empty true e none (inr k) = sym k
    empty true e none (inl k) = absurd (true≢false (sym k ∙ ap (λ l. list_any (λ row. same_path row.leaf l) leaves) (same-path changed leaf e) ∙ none-here leaves none))

    by : (row : LeafApps) (a b : Bool) → a ≡ b → (cond a (change row) row).apps ≡ cond b (at row.apps) row.apps
    by row true b same = is row ∙ ap (λ b. cond b (at row.apps) row.apps) same
    by row false b same = ap (λ b. cond b (at row.apps) row.apps) same

    turned : (row : LeafApps) → same_path row.leaf leaf ≡ true → same_path row.leaf changed ≡ same_path changed leaf
    turned row here = ap (λ l. same_path l changed) (same-path row.leaf leaf here) ∙ either (same_path leaf changed) (same_path changed leaf) refl refl
      where
        either : (x y : Bool) → same_path leaf changed ≡ x → same_path changed leaf ≡ y → x ≡ y
        either true true e f = refl
        either false false e f = refl
        either true false e f = absurd (true≢false (sym here ∙ ap (λ l. same_path l leaf) (same-path row.leaf leaf here ∙ same-path leaf changed e) ∙ f))
        either false true e f = absurd (true≢false (sym here ∙ ap (λ l. same_path l leaf) (same-path row.leaf leaf here) ∙ ap (same_path leaf) (sym (same-path changed leaf f)) ∙ e))

    go : (o : Option LeafApps) → find (λ row. same_path row.leaf leaf) leaves ≡ o → IfSome o (λ row. same_path row.leaf leaf ≡ true)
        → option_map_or (λ row. row.apps) (option_map (λ row. if same_path row.leaf changed then change row else row) o) [] ≡ cond (same_path changed leaf) (at (option_map_or (λ row. row.apps) o [])) (option_map_or (λ row. row.apps) o [])
    go None e k = empty (same_path changed leaf) refl e there
    go (Some row) e k = by row (same_path row.leaf changed) (same_path changed leaf) (turned row k)

abbrev users-of : Label → List Application → List Name
users-of label apps = map (λ app. app.user) (filter (shares label) apps)

pub sharers-kept : AreSharersKept
sharers-kept leaves changed leaf name change label used homed =
    ap (users-of label) (apps-changed changed leaf (with_app name change) (update (λ app. same_name app.name name) change) (λ row. refl) (λ row. refl) leaves (inr refl)) ∙ go (same_path changed leaf)
  where
    at : Application → Application
    at app = if same_name app.name name then change app else app

    same-user : (app : Application) (b : Bool) → (cond b (change app) app).user ≡ app.user
    same-user app true = used app
    same-user app false = refl

    same-share : (app : Application) (b : Bool) → shares label (cond b (change app) app) ≡ shares label app
    same-share app true = ap (λ h. is_default label || same_label h label) (homed app)
    same-share app false = refl

    stay : (apps : List Application) → users-of label (update (λ app. same_name app.name name) change apps) ≡ users-of label apps
    stay [] = refl
    stay (app ∷ apps) =
        (λ i. map (λ app. app.user) (cond (same-share app (same_name app.name name) i) (at app ∷ filter (shares label) (map at apps)) (filter (shares label) (map at apps)))) ∙ by (shares label app) (stay apps)
      where
        by : (b : Bool) → users-of label (map at apps) ≡ users-of label apps → map (λ app. app.user) (cond b (at app ∷ filter (shares label) (map at apps)) (filter (shares label) (map at apps))) ≡ map (λ app. app.user) (cond b (app ∷ filter (shares label) apps) (filter (shares label) apps))
        by true h = λ i. same-user app (same_name app.name name) i ∷ h i
        by false h = h

    go : (b : Bool) → users-of label (cond b (update (λ app. same_name app.name name) change (apps_of leaves leaf)) (apps_of leaves leaf)) ≡ users-of label (apps_of leaves leaf)
    go true = stay (apps_of leaves leaf)
    go false = refl
