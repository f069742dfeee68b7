-- What each state keeps of applications and containers: an application is found by its tenant and name, and so is the leaf of each container.
use Rattle.std.proofs.Common.{◌≡◌, Bool, true, false, cond, ◌&&◌, ◌||◌, List, [], ◌∷◌, ◌++◌, Option, Some, None, is_some, option_map, find, refl, sym, ap, subst, ◌∙◌}
use Rattle.std.specs.Prelude.{IfSome}
use Rattle.std.specs.List.{AllByRecursion, list_any}
use Rattle.std.specs.Option.{option_map_or, option_and_then}
use Rattle.std.specs.Cmp.Lexicographic.{bytes_decides}
use mathlib.Core.Bool.{true≢false}
use Rattle.ynl_resource.specs.Names.{same_name, same_label, same_path, tenant_of}
use Rattle.ynl_resource.specs.declared.names.Name.{Name}
use Rattle.ynl_resource.specs.declared.labels.Label.{Label}
use Rattle.ynl_resource.specs.declared.paths.Path.{Path}
use Rattle.ynl_model.specs.Applications.{Application, LeafApps, row_of, leaf_of, find_app, in_leaf, submitted, with_app, finished}
use Rattle.ynl_model.specs.Cluster.{State, Partition, is_partition, in_partition, containers_on}
use Rattle.ynl_model.specs.declared.containers.Placed.{Placed as Container}
use Rattle.ynl_laws.specs.Working.{IsKnown, KnowsAll, UsesAll, EachUses, Kept}
use Rattle.ynl_laws.proofs.Lists.{Each-filter, Each-append, Each-weaker, Each-found, found-passes, any-last, any-other, Each-update, find-updated, update-none}
use Rattle.ynl_laws.proofs.Names.{same-path, same-name_sym}
use Rattle.std.proofs.lemmas.Bool.{and_from}

-- ---- leaves

-- a change of a leaf that keeps its name and the names used there
pub record KeepsNames (change : LeafApps → LeafApps) : Type 0 where
  pub leaf : (row : LeafApps) → (change row).leaf ≡ row.leaf
  pub names : (row : LeafApps) → (change row).names ≡ row.names

pub leaf_of-kept : (leaf : Path) (change : LeafApps → LeafApps) → KeepsNames change → (leaves : List LeafApps) (tenant name : Name) → leaf_of (in_leaf leaf change leaves) tenant name ≡ leaf_of leaves tenant name
unfolding leaf_of
leaf_of-kept leaf change same leaves tenant name = find-updated _ _ (λ row. row.leaf) change (λ row _ i. same_name (tenant_of (same.leaf row i)) tenant && list_any (same_name name) (same.names row i)) same.leaf leaves

pub with_app-names : (name : Name) (change : Application → Application) → KeepsNames (with_app name change)
with_app-names name change = record { leaf = λ row. refl; names = λ row. refl }

pub finished-names : (name : Name) → KeepsNames (finished name)
finished-names name = record { leaf = λ row. refl; names = λ row. refl }

-- ---- submission

-- what was found is found, and is the same
abbrev pub Extends : List LeafApps → List LeafApps → Type 0
Extends old new = (tenant name : Name) → is_some (leaf_of old tenant name) ≡ true → leaf_of new tenant name ≡ leaf_of old tenant name

module _ (app : Application) where
  abbrev holds : Name → Name → LeafApps → Bool
  holds tenant name row = same_name (tenant_of row.leaf) tenant && list_any (same_name name) row.names

  pub submit-extends : (leaves : List LeafApps) → is_some (leaf_of leaves (tenant_of app.leaf) app.name) ≡ false → Extends leaves (in_leaf app.leaf (submitted app) leaves)
  unfolding leaf_of
  submit-extends leaves unused tenant name h = go (same_name name app.name) (same_name (tenant_of app.leaf) tenant) refl refl
    where
      found : ((row : LeafApps) → same_path row.leaf app.leaf ≡ true → holds tenant name (submitted app row) ≡ holds tenant name row) → leaf_of (in_leaf app.leaf (submitted app) leaves) tenant name ≡ leaf_of leaves tenant name
      found same = find-updated (holds tenant name) (λ row. same_path row.leaf app.leaf) (λ row. row.leaf) (submitted app) same (λ row. refl) leaves

      go : (a b : Bool) → same_name name app.name ≡ a → same_name (tenant_of app.leaf) tenant ≡ b → leaf_of (in_leaf app.leaf (submitted app) leaves) tenant name ≡ leaf_of leaves tenant name
      go false b e f = found (λ row w. ap (λ any. same_name (tenant_of row.leaf) tenant && any) (any-other (same_name name) row.names app.name e))
      go true false e f = found (λ row w.
          let off : same_name (tenant_of row.leaf) tenant ≡ false = ap (λ path. same_name (tenant_of path) tenant) (same-path row.leaf app.leaf w) ∙ f in
          ap (λ b. b && list_any (same_name name) (row.names ++ app.name ∷ [])) off ∙ sym (ap (λ b. b && list_any (same_name name) row.names) off))
      go true true e f = absurd (true≢false (sym h ∙ (λ i. is_some (leaf_of leaves (sym (same-name_sym (tenant_of app.leaf) tenant f) i) (same-name_sym name app.name e i))) ∙ unused))

  pub submit-finds : (leaves : List LeafApps) → is_some (leaf_of leaves (tenant_of app.leaf) app.name) ≡ false → list_any (λ row. same_path row.leaf app.leaf) leaves ≡ true → IsKnown (in_leaf app.leaf (submitted app) leaves) app.leaf app.name
  unfolding leaf_of
  submit-finds [] unused there = absurd (true≢false (sym there))
  submit-finds (row ∷ rows) unused there = go (same_path row.leaf app.leaf) (holds (tenant_of app.leaf) app.name row) refl refl there unused (submit-finds rows)
    where
      go : (a b : Bool) → same_path row.leaf app.leaf ≡ a → holds (tenant_of app.leaf) app.name row ≡ b → (a || list_any (λ row. same_path row.leaf app.leaf) rows) ≡ true →
          is_some (option_map (λ row. row.leaf) (cond b (Some row) (find (holds (tenant_of app.leaf) app.name) rows))) ≡ false →
          (is_some (option_map (λ row. row.leaf) (find (holds (tenant_of app.leaf) app.name) rows)) ≡ false → list_any (λ row. same_path row.leaf app.leaf) rows ≡ true → option_map (λ row. row.leaf) (find (holds (tenant_of app.leaf) app.name) (in_leaf app.leaf (submitted app) rows)) ≡ Some app.leaf) →
          option_map (λ row. row.leaf) (find (holds (tenant_of app.leaf) app.name) (cond a (submitted app row) row ∷ in_leaf app.leaf (submitted app) rows)) ≡ Some app.leaf
      go true b e f there unused rest =
          let self : holds (tenant_of app.leaf) app.name (submitted app row) ≡ true = and_from _ _ ((bytes_decides (tenant_of row.leaf) (tenant_of app.leaf)).1 (ap tenant_of (same-path row.leaf app.leaf e))) (any-last (same_name app.name) row.names app.name ((bytes_decides app.name app.name).1 refl)) in
          (λ i. option_map (λ row. row.leaf) (cond (self i) (Some (submitted app row)) (find (holds (tenant_of app.leaf) app.name) (in_leaf app.leaf (submitted app) rows)))) ∙ ap (λ path. Some path) (same-path row.leaf app.leaf e)
      go false true e f there unused rest = absurd (true≢false unused)
      go false false e f there unused rest = (λ i. option_map (λ row. row.leaf) (cond (f i) (Some row) (find (holds (tenant_of app.leaf) app.name) (in_leaf app.leaf (submitted app) rows)))) ∙ rest unused there

pub knows-extends : (old new rows : List LeafApps) → Extends old new → KnowsAll old rows → KnowsAll new rows
knows-extends old new rows ext h =
    Each-weaker _ _ (λ row. Each-weaker _ _ (λ app e. ext (tenant_of app.leaf) app.name (ap is_some e) ∙ e) row.apps) rows h

-- ---- containers

pub uses-extends : (old new : List LeafApps) (containers : List Container) → Extends old new → UsesAll old containers → UsesAll new containers
uses-extends old new containers ext h = Each-weaker _ _ (λ k e. ap is_some (ext k.tenant k.app e) ∙ e) containers h

pub kept-on : (s : State) → Kept s → (p : Label) → UsesAll s.leaves (containers_on s p)
kept-on s h p = go (find (is_partition p) s.partitions) (Each-found _ (is_partition p) s.partitions h.uses)
  where
    go : (o : Option Partition) → IfSome o (λ row. UsesAll s.leaves row.containers) → UsesAll s.leaves (option_map_or (λ row. row.containers) o [])
    go None k = tt
    go (Some row) k = k

pub kept-find : (s : State) → Kept s → (tenant name : Name) → IfSome (find_app s.leaves tenant name) (λ app. IsKnown s.leaves app.leaf app.name)
unfolding find_app
kept-find s h tenant name = go (row_of s.leaves tenant name) (Each-found _ _ s.leaves h.apps)
  where
    go : (o : Option LeafApps) → IfSome o (λ row. AllByRecursion (λ app. IsKnown s.leaves app.leaf app.name) row.apps) →
        IfSome (option_and_then (λ row. find (λ app. same_name app.name name) row.apps) o) (λ app. IsKnown s.leaves app.leaf app.name)
    go None k = tt
    go (Some row) k = Each-found _ _ row.apps k

-- a field of a partition, before and after a change of one partition
pub by-row : {Y : Type 0} (Goal : Y → Y → Type 0) (field : Partition → Y) (none : Y) (label p : Label) (change : Partition → Partition) → ((row : Partition) → (change row).label ≡ row.label) → (rows : List Partition) →
    ((row : Partition) → find (is_partition p) rows ≡ Some row → same_label row.label p ≡ true → Goal (field row) (field (cond (same_label row.label label) (change row) row))) → Goal none none →
    Goal (option_map_or field (find (is_partition p) rows) none) (option_map_or field (find (is_partition p) (in_partition label change rows)) none)
by-row Goal field none label p change keeps rows step empty =
    subst (Goal (option_map_or field (find (is_partition p) rows) none)) (sym (changed rows)) (go (find (is_partition p) rows) refl (found-passes (is_partition p) rows))
  where
    at : Partition → Partition
    at row = cond (same_label row.label label) (change row) row

    label-at : (row : Partition) → (at row).label ≡ row.label
    label-at row = elim (same_label row.label label) as (λ b. (cond b (change row) row).label ≡ row.label) [ true ↦ keeps row | false ↦ refl ]

    changed : (rows : List Partition) → option_map_or field (find (is_partition p) (in_partition label change rows)) none ≡ option_map_or (λ row. field (at row)) (find (is_partition p) rows) none
    changed [] = refl
    changed (row ∷ rows) =
        (λ i. option_map_or field (cond (same_label (label-at row i) p) (Some (at row)) (find (is_partition p) (in_partition label change rows))) none)
        ∙ elim (same_label row.label p) as (λ b. option_map_or field (cond b (Some (at row)) (find (is_partition p) (in_partition label change rows))) none ≡ option_map_or (λ row. field (at row)) (cond b (Some row) (find (is_partition p) rows)) none)
        [ true ↦ refl | false ↦ changed rows ]

    go : (o : Option Partition) → find (is_partition p) rows ≡ o → IfSome o (λ row. same_label row.label p ≡ true) → Goal (option_map_or field o none) (option_map_or (λ row. field (at row)) o none)
    go None e k = empty
    go (Some row) e k = step row e k

-- ---- changes that keep it

-- a change of a leaf's applications that keeps what is known
abbrev pub KeepsApps : (LeafApps → LeafApps) → Type 0
KeepsApps change = (leaves : List LeafApps) (row : LeafApps) → AllByRecursion (λ app. IsKnown leaves app.leaf app.name) row.apps → AllByRecursion (λ app. IsKnown leaves app.leaf app.name) (change row).apps

pub with_app-apps : (name : Name) (change : Application → Application) → ((app : Application) → (change app).leaf ≡ app.leaf) → ((app : Application) → (change app).name ≡ app.name) → KeepsApps (with_app name change)
with_app-apps name change leaf named leaves row h =
    Each-update (λ app. IsKnown leaves app.leaf app.name) (λ app. same_name app.name name) change
    (λ app k. (λ i. leaf_of leaves (tenant_of (leaf app i)) (named app i)) ∙ k ∙ ap (λ path. Some path) (sym (leaf app))) row.apps h

pub finished-apps : (name : Name) → KeepsApps (finished name)
finished-apps name leaves row h = Each-filter (λ app. IsKnown leaves app.leaf app.name) _ row.apps h

pub leaf-extends : (leaf : Path) (change : LeafApps → LeafApps) → KeepsNames change → (leaves : List LeafApps) → Extends leaves (in_leaf leaf change leaves)
leaf-extends leaf change same leaves tenant name h = leaf_of-kept leaf change same leaves tenant name

pub leaf-knows : (leaf : Path) (change : LeafApps → LeafApps) → KeepsNames change → KeepsApps change → (leaves : List LeafApps) → KnowsAll leaves leaves → KnowsAll (in_leaf leaf change leaves) (in_leaf leaf change leaves)
leaf-knows leaf change same keeps leaves h =
    knows-extends leaves (in_leaf leaf change leaves) (in_leaf leaf change leaves) (leaf-extends leaf change same leaves)
    (Each-update (λ row. AllByRecursion (λ app. IsKnown leaves app.leaf app.name) row.apps) (λ row. same_path row.leaf leaf) change (keeps leaves) leaves h)

pub each-extends : (old new : List LeafApps) (rows : List Partition) → Extends old new → EachUses old rows → EachUses new rows
each-extends old new rows ext h = Each-weaker _ _ (λ row. uses-extends old new row.containers ext) rows h

pub kept-leaf : (s : State) (leaf : Path) (change : LeafApps → LeafApps) → KeepsNames change → KeepsApps change → Kept s → Kept (record s { leaves = in_leaf leaf change s.leaves })
kept-leaf s leaf change same keeps h = record {
  apps = leaf-knows leaf change same keeps s.leaves h.apps;
  uses = each-extends s.leaves (in_leaf leaf change s.leaves) s.partitions (leaf-extends leaf change same s.leaves) h.uses;
}

pub kept-submit : (s : State) (app : Application) → is_some (leaf_of s.leaves (tenant_of app.leaf) app.name) ≡ false → Kept s → Kept (record s { leaves = in_leaf app.leaf (submitted app) s.leaves })
kept-submit s app unused h = record {
  apps = go (list_any (λ row. same_path row.leaf app.leaf) s.leaves) refl;
  uses = each-extends s.leaves (in_leaf app.leaf (submitted app) s.leaves) s.partitions (submit-extends app s.leaves unused) h.uses;
}
  where
    new : List LeafApps
    new = in_leaf app.leaf (submitted app) s.leaves

    go : (b : Bool) → list_any (λ row. same_path row.leaf app.leaf) s.leaves ≡ b → KnowsAll new new
    go true there = Each-update (λ row. AllByRecursion (λ other. IsKnown new other.leaf other.name) row.apps) (λ row. same_path row.leaf app.leaf) (submitted app)
        (λ row k. Each-append _ row.apps (app ∷ []) k (submit-finds app s.leaves unused there, tt)) s.leaves (knows-extends s.leaves new s.leaves (submit-extends app s.leaves unused) h.apps)
    go false none = let same : new ≡ s.leaves = update-none _ (submitted app) s.leaves none in subst (λ leaves. KnowsAll leaves leaves) (sym same) h.apps
