-- The lines of all leaves are read.
use Rattle.std.proofs.Common.{◌≡◌, Bool, true, false, cond, ◌&&◌, ◌||◌, is_some, List, [], ◌∷◌, ◌++◌, map, Some, filter, find, refl, sym, ap, subst, ◌∙◌, append-nil}
use Rattle.std.specs.Prelude.{IsTrue, flat_map}
use Rattle.std.specs.List.{AllByRecursion, list_any}
use Rattle.std.proofs.lemmas.Bool.{or_right}
use mathlib.Core.Bool.{true≢false}
use Rattle.ynl_resource.specs.Names.{root, same_name, same_path, tenant_of}
use Rattle.ynl_resource.specs.declared.names.Name.{Name}
use Rattle.ynl_model.specs.Accepted.{is_accepted}
use Rattle.ynl_model.specs.Applications.{Application, LeafApps, leaf_of, no_apps}
use Rattle.ynl_model.specs.Cluster.{State}
use Rattle.ynl_model.specs.Queues.{Config, QueueRow, is_leaf, is_queue, queue_row}
use Rattle.ynl_saved.specs.Saving.{leaf_lines}
use Rattle.ynl_laws.specs.Untied.{AllDistinct, Distinct}
use Rattle.ynl_laws.specs.Working.{IsKnown, Pairs}
use Rattle.ynl_laws.proofs.Events.Found.{IsFound}
use Rattle.ynl_laws.proofs.Lists.{Each-both, Each-filter, Each-map, Each-split, Each-unmap, Each-weaker, Each-with, filter-passes}
use Rattle.ynl_laws.proofs.Lives.Entitled.{Fitting}
use Rattle.ynl_laws.proofs.Names.{same-name_sym, same-path}
use Rattle.ynl_saved.proofs.Changing.{Base}
use Rattle.ynl_saved.proofs.Leaved.{Leaved, leaves-apart, same-path_self}
use Rattle.ynl_saved.proofs.Leaves.{Given, IsLeaf}
use Rattle.ynl_saved.proofs.Live.{empty, reads-leaf}
use Rattle.ynl_saved.proofs.Rows.{one-done, pairs-before, pairs-behind, turned}
use Rattle.ynl_saved.proofs.Told.{Reads, Side, plain-section}

-- each queue has a row
queues-known : (c : Config) → AllByRecursion (λ (row : QueueRow). is_some (queue_row c row.path) ≡ true) c.queues
queues-known c = each c.queues
  where
    each : (rows : List QueueRow) → AllByRecursion (λ (row : QueueRow). is_some (find (λ other. same_path other.path row.path) rows) ≡ true) rows
    each [] = tt
    each (row ∷ rows) = (
      (λ i. is_some (cond (same-path_self row.path i) (Some row) (find (λ other. same_path other.path row.path) rows))),
      Each-weaker (λ (other : QueueRow). is_some (find (λ another. same_path another.path other.path) rows) ≡ true) _ (λ other k. more (same_path row.path other.path) other k) rows (each rows),
    )
      where
        more : (b : Bool) (other : QueueRow) → is_some (find (λ another. same_path another.path other.path) rows) ≡ true → is_some (cond b (Some row) (find (λ another. same_path another.path other.path) rows)) ≡ true
        more true other k = refl
        more false other k = k

-- and so is a queue
pub queues-are : (c : Config) → AllByRecursion (λ (row : QueueRow). is_queue c row.path ≡ true) c.queues
queues-are c = Each-weaker (λ (row : QueueRow). is_some (queue_row c row.path) ≡ true) _ (λ row k. or_right (same_path row.path root) _ k) c.queues (queues-known c)

-- each leaf is a leaf of the configuration
leaves-are : (c : Config) → AllByRecursion (λ path. (is_queue c path ≡ true) × (is_leaf c path ≡ true)) (map (λ (row : LeafApps). row.leaf) (no_apps c))
leaves-are c = Each-map (λ (row : LeafApps). (is_queue c row.leaf ≡ true) × (is_leaf c row.leaf ≡ true)) _ (λ (row : LeafApps). row.leaf) (λ row k. k) (no_apps c)
    (Each-map (λ (row : QueueRow). (is_queue c row.path ≡ true) × (is_leaf c row.path ≡ true)) _ _ (λ row k. k) (filter (λ row. is_leaf c row.path) c.queues)
    (Each-both (λ (row : QueueRow). is_queue c row.path ≡ true) (λ (row : QueueRow). is_leaf c row.path ≡ true) (filter (λ row. is_leaf c row.path) c.queues)
    (Each-filter (λ (row : QueueRow). is_queue c row.path ≡ true) (λ row. is_leaf c row.path) c.queues (queues-are c)) (filter-passes (λ (row : QueueRow). is_leaf c row.path) c.queues)))

-- what is known of a leaf
abbrev IsReady : Config → List LeafApps → LeafApps → Type 0
IsReady c leaves row =
    IsLeaf c row × AllByRecursion (IsKnown leaves row.leaf) row.names × AllByRecursion (λ (app : Application). (app.leaf ≡ row.leaf) × Fitting c app × Distinct app × Given c app) row.apps
    × ((is_queue c row.leaf ≡ true) × (is_leaf c row.leaf ≡ true))

module _ (c : Config) (accepted : IsTrue (is_accepted c)) (s : State) (base : Base c s) (leaved : Leaved c s) (distinct : AllDistinct s.leaves) (side : Side) (s2 : State) where
  -- all of that is known of each leaf
  ready : AllByRecursion (IsReady c s.leaves) s.leaves
  ready =
      let entitled = base.entitled in
      let shaped = leaved.shaped in
      Each-with (λ row. IsLeaf c row × AllByRecursion (IsKnown s.leaves row.leaf) row.names) (λ row. AllByRecursion (IsFound s.leaves row) row.apps × AllByRecursion (Fitting c) row.apps × AllByRecursion Distinct row.apps × ((is_queue c row.leaf ≡ true) × (is_leaf c row.leaf ≡ true))) (IsReady c s.leaves)
      (λ row k j. (
        k.0,
        k.1,
        Each-with (IsFound s.leaves row) (λ app. Fitting c app × Distinct app × Given c app) _ (λ app is g. (is.at, g.0, g.1, g.2)) row.apps j.0
            (Each-with (Fitting c) (λ app. Distinct app × Given c app) _ (λ app f g. (f, g.0, g.1)) row.apps j.1 (Each-both Distinct (Given c) row.apps j.2 (given k.0))),
        j.3,
      )) s.leaves
      (Each-both (IsLeaf c) (λ row. AllByRecursion (IsKnown s.leaves row.leaf) row.names) s.leaves leaved.rows leaved.names)
      (Each-with (λ row. AllByRecursion (IsFound s.leaves row) row.apps × AllByRecursion (Fitting c) row.apps) (λ row. AllByRecursion Distinct row.apps × ((is_queue c row.leaf ≡ true) × (is_leaf c row.leaf ≡ true))) _
      (λ row k j. (k.0, k.1, j.0, j.1)) s.leaves
      (Each-both (λ row. AllByRecursion (IsFound s.leaves row) row.apps) (λ row. AllByRecursion (Fitting c) row.apps) s.leaves base.finds entitled.apps)
      (Each-both (λ row. AllByRecursion Distinct row.apps) (λ row. (is_queue c row.leaf ≡ true) × (is_leaf c row.leaf ≡ true)) s.leaves distinct
      (Each-unmap (λ (row : LeafApps). row.leaf) (λ path. (is_queue c path ≡ true) × (is_leaf c path ≡ true)) s.leaves (subst (AllByRecursion (λ path. (is_queue c path ≡ true) × (is_leaf c path ≡ true))) (sym shaped.leaves) (leaves-are c)))))
    where
      given : {row : LeafApps} → IsLeaf c row → AllByRecursion (Given c) row.apps
      given is = is.given

  -- no two leaves have one path
  apart : Pairs (λ (a b : LeafApps). same_path a.leaf b.leaf ≡ false) s.leaves
  apart = let shaped = leaved.shaped in leaves-apart c accepted s.leaves shaped.leaves

  -- a leaf beside another has none of its names
  other-names : (row : LeafApps) → AllByRecursion (IsKnown s.leaves row.leaf) row.names → (other : LeafApps) → AllByRecursion (IsKnown s.leaves other.leaf) other.names → same_path other.leaf row.leaf ≡ false →
      AllByRecursion (λ name. (same_name (tenant_of other.leaf) (tenant_of row.leaf) && list_any (same_name name) other.names) ≡ false) row.names
  other-names row known other others away = Each-weaker (IsKnown s.leaves row.leaf) _ (λ name is. go name is (same_name (tenant_of other.leaf) (tenant_of row.leaf)) refl (list_any (same_name name) other.names) refl) row.names known
    where
      known-of : (name : Name) (names : List Name) → AllByRecursion (IsKnown s.leaves other.leaf) names → list_any (same_name name) names ≡ true → IsKnown s.leaves other.leaf name
      known-of name [] h any = absurd (true≢false (sym any))
      known-of name (x ∷ names) h any = by (same_name name x) refl any (known-of name names h.1)
        where
          by : (b : Bool) → same_name name x ≡ b → (b || list_any (same_name name) names) ≡ true → (list_any (same_name name) names ≡ true → IsKnown s.leaves other.leaf name) → IsKnown s.leaves other.leaf name
          by true e any rest = subst (IsKnown s.leaves other.leaf) (sym (same-name_sym name x e)) h.0
          by false e any rest = rest any

      both : (name : Name) → IsKnown s.leaves row.leaf name → tenant_of other.leaf ≡ tenant_of row.leaf → IsKnown s.leaves other.leaf name → other.leaf ≡ row.leaf
      both name is tenant found = let same : Some other.leaf ≡ Some row.leaf = sym found ∙ ap (λ t. leaf_of s.leaves t name) tenant ∙ is in cc

      go : (name : Name) → IsKnown s.leaves row.leaf name → (a : Bool) → same_name (tenant_of other.leaf) (tenant_of row.leaf) ≡ a → (b : Bool) → list_any (same_name name) other.names ≡ b → (a && b) ≡ false
      go name is false e b f = refl
      go name is true e false f = refl
      go name is true e true f =
          let same : other.leaf ≡ row.leaf = both name is (same-name_sym (tenant_of other.leaf) (tenant_of row.leaf) e) (known-of name other.names others f) in
          absurd (true≢false (sym (same-path_self row.leaf) ∙ ap (λ path. same_path path row.leaf) (sym same) ∙ away))

  -- what holds of each of some rows for each of some names
  crossed : {X Y : Type 0} (R : X → Y → Type 0) (xs : List X) (ys : List Y) → AllByRecursion (λ x. AllByRecursion (R x) ys) xs → AllByRecursion (λ y. AllByRecursion (λ x. R x y) xs) ys
  crossed R xs [] h = tt
  crossed R xs (y ∷ ys) h = (Each-weaker (λ x. AllByRecursion (R x) (y ∷ ys)) (λ x. R x y) (λ x k. k.0) xs h, crossed R xs ys (Each-weaker (λ x. AllByRecursion (R x) (y ∷ ys)) (λ x. AllByRecursion (R x) ys) (λ x k. k.1) xs h))

  -- the lines of one leaf are read over those before it
  leaf-step : (done : List LeafApps) (row : LeafApps) (todo : List LeafApps) → done ++ row ∷ todo ≡ s.leaves →
      Reads c (record s2 { leaves = done ++ map empty (row ∷ todo) }) side (leaf_lines row) (record s2 { leaves = (done ++ row ∷ []) ++ map empty todo }) side
  leaf-step done row todo e =
      subst (λ leaves. Reads c (record s2 { leaves = done ++ map empty (row ∷ todo) }) side (leaf_lines row) (record s2 { leaves = leaves }) side) (one-done done row (map empty todo))
      (reads-leaf c side s2 done row todo (record {
        before = before;
        behind = Each-map (λ (other : LeafApps). same_path row.leaf other.leaf ≡ false) _ empty (λ other k. turned same_path same-path same-path_self row.leaf other.leaf k) todo (pairs-behind (λ (a b : LeafApps). same_path a.leaf b.leaf ≡ false) done row todo differ);
        names = crossed (λ other name. (same_name (tenant_of other.leaf) (tenant_of row.leaf) && list_any (same_name name) other.names) ≡ false) done row.names
            (Each-with (λ (other : LeafApps). same_path other.leaf row.leaf ≡ false) (IsReady c s.leaves) _ (λ other away k. other-names row here.1 other k.1 away) done before parts.0);
        is = here.0;
        apps = here.2;
        queue = here.3.0;
        leaf = here.3.1;
      }))
    where
      differ : Pairs (λ (a b : LeafApps). same_path a.leaf b.leaf ≡ false) (done ++ row ∷ todo)
      differ = subst (Pairs (λ (a b : LeafApps). same_path a.leaf b.leaf ≡ false)) (sym e) apart

      before : AllByRecursion (λ (other : LeafApps). same_path other.leaf row.leaf ≡ false) done
      before = pairs-before (λ (a b : LeafApps). same_path a.leaf b.leaf ≡ false) done row todo differ

      parts : AllByRecursion (IsReady c s.leaves) done × AllByRecursion (IsReady c s.leaves) (row ∷ todo)
      parts = Each-split (IsReady c s.leaves) done (row ∷ todo) (subst (AllByRecursion (IsReady c s.leaves)) (sym e) ready)

      here : IsReady c s.leaves row
      here = parts.1.0

  -- the lines of all leaves
  pub reads-leaves : Reads c (record s2 { leaves = map empty s.leaves }) side (flat_map leaf_lines s.leaves) (record s2 { leaves = s.leaves }) side
  reads-leaves = subst (λ leaves. Reads c (record s2 { leaves = map empty s.leaves }) side (flat_map leaf_lines s.leaves) (record s2 { leaves = leaves }) side) (append-nil s.leaves)
      (plain-section c leaf_lines (λ done todo. record s2 { leaves = done ++ map empty todo }) side s.leaves leaf-step [] s.leaves refl)
