-- Each leaf is as it was tested, each name of a leaf finds that leaf, and that stays with each change.
use Rattle.std.proofs.Common.{◌≡◌, ◌≤◌, Bool, true, false, ◌&&◌, ◌||◌, is_some, List, [], ◌∷◌, length, map, Option, Some, None, filter, find, refl, sym, ap, subst, ◌∙◌, arith}
use Rattle.std.specs.Prelude.{nat_le, ⊤, IsTrue, IfSome}
use Rattle.std.specs.List.{AllByRecursion, list_any}
use Rattle.std.specs.Option.{option_map_or, option_map, option_and_then}
use mathlib.Core.Bool.{true≢false}
use Rattle.ynl_resource.specs.Names.{same_label, same_name, same_path, tenant_of}
use Rattle.ynl_resource.specs.Ranges.{most_asks}
use Rattle.ynl_resource.specs.declared.names.Name.{Name}
use Rattle.ynl_resource.specs.declared.paths.Path.{Path}
use Rattle.ynl_model.specs.Accepted.{is_accepted}
use Rattle.ynl_model.specs.Applications.{Application, LeafApps, apps_of, find_app, finished, in_leaf, leaf_of, no_apps, row_of, set_ask, submitted, with_app}
use Rattle.ynl_model.specs.declared.applications.AskRow.{AskRow}
use Rattle.ynl_model.specs.Changes.{app_finishes, changed_at, end, node_joins, node_leaves, place, taken}
use Rattle.ynl_model.specs.Cluster.{State, opening}
use Rattle.ynl_model.specs.Events.{has_most_apps, is_one_too_many}
use Rattle.ynl_model.specs.Queues.{Config, QueueRow, is_leaf, setting}
use Rattle.ynl_laws.specs.Working.{IsKnown, Pairs}
use Rattle.ynl_laws.proofs.Events.Changed.{taken-name}
use Rattle.ynl_laws.proofs.Events.Found.{FindsAll, IsFound, finds-found}
use Rattle.ynl_laws.proofs.Events.Kept.{KeepsNames, finished-names, leaf_of-kept, submit-extends, submit-finds, with_app-names}
use Rattle.ynl_laws.proofs.Lists.{Each-all, Each-append, Each-both, Each-map, Each-weaker, Each-with, found-passes, none-found, update-none}
use Rattle.ynl_laws.proofs.Logic.{some-same}
use Rattle.ynl_laws.proofs.Names.{same-name_self, same-name_sym, same-path}
use Rattle.std.specs.Cmp.Lexicographic.{pointwise_decides, bytes_decides}
use Rattle.ynl_saved.proofs.Changing.{Comes, Goes}
use Rattle.ynl_saved.proofs.Configured.{leaves-differ}
use Rattle.ynl_saved.proofs.Leaves.{Given, IsLeaf, given-asked, given-taken, leaf-changed, leaf-finished, leaf-submitted}
use Rattle.ynl_saved.proofs.Rows.{Each-updated, keyed-of, pairs-keys, pairs-made, turned}
use Rattle.ynl_saved.proofs.Shapes.{Shaped, shaped-goes, shaped-opening}

-- each name of each leaf finds that leaf
abbrev pub AllNamed : List LeafApps → List LeafApps → Type 0
AllNamed leaves rows = AllByRecursion (λ row. AllByRecursion (IsKnown leaves row.leaf) row.names) rows

-- what is known of all leaves
pub record Leaved (c : Config) (s : State) : Type 0 where
  pub shaped : Shaped c s
  pub rows : AllByRecursion (IsLeaf c) s.leaves
  pub names : AllNamed s.leaves s.leaves

-- a path is the same as itself
pub same-path_self : (a : Path) → same_path a a ≡ true
same-path_self a = (pointwise_decides bytes_decides a a).1 refl

-- a change of a leaf that keeps its names
pub named-kept : (leaf : Path) (change : LeafApps → LeafApps) → KeepsNames change → (leaves : List LeafApps) → AllNamed leaves leaves → AllNamed (in_leaf leaf change leaves) (in_leaf leaf change leaves)
named-kept leaf change keeps leaves h =
    Each-updated (λ row. AllByRecursion (IsKnown leaves row.leaf) row.names) (λ row. AllByRecursion (IsKnown (in_leaf leaf change leaves) row.leaf) row.names) (λ row. same_path row.leaf leaf) change
    (λ row e k. subst (λ path. AllByRecursion (IsKnown (in_leaf leaf change leaves) path) (change row).names) (sym (keeps.leaf row))
    (subst (AllByRecursion (IsKnown (in_leaf leaf change leaves) row.leaf)) (sym (keeps.names row)) (still row k)))
    (λ row e k. still row k) leaves h
  where
    still : (row : LeafApps) → AllByRecursion (IsKnown leaves row.leaf) row.names → AllByRecursion (IsKnown (in_leaf leaf change leaves) row.leaf) row.names
    still row k = Each-weaker (IsKnown leaves row.leaf) (IsKnown (in_leaf leaf change leaves) row.leaf) (λ name known. leaf_of-kept leaf change keeps leaves (tenant_of row.leaf) name ∙ known) row.names k

-- an application is submitted whose name was not used
pub named-submitted : (app : Application) (leaves : List LeafApps) → is_some (leaf_of leaves (tenant_of app.leaf) app.name) ≡ false → AllNamed leaves leaves → AllNamed (in_leaf app.leaf (submitted app) leaves) (in_leaf app.leaf (submitted app) leaves)
named-submitted app leaves unused h = go (list_any (λ row. same_path row.leaf app.leaf) leaves) refl
  where
    new : List LeafApps
    new = in_leaf app.leaf (submitted app) leaves

    still : (row : LeafApps) → AllByRecursion (IsKnown leaves row.leaf) row.names → AllByRecursion (IsKnown new row.leaf) row.names
    still row k = Each-weaker (IsKnown leaves row.leaf) (IsKnown new row.leaf) (λ name known. submit-extends app leaves unused (tenant_of row.leaf) name (ap is_some known) ∙ known) row.names k

    go : (b : Bool) → list_any (λ row. same_path row.leaf app.leaf) leaves ≡ b → AllNamed new new
    go true there = Each-updated (λ row. AllByRecursion (IsKnown leaves row.leaf) row.names) (λ row. AllByRecursion (IsKnown new row.leaf) row.names) (λ row. same_path row.leaf app.leaf) (submitted app)
        (λ row e k. Each-append (IsKnown new row.leaf) row.names (app.name ∷ []) (still row k) (subst (λ path. IsKnown new path app.name) (sym (same-path row.leaf app.leaf e)) (submit-finds app leaves unused there), tt))
        (λ row e k. still row k) leaves h
    go false none = let same : new ≡ leaves = update-none _ (submitted app) leaves none in subst (λ rows. AllNamed rows rows) (sym same) h

-- a name that the tenant has not used is none of its leaf's
pub unused-free : (app : Application) (leaves : List LeafApps) → is_some (leaf_of leaves (tenant_of app.leaf) app.name) ≡ false → AllByRecursion (λ row. same_path row.leaf app.leaf ≡ true → AllByRecursion (λ name. same_name name app.name ≡ false) row.names) leaves
unfolding leaf_of
unused-free app leaves unused = Each-weaker _ _ (λ row off at. names row (any row off at)) leaves (none-found _ leaves (nothing (row_of leaves (tenant_of app.leaf) app.name) unused))
  where
    nothing : (o : Option LeafApps) → is_some (option_map (λ row. row.leaf) o) ≡ false → o ≡ None
    nothing None k = refl
    nothing (Some row) k = absurd (true≢false k)

    any : (row : LeafApps) → (same_name (tenant_of row.leaf) (tenant_of app.leaf) && list_any (same_name app.name) row.names) ≡ false → same_path row.leaf app.leaf ≡ true → list_any (same_name app.name) row.names ≡ false
    any row off at = sym (ap (λ b. b && list_any (same_name app.name) row.names) (ap (λ path. same_name (tenant_of path) (tenant_of app.leaf)) (same-path row.leaf app.leaf at) ∙ same-name_self (tenant_of app.leaf))) ∙ off

    names : (row : LeafApps) → list_any (same_name app.name) row.names ≡ false → AllByRecursion (λ name. same_name name app.name ≡ false) row.names
    names row off = each row.names off
      where
        each : (xs : List Name) → list_any (same_name app.name) xs ≡ false → AllByRecursion (λ name. same_name name app.name ≡ false) xs
        each [] k = tt
        each (x ∷ xs) k = go (same_name app.name x) refl k (each xs)
          where
            go : (b : Bool) → same_name app.name x ≡ b → (b || list_any (same_name app.name) xs) ≡ false → (list_any (same_name app.name) xs ≡ false → AllByRecursion (λ name. same_name name app.name ≡ false) xs) →
                (same_name x app.name ≡ false) × AllByRecursion (λ name. same_name name app.name ≡ false) xs
            go true e k rest = absurd (true≢false k)
            go false e k rest = (turned same_name same-name_sym same-name_self app.name x e, rest k)

-- the application of a name that is found has it
pub found-name : (leaves : List LeafApps) (tenant name : Name) (app : Application) → find_app leaves tenant name ≡ Some app → app.name ≡ name
unfolding find_app
found-name leaves tenant name app e = go (row_of leaves tenant name) e
  where
    go : (o : Option LeafApps) → option_and_then (λ row. find (λ app. same_name app.name name) row.apps) o ≡ Some app → app.name ≡ name
    go None e = cc
    go (Some row) e = same-name_sym app.name name (subst (λ o. IfSome o (λ app. same_name app.name name ≡ true)) e (found-passes (λ app. same_name app.name name) row.apps))

module _ (c : Config) (accepted : IsTrue (is_accepted c)) where
  -- leaves have paths of their own
  pub leaves-apart : (leaves : List LeafApps) → map (λ row. row.leaf) leaves ≡ map (λ row. row.leaf) (no_apps c) → Pairs (λ (a b : LeafApps). same_path a.leaf b.leaf ≡ false) leaves
  leaves-apart leaves e = pairs-keys same_path (λ (row : LeafApps). row.leaf) leaves (map (λ row. row.leaf) (no_apps c)) e (pairs-made (λ (row : LeafApps). row.leaf) (λ a b. same_path a b ≡ false) (no_apps c) (leaves-differ c accepted))

  -- a row is what its path finds
  abbrev IsRow : List LeafApps → LeafApps → Type 0
  IsRow leaves row = find (λ (other : LeafApps). same_path other.leaf row.leaf) leaves ≡ Some row

  -- and so each leaf is what its path finds
  pub leaves-keyed : (s : State) → Shaped c s → AllByRecursion (IsRow s.leaves) s.leaves
  leaves-keyed s h = keyed-of same_path (λ (row : LeafApps). row.leaf) same-path same-path_self s.leaves (leaves-apart s.leaves h.leaves)

  -- what is submitted has a place
  room : (s : State) (app : Application) (row : LeafApps) → IsRow s.leaves row → same_path row.leaf app.leaf ≡ true → has_most_apps c s app.leaf ≡ false → nat_le (setting (λ row. row.leaf.maximum_applications) 0 c row.leaf) (length row.apps) ≡ false
  room s app row is at most =
      let same : row.leaf ≡ app.leaf = same-path row.leaf app.leaf at in
      sym (ap (λ o. nat_le (setting (λ row. row.leaf.maximum_applications) 0 c row.leaf) (length (option_map_or (λ (r : LeafApps). r.apps) o []))) is)
      ∙ subst (λ path. nat_le (setting (λ row. row.leaf.maximum_applications) 0 c path) (length (apps_of s.leaves path)) ≡ false) (sym same) most

  -- what is submitted is as it was tested
  new-given : (s : State) (app : Application) → Comes c s app → Given c app
  new-given s app comes = record {
    master = comes.given;
    asks = subst (AllByRecursion _) (sym comes.none) tt;
    few = λ label. subst (λ asks. length (filter (λ (other : AskRow). same_label other.label label) asks) ≤ most_asks) (sym comes.none) (omega arith);
  }

  -- the application that asks is the one that is found
  pub asking : (s : State) (tenant name : Name) (found : Application) → FindsAll s.leaves → find_app s.leaves tenant name ≡ Some found → (row : LeafApps) (app : Application) → same_path row.leaf found.leaf ≡ true → same_name app.name name ≡ true →
      IsFound s.leaves row app → app ≡ found
  asking s tenant name found finds e row app at named is =
      let leaf : app.leaf ≡ found.leaf = is.at ∙ same-path row.leaf found.leaf at in
      let one : app.name ≡ found.name = same-name_sym app.name name named ∙ sym (found-name s.leaves tenant name found e) in
      some-same app found (find_app s.leaves (tenant_of app.leaf) app.name) is.itself ((λ i. find_app s.leaves (tenant_of (leaf i)) (one i)) ∙ finds-found s finds tenant name found e)

  -- that stays with each change
  pub leaved-goes : Goes (Leaved c) c
  unfolding node_joins node_leaves place changed_at app_finishes end
  leaved-goes = let shape = shaped-goes c in record {
    joins = λ s name label size b h known place. record { shaped = shape.joins s name label size b h.shaped known place; rows = h.rows; names = h.names };
    leaves = λ s node b h. record { shaped = shape.leaves s node b h.shaped; rows = h.rows; names = h.names };
    ends = λ s container b h. record { shaped = shape.ends s container b h.shaped; rows = h.rows; names = h.names };
    placed = λ s node item b h fits wanted served fresh. record {
      shaped = shape.placed s node item b h.shaped fits wanted served fresh;
      rows = Each-updated (IsLeaf c) (IsLeaf c) (λ row. same_path row.leaf item.leaf) (with_app item.app (taken item.what))
          (λ row e k. leaf-changed c (Given c) item.app (taken item.what) (taken-name item.what) row (λ app n g _. given-taken c item.what app g) k.given k) (λ row e k. k) s.leaves h.rows;
      names = named-kept item.leaf (with_app item.app (taken item.what)) (with_app-names item.app (taken item.what)) s.leaves h.names;
    };
    submits = λ s app b h comes. record {
      shaped = shape.submits s app b h.shaped comes;
      rows = Each-updated (λ row. IsLeaf c row × IsRow s.leaves row × (same_path row.leaf app.leaf ≡ true → AllByRecursion (λ name. same_name name app.name ≡ false) row.names)) (IsLeaf c) (λ row. same_path row.leaf app.leaf) (submitted app)
          (λ row e k. leaf-submitted c app row (k.2 e) (room s app row k.1 e comes.place) (new-given s app comes) k.0) (λ row e k. k.0) s.leaves
          (Each-with (IsLeaf c) (λ row. IsRow s.leaves row × (same_path row.leaf app.leaf ≡ true → AllByRecursion (λ name. same_name name app.name ≡ false) row.names)) _ (λ row k j. (k, j.0, j.1)) s.leaves h.rows
          (Each-both (IsRow s.leaves) _ s.leaves (leaves-keyed s h.shaped) (unused-free app s.leaves comes.unused)));
      names = named-submitted app s.leaves comes.unused h.names;
    };
    asks = λ s tenant name label priority count size found b h e own given few. record {
      shaped = shape.asks s tenant name label priority count size found b h.shaped e own given few;
      rows = Each-updated (λ row. IsLeaf c row × AllByRecursion (IsFound s.leaves row) row.apps) (IsLeaf c) (λ row. same_path row.leaf found.leaf) (with_app name (set_ask (record { label = label; priority = priority; count = count; size = size })))
          (λ row at k. leaf-changed c (IsFound s.leaves row) name (set_ask (record { label = label; priority = priority; count = count; size = size })) (λ app. refl) row
          (λ app n is g. given-asked c label priority count size app given (ap (is_one_too_many label priority count) (asking s tenant name found b.finds e row app at n is) ∙ few) g) k.1 k.0) (λ row at k. k.0) s.leaves
          (Each-both (IsLeaf c) (λ row. AllByRecursion (IsFound s.leaves row) row.apps) s.leaves h.rows b.finds);
      names = named-kept found.leaf (with_app name (set_ask (record { label = label; priority = priority; count = count; size = size }))) (with_app-names name _) s.leaves h.names;
    };
    finishes = λ s found b h. record {
      shaped = shape.finishes s found b h.shaped;
      rows = Each-updated (IsLeaf c) (IsLeaf c) (λ row. same_path row.leaf found.leaf) (finished found.name) (λ row e k. leaf-finished c found.name row k) (λ row e k. k) s.leaves h.rows;
      names = named-kept found.leaf (finished found.name) (finished-names found.name) s.leaves h.names;
    };
    stops = λ s queue stopped h. record { shaped = shape.stops s queue stopped h.shaped; rows = h.rows; names = h.names };
    maxima = λ s queue label share h may high. record { shaped = shape.maxima s queue label share h.shaped may high; rows = h.rows; names = h.names };
  }

  -- it holds at first
  pub leaved-opening : Leaved c (opening c)
  leaved-opening = record {
    shaped = shaped-opening c;
    rows = Each-map (λ (row : QueueRow). ⊤) (IsLeaf c) _ (λ row _. record { differ = tt; order = refl; few = omega arith; given = tt }) (filter (λ row. is_leaf c row.path) c.queues) (Each-all (λ (row : QueueRow). ⊤) (λ row. tt) (filter (λ row. is_leaf c row.path) c.queues));
    names = Each-map (λ (row : QueueRow). ⊤) (λ row. AllByRecursion (IsKnown (no_apps c) row.leaf) row.names) _ (λ row _. tt) (filter (λ row. is_leaf c row.path) c.queues) (Each-all (λ (row : QueueRow). ⊤) (λ row. tt) (filter (λ row. is_leaf c row.path) c.queues));
  }
