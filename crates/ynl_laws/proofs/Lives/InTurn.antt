-- Each live application is found by its name among those of its leaf, so that its place there is its own.
use Rattle.std.proofs.Common.{◌≡◌, List, [], Option, Some, None, filter, find, option_map, refl, sym, ap, subst, ◌∙◌}
use Rattle.std.specs.Prelude.{IfSome, slice_get}
use Rattle.std.specs.List.{AllByRecursion}
use Rattle.std.specs.Option.{option_map_or, option_and_then}
use Rattle.std.specs.Cmp.Lexicographic.{pointwise_decides, bytes_decides}
use Rattle.std.proofs.lemmas.List.Folds.{find_at}
use Rattle.ynl_resource.specs.Names.{same_name, same_path, tenant_of}
use Rattle.ynl_resource.specs.declared.paths.Path.{Path}
use Rattle.ynl_model.specs.Queues.{Config, QueueRow, is_leaf}
use Rattle.ynl_model.specs.Applications.{Application, LeafApps, apps_of, all_apps, row_of, leaf_of, find_app, in_leaf, submitted, with_app, finished, set_ask}
use Rattle.ynl_model.specs.Cluster.{State}
use Rattle.ynl_model.specs.Service.{place_in_leaf}
use Rattle.ynl_model.specs.Changes.{node_joins, node_leaves, changed_at, taken, place, end, app_finishes}
use Rattle.ynl_model.specs.Events.{state_after}
use Rattle.ynl_model.specs.declared.events.Event.{Event}
use Rattle.ynl_laws.specs.Working.{IsKnown, KnowsAll}
use Rattle.ynl_laws.proofs.Events.Found.{IsFound, FindsAll}
use Rattle.ynl_laws.proofs.Events.Lasting.{Lasts, lasting}
use Rattle.ynl_laws.proofs.Lists.{Each-flat, Each-with, Each-found, EachKeyed, keyed-update, keyed-made}
use Rattle.ynl_laws.proofs.Logic.{some-same}
use Rattle.ynl_laws.proofs.Names.{same-path}

-- ---- rows of leaves

-- each row is the one that its leaf finds: where a leaf has two, they are the same
abbrev pub EachRow : List LeafApps → Type 0
EachRow leaves = EachKeyed same_path (λ row. row.leaf) leaves

-- a change of one leaf keeps that
changed : (leaf : Path) (change : LeafApps → LeafApps) → ((row : LeafApps) → (change row).leaf ≡ row.leaf) → (leaves : List LeafApps) → EachRow leaves → EachRow (in_leaf leaf change leaves)
changed leaf change keeps leaves h = keyed-update same_path (λ row. row.leaf) (λ row. same_path row.leaf leaf) change keeps leaves h

rows-last : (c : Config) → Lasts (λ s. EachRow s.leaves) c
unfolding node_joins node_leaves end place changed_at app_finishes
rows-last c = record {
  joins = λ s name label size h. h;
  leaves = λ s node h. h;
  ends = λ s container h. h;
  placed = λ s node item h kept finds known wanted. changed item.leaf (with_app item.app (taken item.what)) (λ row. refl) s.leaves h;
  submits = λ s app h kept finds unused may none. changed app.leaf (submitted app) (λ row. refl) s.leaves h;
  asks = λ s tenant name found ask h finds e own. changed found.leaf (with_app name (set_ask ask)) (λ row. refl) s.leaves h;
  finishes = λ s found h finds. changed found.leaf (finished found.name) (λ row. refl) s.leaves h;
  elsewhere = λ s u nodes rows leaves h. subst EachRow leaves h;
}

-- it holds in each state
pub rows-after : (c : Config) (events : List Event) → EachRow (state_after c events).leaves
rows-after c events = lasting (λ s. EachRow s.leaves) c (rows-last c)
    (keyed-made same_path (λ (row : LeafApps). row.leaf) (λ (row : QueueRow). record { leaf = row.path; names = []; apps = [] })
    (λ path. (pointwise_decides bytes_decides path path).1 refl) (λ a b e. ap (λ path. record { leaf = path; names = []; apps = [] }) (same-path a.path b.path e)) (filter (λ row. is_leaf c row.path) c.queues)) events

-- ---- places

-- an application is what its name finds in its leaf
abbrev pub IsInTurn : State → Application → Type 0
IsInTurn s app = find (λ other. same_name other.name app.name) (apps_of s.leaves app.leaf) ≡ Some app

-- each live application is
pub in-turn : (s : State) → KnowsAll s.leaves s.leaves → FindsAll s.leaves → EachRow s.leaves → AllByRecursion (IsInTurn s) (all_apps s.leaves)
unfolding find_app leaf_of
in-turn s knows finds rows = Each-flat (λ row. AllByRecursion (IsInTurn s) row.apps) (IsInTurn s) (λ row. row.apps) (λ row k. k) s.leaves
    (Each-with _ _ _ (λ row k f. Each-with _ _ (IsInTurn s) (turn row) row.apps k f) s.leaves knows finds)
  where
    turn : (at : LeafApps) (app : Application) → IsKnown s.leaves app.leaf app.name → IsFound s.leaves at app → IsInTurn s app
    turn at app known found = go (row_of s.leaves (tenant_of app.leaf) app.name) known found.itself (Each-found _ _ s.leaves rows)
      where
        go : (o : Option LeafApps) → option_map (λ row. row.leaf) o ≡ Some app.leaf → option_and_then (λ row. find (λ other. same_name other.name app.name) row.apps) o ≡ Some app →
            IfSome o (λ row. find (λ other. same_path other.leaf row.leaf) s.leaves ≡ Some row) → IsInTurn s app
        go None k f at = cc
        go (Some row) k f at =
            let leaf : row.leaf ≡ app.leaf = some-same row.leaf app.leaf (Some app.leaf) (sym k) refl in
            ap (λ path. find (λ other. same_name other.name app.name) (apps_of s.leaves path)) (sym leaf)
            ∙ ap (λ o. find (λ other. same_name other.name app.name) (option_map_or (λ row. row.apps) o [])) at ∙ f

-- two of one leaf that have one place there are one
pub one-in-turn : (s : State) (a b : Application) → IsInTurn s a → IsInTurn s b → a.leaf ≡ b.leaf → place_in_leaf s a.leaf a.name ≡ place_in_leaf s b.leaf b.name → a ≡ b
one-in-turn s a b first second leaf place =
    some-same a b (found a) first (find_at (λ app. same_name app.name a.name) (apps_of s.leaves a.leaf) ∙ (λ i. slice_get (apps_of s.leaves (leaf i)) (place i)) ∙ sym (find_at (λ app. same_name app.name b.name) (apps_of s.leaves b.leaf)) ∙ second)
  where
    found : Application → Option Application
    found app = find (λ other. same_name other.name app.name) (apps_of s.leaves app.leaf)
