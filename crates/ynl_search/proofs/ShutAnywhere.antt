-- A queue all of whose children are closed in any room is shut in any.
use Rattle.std.proofs.Common.{◌≡◌, ◌<◌, ◌+◌, ℕ, Bool, true, false, ◌&&◌, ◌||◌, nat_eq, List, ◌∷◌, length, get_or, refl, sym, ap, subst, ◌∙◌, arith, true≢false}
use Rattle.std.specs.List.{list_all}
use Rattle.std.proofs.lemmas.Bool.{and_from, and_parts}
use Rattle.std.proofs.lemmas.Bool.Decides.{nat_tests}
use Rattle.std.proofs.lemmas.List.{length-map}
use Rattle.ynl_resource.specs.Names.{is_within, root, way_to}
use Rattle.ynl_resource.specs.declared.labels.Label.{Label}
use Rattle.ynl_resource.specs.declared.names.Name.{Name}
use Rattle.ynl_resource.specs.declared.paths.Path.{Path}
use Rattle.ynl_resource.specs.declared.amounts.Resource.{Resource}
use Rattle.ynl_model.specs.Service.{Item, items_for, last_name, within_master_share, within_user_limit}
use Rattle.ynl_laws.specs.Decided.{below}
use Rattle.ynl_laws.specs.Descent.{IsBelow, IsBelowSome}
use Rattle.ynl_laws.proofs.Lists.{all-weaker}
use Rattle.ynl_laws.proofs.Names.{within-trans}
use Rattle.ynl_inventory.specs.layout.Paths.{names_of, path_at}
use Rattle.ynl_search.specs.descent.Scenes.{Scene}
use Rattle.ynl_inventory.specs.Sound.{HasPartition}
use Rattle.ynl_inventory.proofs.Finding.{not-true}
use Rattle.ynl_cluster.specs.Cluster.{ClusterView, label_of, path_of, state_in}
use Rattle.ynl_search.specs.notes.Shut.{keeps_below, keeps_maximum}
use Rattle.ynl_search.specs.declared.headroom.Headroom.{Headroom}
use Rattle.ynl_search.specs.declared.place.Place.{Place}
use Rattle.ynl_search.specs.Scenes.{IsReached}
use Rattle.ynl_search.specs.Shut.{IsClosedIn, IsShutIn}
use Rattle.ynl_search.proofs.Below.{request-stands, within-less, within-more}
use Rattle.ynl_search.proofs.LeastBelow.{placed}
use Rattle.ynl_search.proofs.Splits.{on-way}
use Rattle.ynl_search.proofs.Trees.{all-of, path-there}

-- one more is closed
pub closed-more : (w : ClusterView) (p : ℕ) (h : Headroom) (children : List ℕ) (n : ℕ) → ((k : ℕ) → k < n → IsClosedIn w p h (get_or children k 0)) → IsClosedIn w p h (get_or children n 0)
    → (k : ℕ) → k < n + 1 → IsClosedIn w p h (get_or children k 0)
closed-more w p h children n before here k below = go (nat_eq k n) refl
  where
    go : (b : Bool) → nat_eq k n ≡ b → IsClosedIn w p h (get_or children k 0)
    go true e = let same : n ≡ k = grind (arith, nat_tests, e) in subst (λ m. IsClosedIn w p h (get_or children m 0)) same here
    go false e = before k (grind (arith, nat_tests, e, below))

module _ (w : ClusterView) (p : ℕ) (has : HasPartition w.rows p) (place : Place) (children : List ℕ) (r : IsReached w place children) where
  abbrev label : Label
  label = label_of w p

  abbrev queue : Path
  queue = path_of w place.queue

  abbrev names : List Name
  names = names_of w.rows.paths children

  abbrev scene : Scene
  scene = record { config = w.config; state = state_in w; label = label; items = items_for (state_in w) label }

  module _ (item : Item) (name : Name) (stands : IsBelow (items_for (state_in w) label) (below queue name) item) (keeps : keeps_below w.config (state_in w) label queue item ≡ true) where
    abbrev test : Path → Bool
    test = keeps_maximum (state_in w) label item.size

    abbrev steps : List Path
    steps = root ∷ way_to item.leaf

    abbrev limits : Bool
    limits = within_user_limit w.config (state_in w) label item && within_master_share w.config (state_in w) label item.leaf item.what item.size

    parts : (list_all (λ step. is_within step queue || test step) steps ≡ true) × (limits ≡ true)
    parts = and_parts (list_all (λ step. is_within step queue || test step) steps) limits keeps

    -- what is kept below a queue is kept by its child
    keeps-own : test (below queue name) ≡ true
    keeps-own = go (is_within (below queue name) queue) (not-true (is_within (below queue name) queue) (within-less queue name)) (on-way (λ step. is_within step queue || test step) (below queue name) item.leaf stands.within parts.0)
      where
        go : (b : Bool) → b ≡ false → (b || test (below queue name)) ≡ true → test (below queue name) ≡ true
        go false e h = h
        go true e h = absurd (true≢false e)

    -- and below the child
    keeps-further : keeps_below w.config (state_in w) label (below queue name) item ≡ true
    keeps-further =
        and_from (list_all (λ step. is_within step (below queue name) || test step) steps) limits
        (all-weaker (λ step. is_within step queue || test step) (λ step. is_within step (below queue name) || test step) (λ step h. go step (is_within step queue) refl h) steps parts.0) parts.1
      where
        either : (a b : Bool) → b ≡ true → (a || b) ≡ true
        either true b h = refl
        either false b h = h

        go : (step : Path) (b : Bool) → is_within step queue ≡ b → (b || test step) ≡ true → (is_within step (below queue name) || test step) ≡ true
        go step true e h = ap (λ b. b || test step) (within-trans step queue (below queue name) e (within-more queue name))
        go step false e h = either (is_within step (below queue name)) (test step) h

  pub shut-anywhere : (room : Resource) → ((k : ℕ) → k < length children → IsClosedIn w p (record { is_open = true; room = room }) (get_or children k 0)) → 0 < length children → IsShutIn w p place.queue room
  shut-anywhere room closed some item h fits = not-true (keeps_below w.config (state_in w) label queue item) (λ keeps. found keeps (all-of w place children r scene (request-stands w r.sound p has) some item h))
    where
      found : keeps_below w.config (state_in w) label queue item ≡ true → IsBelowSome (items_for (state_in w) label) queue names item → ⊥
      found keeps its =
          let at = placed names its.child its.there in
          let path : path_of w (get_or children at.0 0) ≡ below queue its.child = path-there w place children r at.0 at.1 ∙ ap (below queue) at.2 in
          true≢false
          (sym (keeps-further item its.child its.stands keeps)
          ∙ ap (λ (q : Path). keeps_below w.config (state_in w) label q item) (sym path)
          ∙ closed at.0 (subst (λ n. at.0 < n) (length-map children (λ n. last_name (path_at w.rows.paths n))) at.1) item (subst (λ (q : Path). IsBelow (items_for (state_in w) label) q item) (sym path) its.stands) fits
          (ap (λ (q : Path). keeps_maximum (state_in w) label item.size q) path ∙ keeps-own item its.child its.stands keeps))
