-- What a descent asks of the queues that it comes to.
use Rattle.std.proofs.Common.{◌≡◌, ◌≢◌, ◌<◌, ℕ, List, [], length, get_or, sym, ap, subst, ◌∙◌, arith}
use Rattle.std.proofs.lemmas.List.{length-map}
use Rattle.ynl_resource.specs.declared.labels.Label.{Label}
use Rattle.ynl_resource.specs.declared.names.Name.{Name}
use Rattle.ynl_resource.specs.declared.paths.Path.{Path}
use Rattle.ynl_model.specs.Cluster.{guaranteed, used}
use Rattle.ynl_model.specs.Service.{Item, last_name}
use Rattle.ynl_laws.specs.Decided.{below}
use Rattle.ynl_inventory.specs.layout.Paths.{IsChild, names_of, path_at}
use Rattle.ynl_search.specs.declared.descent.standing.Standing.{Standing}
use Rattle.ynl_search.specs.descent.Scenes.{AreAllBelow, HasNone, Scene}
use Rattle.ynl_search.specs.descent.Turns.{IsStanding}
use Rattle.ynl_inventory.specs.Sound.{IsLeaf}
use Rattle.ynl_cluster.specs.Cluster.{ClusterView, label_of, path_of, state_in}
use Rattle.ynl_search.specs.declared.place.Place.{Place}
use Rattle.ynl_search.specs.Scenes.{IsReached, branch_at, queues_below}
use Rattle.ynl_search.proofs.Below.{HaveLeaves, all-below, fewer-below, is-leaf, last-at, no-request, path-below}

module _ (w : ClusterView) (place : Place) (children : List ℕ) (r : IsReached w place children) where
  abbrev names : List Name
  names = names_of w.rows.paths children

  many : length names ≡ length children
  many = length-map children (λ n. last_name (path_at w.rows.paths n))

  pub all-of : (scene : Scene) → HaveLeaves w.rows scene.items → 0 < length children → AreAllBelow (branch_at w scene place.queue children)
  all-of scene stand some = all-below w.rows r.sound.tree place.queue r.queue children r.all r.cover scene stand some

  pub leaf-of : length names ≡ 0 → place.queue ≢ 0 → IsLeaf w.rows place.queue
  leaf-of none below_root = is-leaf w.rows r.sound.tree place.queue r.queue children r.all r.cover (sym many ∙ none) below_root

  pub none-in : (scene : Scene) → HaveLeaves w.rows scene.items → length names ≡ 0 → place.queue ≡ 0 → HasNone scene (path_of w place.queue)
  none-in scene stand none is_root = no-request w.rows r.sound.tree place.queue r.queue children r.all r.cover scene stand (sym many ∙ none) is_root

  -- a child is a queue below root
  pub child-in : (at : ℕ) → at < length children → IsChild w.rows.paths place.queue (get_or children at 0)
  child-in at inside = r.all.each at 0 inside

  pub child-at : (at : ℕ) → at < length names → IsChild w.rows.paths place.queue (get_or children at 0)
  child-at at inside = child-in at (omega (arith, inside, many))

  -- the path of a child, by its number
  pub path-there : (at : ℕ) → at < length names → path_of w (get_or children at 0) ≡ below (path_of w place.queue) (get_or names at [])
  path-there at inside = sym (path-below w.rows r.sound.tree place.queue r.queue children r.all r.cover at (omega (arith, inside, many)))

  module _ (at : ℕ) (inside : at < length names) (child : Place) (is : child.queue ≡ get_or children at 0) where
    within : at < length children
    within = omega (arith, inside, many)

    pub child-lower : queues_below w.rows.paths (path_of w child.queue) < queues_below w.rows.paths (path_of w place.queue)
    child-lower =
        subst (λ (path : Path). queues_below w.rows.paths path < queues_below w.rows.paths (path_of w place.queue)) (ap (path_of w) (sym is))
        (fewer-below w.rows r.sound.tree place.queue r.queue children r.all r.cover at within)

  -- how a child stands is how it stands in the model
  pub child-stands : (at : ℕ) → at < length names → (p : ℕ) (items : List Item) (label : Label) → label_of w p ≡ label → (s : Standing) → s.place ≡ at
      → s.used ≡ (used (state_in w) (path_of w (get_or children at 0)) (label_of w p)).memory
      → s.guaranteed ≡ (guaranteed w.config (state_in w) (path_of w (get_or children at 0)) (label_of w p)).memory
      → IsStanding (branch_at w (record { config = w.config; state = state_in w; label = label; items = items }) place.queue children) s
  child-stands at inside p items label there s own uses has = record {
    there = subst (λ k. k < length names) (sym own) inside;
    right = λ i. record {
      ratio = record {
        used = (uses ∙ (λ j. (used (state_in w) (path j) (there j)).memory)) i;
        guaranteed = (has ∙ (λ j. (guaranteed w.config (state_in w) (path j) (there j)).memory)) i;
      };
      name = sym (last-at w.rows r.sound.tree place.queue r.queue children r.all r.cover s.place (subst (λ k. k < length children) (sym own) (omega (arith, inside, many)))) i;
    };
  }
    where
      path : path_of w (get_or children at 0) ≡ below (path_of w place.queue) (get_or names s.place [])
      path = path-there at inside ∙ ap (λ k. below (path_of w place.queue) (get_or names k [])) (sym own)
