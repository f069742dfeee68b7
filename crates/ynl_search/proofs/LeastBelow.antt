-- The least of what each request below the children of a queue is for is what each request below the queue is for at least.
use Rattle.std.proofs.Common.{◌≡◌, ◌<◌, ◌+◌, ℕ, Bool, true, false, nat_eq, List, [], length, get_or, Contains, sym, ap, refl, subst, ◌∙◌, arith}
use Rattle.std.proofs.lemmas.Bool.Decides.{nat_tests}
use Rattle.std.proofs.lemmas.List.{get_or_default, length-map}
use Rattle.ynl_resource.specs.Amounts.{fits_in, smaller_of}
use Rattle.ynl_resource.specs.declared.amounts.Resource.{Resource}
use Rattle.ynl_resource.specs.declared.labels.Label.{Label}
use Rattle.ynl_resource.specs.declared.names.Name.{Name}
use Rattle.ynl_resource.specs.declared.paths.Path.{Path}
use Rattle.ynl_model.specs.Service.{Item, last_name}
use Rattle.ynl_laws.specs.Decided.{below}
use Rattle.ynl_laws.specs.Descent.{IsBelow, IsBelowSome}
use Rattle.ynl_laws.proofs.Amounts.{fits-trans}
use Rattle.ynl_inventory.specs.layout.Paths.{names_of, path_at}
use Rattle.ynl_search.specs.descent.Scenes.{Scene}
use Rattle.ynl_cluster.specs.Cluster.{ClusterView, path_of, state_in}
use Rattle.ynl_search.specs.notes.Shut.{AreAtLeast}
use Rattle.ynl_search.specs.declared.place.Place.{Place}
use Rattle.ynl_search.specs.Scenes.{IsReached}
use Rattle.ynl_search.proofs.Below.{HaveLeaves}
use Rattle.ynl_search.proofs.Trees.{all-of, path-there}

-- the place of a name among names
pub placed : (some : List Name) (name : Name) → Contains some name → (place : ℕ) × (place < length some) × (get_or some place [] ≡ name)
placed some name there = (there.0, there.1, get_or_default some there.0 [] name there.1 ∙ there.2)

module _ (w : ClusterView) (items : List Item) where
  -- one more least, that below one more queue
  pub least-more : (queues : List ℕ) (n : ℕ) (least low : Resource) → ((k : ℕ) → k < n → AreAtLeast items (path_of w (get_or queues k 0)) least)
      → AreAtLeast items (path_of w (get_or queues n 0)) low → (k : ℕ) → k < n + 1 → AreAtLeast items (path_of w (get_or queues k 0)) (smaller_of least low)
  least-more queues n least low before here k under item h = go (nat_eq k n) refl
    where
      first : (a b : Resource) → fits_in (smaller_of a b) a ≡ true
      first a b = grind (arith, nat_tests)

      second : (a b : Resource) → fits_in (smaller_of a b) b ≡ true
      second a b = grind (arith, nat_tests)

      go : (b : Bool) → nat_eq k n ≡ b → fits_in (smaller_of least low) item.size ≡ true
      go true e =
          let same : k ≡ n = grind (arith, nat_tests, e) in
          fits-trans (smaller_of least low) low item.size (second least low) (here item (subst (λ m. IsBelow items (path_of w (get_or queues m 0)) item) same h))
      go false e = fits-trans (smaller_of least low) least item.size (first least low) (before k (grind (arith, nat_tests, e, under)) item h)

  -- what each is for at least below all of the children
  pub least-all : (place : Place) (children : List ℕ) → IsReached w place children → (label : Label) → HaveLeaves w.rows items → (least : Resource)
      → ((k : ℕ) → k < length children → AreAtLeast items (path_of w (get_or children k 0)) least) → 0 < length children → AreAtLeast items (path_of w place.queue) least
  least-all place children r label stand least each some item h = found (all-of w place children r scene stand some item h)
    where
      scene : Scene
      scene = record { config = w.config; state = state_in w; label = label; items = items }

      found : IsBelowSome items (path_of w place.queue) (names_of w.rows.paths children) item → fits_in least item.size ≡ true
      found its =
          let at = placed (names_of w.rows.paths children) its.child its.there in
          let path : path_of w (get_or children at.0 0) ≡ below (path_of w place.queue) its.child = path-there w place children r at.0 at.1 ∙ ap (below (path_of w place.queue)) at.2 in
          each at.0 (subst (λ n. at.0 < n) (length-map children (λ n. last_name (path_at w.rows.paths n))) at.1) item
          (subst (λ (q : Path). IsBelow items q item) (sym path) its.stands)
