-- Where requests stand below a queue that was reached: below those just below it, and in it if it is a leaf.
use Rattle.std.proofs.Common.{◌≡◌, ◌≢◌, ◌<◌, ℕ, zero, suc, Bool, true, false, not, ◌&&◌, ◌||◌, List, [], ◌∷◌, ◌++◌, length, get_or, Contains, inl, inr, refl, sym, ap, subst, ◌∙◌, arith, true≢false}
use Rattle.std.specs.List.{list_any}
use Rattle.std.proofs.lemmas.Bool.{and_from, and_parts, cases_eq}
use Rattle.std.proofs.lemmas.List.{get_or-map, get_or_default}
use Rattle.std.proofs.lemmas.List.Elements.{All-contains}
use Rattle.std.proofs.lemmas.Option.{slice_get-get_or}
use Rattle.ynl_resource.specs.Names.{is_within, root, same_name, same_path}
use Rattle.ynl_resource.specs.declared.labels.Label.{Label}
use Rattle.ynl_resource.specs.declared.names.Name.{Name}
use Rattle.ynl_resource.specs.declared.paths.Path.{Path}
use Rattle.ynl_model.specs.declared.nodes.Node.{Node}
use Rattle.ynl_model.specs.Service.{Item, asks_for, has_room, is_eligible, items_for, last_name}
use Rattle.ynl_laws.specs.Decided.{below}
use Rattle.ynl_laws.proofs.Names.{same-name_self, same-path, within-self, within-trans}
use Rattle.ynl_inventory.specs.layout.Paths.{AreChildren, CoverBelow, HasNumber, IsChild, IsTree, names_of, path_at}
use Rattle.ynl_search.specs.descent.Scenes.{AreAllBelow, HasNone, Scene}
use Rattle.ynl_search.proofs.descent.Turns.{counts-less}
use Rattle.ynl_inventory.specs.Rows.{Rows, AppRow}
use Rattle.ynl_inventory.specs.Meaning.{has_none_below}
use Rattle.ynl_inventory.specs.Sound.{HasPartition, IsLeaf, IsSound}
use Rattle.ynl_inventory.proofs.AppChange.{path-self}
use Rattle.ynl_inventory.proofs.Finding.{not-true}
use Rattle.ynl_inventory.proofs.Submitted.{app-submission}
use Rattle.ynl_cluster.specs.requests.Requests.{Request, Wants, asked, wanted}
use Rattle.ynl_cluster.proofs.requests.Members.{Among, among-contained, among-filter, any-among, contained-among, map-among, place-among}
use Rattle.ynl_cluster.proofs.requests.Wanted.{asked-means, wanted-means}
use Rattle.ynl_cluster.specs.Cluster.{ClusterView, label_of, maxima_in, state_in, stops_in}
use Rattle.ynl_search.specs.Scenes.{guest_scene, own_scene, queues_below}

-- ---- paths

-- a child is within its parent
pub within-more : (path : Path) (name : Name) → is_within path (below path name) ≡ true
within-more [] name = refl
within-more (step ∷ path) name = and_from (same_name step step) (is_within path (below path name)) (same-name_self step) (within-more path name)

-- and its parent is not within it
pub within-less : (path : Path) (name : Name) → is_within (below path name) path ≡ true → ⊥
within-less [] name h = true≢false (sym h)
within-less (step ∷ path) name h = within-less path name (and_parts (same_name step step) (is_within (below path name) path) h).1

apart-more : (path : Path) (name : Name) → path ≡ below path name → ⊥
apart-more path name same = within-less path name (subst (λ q. is_within q path ≡ true) same (within-self path))

-- its name is the last of its path
last-below : (path : Path) (name : Name) → last_name (below path name) ≡ name
last-below [] name = refl
last-below (step ∷ []) name = refl
last-below (step ∷ next ∷ path) name = last-below (next ∷ path) name

-- one of a list that passes is some
pub among-any : {X : Type 0} (p : X → Bool) (x : X) (xs : List X) → Among x xs → p x ≡ true → list_any p xs ≡ true
among-any p x [] there passes = absurd there
among-any p x (y ∷ ys) (inl same) passes = ap (λ b. b || list_any p ys) (ap p same ∙ passes)
among-any p x (y ∷ ys) (inr there) passes = late (p y) (among-any p x ys there passes)
  where
    late : (b : Bool) → list_any p ys ≡ true → (b || list_any p ys) ≡ true
    late true h = refl
    late false h = h

-- a queue below root is among the paths
path-among : (paths : List Path) (n : ℕ) → HasNumber paths n → n ≢ 0 → Among (path_at paths n) paths
path-among paths zero has below = absurd (below refl)
path-among paths (suc k) has below = place-among k (path_at paths (suc k)) paths (slice_get-get_or paths k root (omega (arith, has)))

-- ---- requests stand in leaves

pub record StandsIn (v : Rows) (item : Item) : Type 0 where
  pub leaf : ℕ
  pub is : IsLeaf v leaf
  pub path : item.leaf ≡ path_at v.paths leaf

abbrev pub HaveLeaves : Rows → List Item → Type 0
HaveLeaves v items = (item : Item) → Contains items item → StandsIn v item

wanted-stands : (v : Rows) → IsSound v → (among : ℕ → AppRow → List Request) (item : Item) → Wants v among item → StandsIn v item
wanted-stands v sound among item want =
    let its = app-submission v sound want.number want.row want.found in
    record { leaf = want.row.leaf; is = record { there = its.there; none_below = its.leaf }; path = ap (λ (i : Item). i.leaf) want.is }

module _ (w : ClusterView) (sound : IsSound w.rows) where
  -- a request for a partition does
  pub request-stands : (p : ℕ) → HasPartition w.rows p → HaveLeaves w.rows (items_for (state_in w) (label_of w p))
  request-stands p has item there = wanted-stands w.rows sound (wanted w.rows p) item ((wanted-means w.rows sound (stops_in w) (maxima_in w) p has item).0 there)

  pub own-stand : (p : ℕ) → HasPartition w.rows p → (node : Node) → node.label ≡ label_of w p → HaveLeaves w.rows (own_scene w node).items
  own-stand p has node there item in_scene =
      let one = among-filter (is_eligible w.config (state_in w) node) item (items_for (state_in w) node.label) (among-contained item (own_scene w node).items in_scene) in
      request-stands p has item (subst (λ (label : Label). Contains (items_for (state_in w) label) item) there (contained-among item (items_for (state_in w) node.label) one.0))

  pub asks-stand : HaveLeaves w.rows (asks_for (state_in w) (label_of w 0))
  asks-stand item there = wanted-stands w.rows sound (asked w.rows 0) item ((asked-means w.rows sound (stops_in w) (maxima_in w) 0 sound.some item).0 there)

  pub guests-stand : (node : Node) → HaveLeaves w.rows (guest_scene w node).items
  guests-stand node item in_scene =
      let test : Item → Bool = λ item. has_room (state_in w) node item.size in
      let one = among-filter test item (asks_for (state_in w) (guest_scene w node).label) (among-contained item (guest_scene w node).items in_scene) in
      wanted-stands w.rows sound (asked w.rows 0) item
      ((asked-means w.rows sound (stops_in w) (maxima_in w) 0 sound.some item).0
      (subst (λ (label : Label). Contains (asks_for (state_in w) label) item) (sym sound.default) (contained-among item (asks_for (state_in w) (guest_scene w node).label) one.0)))

-- ---- below a queue

module _ (v : Rows) (tree : IsTree v.paths) (q : ℕ) (has : HasNumber v.paths q) (children : List ℕ) (are : AreChildren v.paths q children) (cover : CoverBelow v.paths q children) where
  abbrev path : Path
  path = path_at v.paths q

  child-there : (place : ℕ) → place < length children → IsChild v.paths q (get_or children place 0)
  child-there place inside = are.each place 0 inside

  pub child-number : (child : ℕ) → IsChild v.paths q child → child ≢ 0
  child-number child is zero_is = apart (path_at v.paths q) (last_name (path_at v.paths child)) (ap (path_at v.paths) (sym zero_is) ∙ is.path)
    where
      apart : (p : Path) (name : Name) → [] ≡ p ++ name ∷ [] → ⊥
      apart [] name same = cc same
      apart (step ∷ p) name same = cc same

  child-within : (child : ℕ) → IsChild v.paths q child → is_within path (path_at v.paths child) ≡ true
  child-within child is = ap (is_within path) is.path ∙ within-more path (last_name (path_at v.paths child))

  child-apart : (child : ℕ) → IsChild v.paths q child → path ≡ path_at v.paths child → ⊥
  child-apart child is same = apart-more path (last_name (path_at v.paths child)) (same ∙ is.path)

  -- a queue with another just below it is no leaf
  not-leaf : (child : ℕ) → IsChild v.paths q child → IsLeaf v q → ⊥
  not-leaf child is leaf = true≢false (sym none ∙ ap not some)
    where
      test : Path → Bool
      test other = is_within path other && not (same_path path other)

      none : not (list_any test v.paths) ≡ true
      none = (and_parts (not (same_path path root)) (not (list_any test v.paths)) leaf.none_below).1

      some : list_any test v.paths ≡ true
      some =
          among-any test (path_at v.paths child) v.paths (path-among v.paths child is.there (child-number child is))
          (and_from (is_within path (path_at v.paths child)) (not (same_path path (path_at v.paths child))) (child-within child is)
          (ap not (not-true (same_path path (path_at v.paths child)) (λ same. child-apart child is (same-path path (path_at v.paths child) same)))))

  -- what stands below it stands below one of those just below it
  pub all-below : (w_scene : Scene) → HaveLeaves v w_scene.items → 0 < length children → AreAllBelow (record { scene = w_scene; path = path_at v.paths q; children = names_of v.paths children })
  all-below scene stand some item h =
      let at : StandsIn v item = stand item h.among in
      elim (cases_eq at.leaf q) [
        | inl same ↦ absurd (not-leaf (get_or children 0 0) (child-there 0 some) (subst (IsLeaf v) same at.is))
        | inr apart ↦
            let c = cover at.leaf at.is.there (λ same. apart (sym same)) (ap (is_within path) (sym at.path) ∙ h.within) in
            let is : IsChild v.paths q c.0 = All-contains (IsChild v.paths q) children c.0 are.each c.1 in
            record {
              child = last_name (path_at v.paths c.0);
              there = contained-among (last_name (path_at v.paths c.0)) (names_of v.paths children) (map-among (λ n. last_name (path_at v.paths n)) c.0 children (among-contained c.0 children c.1));
              stands = record {
                among = h.among;
                within = ap (λ leaf. is_within (below path (last_name (path_at v.paths c.0))) leaf) at.path ∙ ap (λ p. is_within p (path_at v.paths at.leaf)) (sym is.path) ∙ c.2;
              };
            }
      ]

  -- a queue below root with none below it is a leaf
  pub is-leaf : length children ≡ 0 → q ≢ 0 → IsLeaf v q
  is-leaf none below_root = record {
    there = has;
    none_below =
        and_from (not (same_path path root)) (not (list_any test v.paths))
        (ap not (not-true (same_path path root) (λ same. below_root (tree.apart q 0 has (omega arith) (same-path path root same)))))
        (ap not (not-true (list_any test v.paths) (λ some. nothing (any-among test v.paths some))));
  }
    where
      test : Path → Bool
      test other = is_within path other && not (same_path path other)

      nothing : (other : Path) × Among other v.paths × (test other ≡ true) → ⊥
      nothing found =
          let parts = and_parts (is_within path found.0) (not (same_path path found.0)) found.2 in
          let at = contained-among found.0 v.paths found.1 in
          let number : path_at v.paths (suc at.0) ≡ found.0 = get_or_default v.paths at.0 root found.0 at.1 ∙ at.2 in
          let c = cover (suc at.0) (omega (arith, at.1)) (λ same. true≢false (sym parts.1 ∙ ap not (ap (same_path path) (sym number ∙ ap (path_at v.paths) (sym same)) ∙ path-self path))) (ap (is_within path) number ∙ parts.0) in
          omega (arith, c.1.1, none)

  -- a root with none below it has no request
  pub no-request : (w_scene : Scene) → HaveLeaves v w_scene.items → length children ≡ 0 → q ≡ 0 → HasNone w_scene (path_at v.paths q)
  no-request scene stand none is_root item h =
      let at : StandsIn v item = stand item h.among in
      elim (cases_eq q at.leaf) [
        | inl same ↦ root-leaf (subst (λ n. has_none_below v.paths (path_at v.paths n) ≡ true) (sym same ∙ is_root) at.is.none_below)
        | inr apart ↦ let c = cover at.leaf at.is.there apart (ap (is_within path) (sym at.path) ∙ h.within) in omega (arith, c.1.1, none)
      ]
    where
      root-leaf : has_none_below v.paths (path_at v.paths 0) ≡ true → ⊥
      root-leaf leaf = true≢false (sym leaf)

  -- the names of those just below it, by their places
  pub name-at : (place : ℕ) → place < length children → get_or (names_of v.paths children) place [] ≡ last_name (path_at v.paths (get_or children place 0))
  name-at place inside = get_or-map (λ n. last_name (path_at v.paths n)) children place 0 [] inside

  pub path-below : (place : ℕ) → place < length children → below (path_at v.paths q) (get_or (names_of v.paths children) place []) ≡ path_at v.paths (get_or children place 0)
  path-below place inside = ap (below path) (name-at place inside) ∙ sym (child-there place inside).path

  pub last-at : (place : ℕ) → place < length children → last_name (below (path_at v.paths q) (get_or (names_of v.paths children) place [])) ≡ get_or (names_of v.paths children) place []
  last-at place inside = last-below path (get_or (names_of v.paths children) place [])

  -- fewer queues stand at or below one of them
  pub fewer-below : (place : ℕ) → place < length children → queues_below v.paths (path_at v.paths (get_or children place 0)) < queues_below v.paths (path_at v.paths q)
  fewer-below place inside =
      let is : IsChild v.paths q (get_or children place 0) = child-there place inside in
      counts-less (is_within path) (is_within (path_at v.paths (get_or children place 0))) (root ∷ v.paths) q root
      (λ other h. within-trans path (path_at v.paths (get_or children place 0)) other (child-within (get_or children place 0) is) h) has (within-self path)
      (not-true (is_within (path_at v.paths (get_or children place 0)) path) (λ h. within-less path (last_name (path_at v.paths (get_or children place 0))) (ap (λ p. is_within p path) (sym is.path) ∙ h)))
