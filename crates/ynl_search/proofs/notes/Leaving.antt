-- What is left of what was noted is right after a change.
use Rattle.ynl_resource.specs.declared.paths.Path.{Path}
use Rattle.std.proofs.Common.{◌||◌, ◌≡◌, ℕ, zero, suc, ◌<◌, Bool, true, false, ◌&&◌, List, [], ◌∷◌, length, map, slice_get, Option, None, Some, refl, sym, ap, subst, ◌∙◌, true≢false}
use Rattle.std.specs.Prelude.{IfSome, slice_index_or}
use Rattle.std.specs.Option.{option_map_or}
use Rattle.std.proofs.lemmas.List.{length-map}
use Rattle.std.proofs.lemmas.Option.{none-some, same_Some}
use Rattle.ynl_resource.specs.Names.{is_within, same_path}
use Rattle.ynl_resource.specs.declared.amounts.Resource.{Resource}
use Rattle.ynl_resource.specs.declared.labels.Label.{Label}
use Rattle.ynl_resource.specs.declared.labels.Label.TheVariants.{Unlabelled}
use Rattle.ynl_model.specs.Nodes.{partition_labels}
use Rattle.ynl_model.specs.Queues.{Config}
use Rattle.ynl_model.specs.Cluster.{State}
use Rattle.ynl_inventory.specs.layout.Paths.{HasNumber, path_at, paths_of}
use Rattle.ynl_inventory.specs.Rows.{PartitionRow}
use Rattle.ynl_inventory.specs.Sound.{IsFor, IsSound}
use Rattle.ynl_inventory.proofs.Submitted.{app-submission}
use Rattle.ynl_cluster.specs.Cluster.{ClusterView, IsCell, label_of, maxima_in, path_of, state_in, stops_in}
use Rattle.ynl_resource.specs.Amounts.{fits_in}
use Rattle.ynl_resource.specs.Names.{root}
use Rattle.std.specs.List.{list_any}
use Rattle.std.proofs.lemmas.Bool.{and_parts}
use Rattle.std.proofs.Common.{Contains, not, arith}
use Rattle.ynl_model.specs.Service.{Item, items_for}
use Rattle.ynl_laws.specs.Descent.{IsBelow}
use Rattle.ynl_laws.proofs.Amounts.{fits-trans}
use Rattle.ynl_laws.proofs.Names.{same-path, within-self, within-trans}
use Rattle.ynl_inventory.specs.Meaning.{has_none_below}
use Rattle.ynl_inventory.specs.Sound.{HasPartition, IsLeaf}
use Rattle.ynl_cluster.specs.requests.Requests.{Wants, wanted}
use Rattle.ynl_cluster.proofs.requests.Wanted.{wanted-means}
use Rattle.std.proofs.lemmas.Option.{slice_get-get_or}
use Rattle.ynl_search.specs.declared.notes.noted.Noted.{Noted}
use Rattle.ynl_search.specs.notes.Notes.{Table, noted_at}
use Rattle.ynl_search.specs.notes.Shut.{AreAtLeast, AreOwnRight, IsRight, IsShut}
use Rattle.ynl_search.specs.notes.Laws.{Stays}
use Rattle.ynl_search.specs.notes.Upkeep.{AreLeft, IsLeft, is_on_way}

-- ---- cells

-- the field of a row in a place
field-at : {X Y : Type 0} (f : X → Y) (xs : List X) (n : ℕ) (d : Y) → option_map_or f (slice_get xs n) d ≡ slice_index_or (map f xs) n d
field-at f [] n d = refl
field-at f (x ∷ xs) zero d = refl
field-at f (x ∷ xs) (suc n) d = field-at f xs n d

-- two clusters have the same partitions and queues, and are configured alike
pub record HaveSameCells (w u : ClusterView) : Type 0 where
  pub config : u.config ≡ w.config
  pub there : (p q : ℕ) → IsCell u p q → IsCell w p q
  pub labels : (p : ℕ) → label_of u p ≡ label_of w p
  pub paths : (q : ℕ) → path_of u q ≡ path_of w q

-- clusters of one configuration have them
pub same-cells : (w u : ClusterView) → IsFor w.config w.rows → IsFor u.config u.rows → u.config ≡ w.config → HaveSameCells w u
same-cells w u before after config = record {
  config = config;
  there = λ p q cell. record {
    partition = subst (λ n. p < n) (sym (length-map u.rows.partitions label) ∙ ap length labels ∙ length-map w.rows.partitions label) cell.partition;
    queue = subst (λ paths. HasNumber paths q) paths cell.queue;
  };
  labels = λ p. field-at label u.rows.partitions p Unlabelled ∙ ap (λ ls. slice_index_or ls p Unlabelled) labels ∙ sym (field-at label w.rows.partitions p Unlabelled);
  paths = λ q. ap (λ paths. path_at paths q) paths;
}
  where
    label : PartitionRow → Label
    label row = row.label

    labels : map label u.rows.partitions ≡ map label w.rows.partitions
    labels = after.labels ∙ ap (λ (c : Config). partition_labels c.labels) config ∙ sym before.labels

    paths : u.rows.paths ≡ w.rows.paths
    paths = after.paths ∙ ap paths_of config ∙ sym before.paths

-- ---- leaves

-- a queue with none below it has no other within it
off-leaf : (paths : List Path) (queue other : Path) (k : ℕ) → has_none_below paths queue ≡ true → slice_get paths k ≡ Some other → same_path queue other ≡ false → is_within queue other ≡ false
off-leaf paths queue other k leaf there apart =
    go (is_within queue other) refl (none paths k there (not-false (list_any is_other paths) (and_parts (not (same_path queue root)) (not (list_any is_other paths)) leaf).1))
  where
    is_other : Path → Bool
    is_other other = is_within queue other && not (same_path queue other)

    not-false : (b : Bool) → not b ≡ true → b ≡ false
    not-false true h = absurd (true≢false (sym h))
    not-false false h = refl

    none : (paths : List Path) (k : ℕ) → slice_get paths k ≡ Some other → list_any is_other paths ≡ false → is_other other ≡ false
    none [] k there h = absurd (none-some other there)
    none (path ∷ paths) zero there h = ap is_other (sym (same_Some path other there)) ∙ first (is_other path) h
      where
        first : (b : Bool) → (b || list_any is_other paths) ≡ false → b ≡ false
        first true h = absurd (true≢false h)
        first false h = refl
    none (path ∷ paths) (suc k) there h = none paths k there (rest (is_other path) h)
      where
        rest : (b : Bool) → (b || list_any is_other paths) ≡ false → list_any is_other paths ≡ false
        rest true h = absurd (true≢false h)
        rest false h = h

    go : (b : Bool) → is_within queue other ≡ b → (b && not (same_path queue other)) ≡ false → b ≡ false
    go true e h = absurd (true≢false (sym (ap not apart) ∙ h))
    go false e h = refl

-- the path of a leaf stands among the paths
leaf-place : (paths : List Path) (q : ℕ) → has_none_below paths (path_at paths q) ≡ true → HasNumber paths q → (k : ℕ) × (slice_get paths k ≡ Some (path_at paths q))
leaf-place paths zero leaf inside = absurd (true≢false (sym leaf))
leaf-place paths (suc k) leaf inside = (k, slice_get-get_or paths k root (omega (arith, inside)))

-- a request for a partition is of a leaf
pub record IsOfLeaf (w : ClusterView) (item : Item) : Type 0 where
  pub number : ℕ
  pub is : IsLeaf w.rows number
  pub at : item.leaf ≡ path_of w number

pub of-leaf : (w : ClusterView) → IsSound w.rows → (p : ℕ) → HasPartition w.rows p → (item : Item) → Contains (items_for (state_in w) (label_of w p)) item → IsOfLeaf w item
of-leaf w sound p has item there = record {
  number = wants.row.leaf;
  is = record { there = (app-submission w.rows sound wants.number wants.row wants.found).there; none_below = (app-submission w.rows sound wants.number wants.row wants.found).leaf };
  at = ap (λ (i : Item). i.leaf) wants.is;
}
  where
    wants : Wants w.rows (wanted w.rows p) item
    wants = (wanted-means w.rows sound (stops_in w) (maxima_in w) p has item).0 there

-- ---- what is left

module _ (w u : ClusterView) (same : HaveSameCells w u) (after : IsSound u.rows) (leaf : ℕ) (is_leaf : IsLeaf u.rows leaf) (on : ℕ → Bool) (old left : Table) (are : AreLeft u leaf on old left)
    (stays : (p q : ℕ) → IsCell w p q → is_on_way w leaf on p q ≡ false → Stays w.config (state_in w) (state_in u) (label_of w p) (path_of w q)) where
  abbrev t : State
  t = state_in u

  -- what stands on the way in one stands there in the other
  way-same : (p q : ℕ) → is_on_way u leaf on p q ≡ is_on_way w leaf on p q
  way-same p q = λ i. on p && is_within (same.paths q i) (same.paths leaf i)

  module _ (p q : ℕ) (cell : IsCell u p q) (right : IsRight w.config (state_in w) (label_of w p) (path_of w q) (noted_at old p q)) where
    abbrev before : Noted
    before = noted_at old p q

    abbrev now : Noted
    now = noted_at left p q

    abbrev is : IsLeft u leaf on p q before now
    is = are p q cell

    here : is_on_way u leaf on p q ≡ false → Stays w.config (state_in w) t (label_of w p) (path_of w q)
    here off = stays p q (same.there p q cell) (sym (way-same p q) ∙ off)

    room-right : IfSome now.room (IsShut w.config t (label_of w p) (path_of w q))
    room-right = go now.room is.room
      where
        go : (o : Option Resource) → IfSome o (λ room. (before.room ≡ Some room) × (is_on_way u leaf on p q ≡ false)) → IfSome o (IsShut w.config t (label_of w p) (path_of w q))
        go None h = tt
        go (Some room) h = (here h.1).shut room (subst (λ o. IfSome o (IsShut w.config (state_in w) (label_of w p) (path_of w q))) h.0 right.room)

    -- a request of another leaf was for so much at least before
    other-leaf : (item : Item) → IsBelow (items_for t (label_of w p)) (path_of w q) item → same_path item.leaf (path_of u leaf) ≡ false → fits_in before.least item.size ≡ true
    other-leaf item below apart =
        (stays p own.number (same.there p own.number (record { partition = cell.partition; queue = own.is.there })) off).least before.least
        (λ other there. right.least other (record { among = there.among; within = within-trans (path_of w q) (path_of w own.number) other.leaf way there.within }))
        item (record { among = below.among; within = ap (is_within (path_of w own.number)) at ∙ within-self (path_of w own.number) })
      where
        own : IsOfLeaf u item
        own = of-leaf u after p cell.partition item (subst (λ l. Contains (items_for t l) item) (sym (same.labels p)) below.among)

        at : item.leaf ≡ path_of w own.number
        at = own.at ∙ same.paths own.number

        way : is_within (path_of w q) (path_of w own.number) ≡ true
        way = sym (ap (is_within (path_of w q)) at) ∙ below.within

        off : is_on_way w leaf on p own.number ≡ false
        off =
            sym (way-same p own.number)
            ∙ ap (λ b. on p && b)
            (off-leaf u.rows.paths (path_of u own.number) (path_of u leaf) (leaf-place u.rows.paths leaf is_leaf.none_below is_leaf.there).0 own.is.none_below
            (leaf-place u.rows.paths leaf is_leaf.none_below is_leaf.there).1 (ap (λ path. same_path path (path_of u leaf)) (sym own.at) ∙ apart))
            ∙ no-more (on p)
          where
            no-more : (b : Bool) → (b && false) ≡ false
            no-more true = refl
            no-more false = refl

    least-right : AreAtLeast (items_for t (label_of w p)) (path_of w q) now.least
    least-right item below = go (is_on_way u leaf on p q) refl
      where
        enough : fits_in before.least item.size ≡ true → fits_in now.least item.size ≡ true
        enough fits = fits-trans now.least before.least item.size is.below fits

        go : (b : Bool) → is_on_way u leaf on p q ≡ b → fits_in now.least item.size ≡ true
        go false off = enough ((here off).least before.least right.least item below)
        go true way = by-leaf (same_path item.leaf (path_of u leaf)) refl
          where
            by-leaf : (b : Bool) → same_path item.leaf (path_of u leaf) ≡ b → fits_in now.least item.size ≡ true
            by-leaf false apart = enough (other-leaf item below apart)
            by-leaf true at =
                is.own way item
                (record {
                  among = subst (λ l. Contains (items_for t l) item) (sym (same.labels p)) below.among;
                  within = ap (is_within (path_of u leaf)) (same-path item.leaf (path_of u leaf) at) ∙ within-self (path_of u leaf);
                })

    all-right : IsRight u.config t (label_of u p) (path_of u q) now
    all-right =
        subst (λ c. IsRight c t (label_of u p) (path_of u q) now) (sym same.config)
        (subst (λ l. IsRight w.config t l (path_of u q) now) (sym (same.labels p))
        (subst (λ path. IsRight w.config t (label_of w p) path now) (sym (same.paths q)) (record { room = room-right; least = least-right })))

  pub after-change : AreOwnRight w old → AreOwnRight u left
  after-change right p q cell = all-right p q cell (right p q (same.there p q cell))
