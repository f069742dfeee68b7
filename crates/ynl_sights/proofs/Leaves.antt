-- Leaf after leaf.
use Rattle.std.proofs.Common.{◌≡◌, ℕ, zero, suc, ◌+◌, ◌-◌, ◌<◌, ◌≤◌, Bool, true, false, cond, List, [], ◌∷◌, ◌++◌, length, get_or, map, nat_eq, slice_get, Some, take, take_all, append-nil, refl, sym, ap, subst, ◌∙◌, arith, true≢false}
use Rattle.std.specs.Prelude.{flat_map, IfSome}
use Rattle.std.specs.List.{All}
use Rattle.std.specs.Option.{option_map_or}
use Rattle.std.proofs.lemmas.Grind.{flat_map-append}
use Rattle.std.proofs.lemmas.List.{append_assoc}
use Rattle.std.proofs.lemmas.Option.{none-some, same_Some, slice_get-get_or}
use Rattle.ynl_resource.specs.Names.{root}
use Rattle.ynl_resource.specs.declared.labels.Label.TheVariants.{Unlabelled}
use Rattle.ynl_resource.specs.declared.paths.Path.{Path}
use Rattle.ynl_model.specs.Queues.{Config}
use Rattle.ynl_model.specs.Service.{takes_guests}
use Rattle.ynl_inventory.specs.layout.Paths.{HasNumber, path_at}
use Rattle.ynl_slots.proofs.Entries.{other}
use Rattle.ynl_slots.proofs.Lists.{filter_none}
use Rattle.ynl_inventory.specs.Rows.{Rows, AppRow, PartitionRow}
use Rattle.ynl_inventory.specs.Meaning.{has_none_below, label_at, leaf_numbers, leaves_from}
use Rattle.ynl_inventory.specs.Sound.{IsSound}
use Rattle.ynl_inventory.proofs.Lookups.{place-there}
use Rattle.ynl_inventory.proofs.Submitted.{app-submission}
use Rattle.ynl_inventory.proofs.Updates.{each-number}
use Rattle.ynl_cluster.specs.requests.Requests.{Request, item_for}
use Rattle.ynl_sights.specs.Copying.{items_in}
use Rattle.ynl_sights.proofs.Gathered.{read-at}

-- ---- the numbers of leaves

-- with one queue more
leaves-more : (all : List Path) (n k : ℕ) (paths : List Path) (path : Path) → slice_get paths k ≡ Some path
    → leaves_from all n (take (k + 1) paths) ≡ leaves_from all n (take k paths) ++ cond (has_none_below all path) ((n + k) ∷ []) []
leaves-more all n k [] path at = absurd (none-some path at)
leaves-more all n zero (p ∷ paths) path at =
    let here : n ≡ n + zero = omega arith in
    append-nil (cond (has_none_below all p) (n ∷ []) []) ∙ (λ i. cond (has_none_below all (same_Some p path at i)) (here i ∷ []) [])
leaves-more all n (suc k) (p ∷ paths) path at =
    let next : suc k + 1 ≡ suc (k + 1) = omega arith in
    let there : n + 1 + k ≡ n + suc k = omega arith in
    ap (λ m. leaves_from all n (take m (p ∷ paths))) next
    ∙ ap (λ rest. cond (has_none_below all p) (n ∷ []) [] ++ rest)
    (leaves-more all (n + 1) k paths path at ∙ ap (λ (m : ℕ). leaves_from all (n + 1) (take k paths) ++ cond (has_none_below all path) (m ∷ []) []) there)
    ∙ sym (append_assoc (cond (has_none_below all p) (n ∷ []) []) (leaves_from all (n + 1) (take k paths)) (cond (has_none_below all path) ((n + suc k) ∷ []) []))

-- by the number of that queue
leaf-more : (paths : List Path) (k queue : ℕ) → queue ≡ k + 1 → HasNumber paths queue
    → leaves_from paths 1 (take (k + 1) paths) ≡ leaves_from paths 1 (take k paths) ++ cond (has_none_below paths (path_at paths queue)) (queue ∷ []) []
leaf-more paths k queue is inside =
    let here : 1 + k ≡ queue = omega (arith, is) in
    let number : k + 1 ≡ queue = omega (arith, is) in
    let at : slice_get paths k ≡ Some (get_or paths k root) = slice_get-get_or paths k root (omega (arith, inside, is)) in
    leaves-more paths 1 k paths (get_or paths k root) at
    ∙ (λ i. leaves_from paths 1 (take k paths) ++ cond (has_none_below paths ((ap (path_at paths) (sym (suc-is k)) ∙ ap (path_at paths) number) i)) (here i ∷ []) [])
  where
    suc-is : (k : ℕ) → k + 1 ≡ suc k
    suc-is k = omega arith

-- those before a queue
abbrev pub leaves_before : List Path → ℕ → List ℕ
leaves_before paths queue = leaves_from paths 1 (take (queue - 1) paths)

pub all-before : (paths : List Path) (queue : ℕ) → length (root ∷ paths) ≤ queue → leaves_before paths queue ≡ leaf_numbers paths
all-before paths queue past = ap (leaves_from paths 1) (take_all (queue - 1) paths (omega (arith, past)))

-- a queue that is no leaf has no applications
pub none-there : (v : Rows) → IsSound v → (among : ℕ → AppRow → List Request) (q : ℕ) → has_none_below v.paths (path_at v.paths q) ≡ false → items_in v among q ≡ []
none-there v sound among q inner =
    ap (flat_map (λ (e : ℕ × AppRow). map (item_for v e.1) (among e.0 e.1)))
    (filter_none (λ e. nat_eq e.1.leaf q) v.apps
    (each-number (λ n row. nat_eq row.leaf q ≡ false) v.apps sound.app_numbers (λ n row found.
    other row.leaf q (λ same. true≢false (sym (app-submission v sound n row found).leaf ∙ ap (λ l. has_none_below v.paths (path_at v.paths l)) same ∙ inner)))))

-- ---- what is copied of them

-- of one queue more
pub one-more : {Y : Type 0} (of_leaf : ℕ → List Y) (paths : List Path) (queue : ℕ) → 1 ≤ queue → HasNumber paths queue → (has_none_below paths (path_at paths queue) ≡ false → of_leaf queue ≡ [])
    → (done longer : List Y) → done ≡ flat_map of_leaf (leaves_before paths queue) → longer ≡ done ++ of_leaf queue
    → longer ≡ flat_map of_leaf (leaves_before paths (queue + 1))
one-more {Y = Y} of_leaf paths queue some inside none done longer so_far grown =
    let k = queue - 1 in
    let next : k + 1 ≡ queue + 1 - 1 = omega (arith, some) in
    grown
    ∙ (λ j. so_far j ++ sym (own (has_none_below paths (path_at paths queue)) refl) j)
    ∙ sym (flat_map-append of_leaf (leaves_before paths queue) (cond (has_none_below paths (path_at paths queue)) (queue ∷ []) []))
    ∙ ap (flat_map of_leaf) (sym (leaf-more paths k queue (omega (arith, some)) inside) ∙ ap (λ n. leaves_from paths 1 (take n paths)) next)
  where
    own : (b : Bool) → has_none_below paths (path_at paths queue) ≡ b → flat_map of_leaf (cond b (queue ∷ []) []) ≡ of_leaf queue
    own true is = append-nil (of_leaf queue)
    own false is = sym (none is)

-- ---- partitions that take guests

-- what is read of a partition's row is what the model says of its label
pub takes-told : (c : Config) (rows : List PartitionRow) → All (λ row. row.guests ≡ takes_guests c row.label) rows → (p : ℕ) → p < length rows
    → (result : Bool) → IfSome (slice_get rows p) (λ row. result ≡ row.guests) → result ≡ takes_guests c (label_at rows p)
takes-told c rows all p has result read =
    let part = place-there rows p has in
    subst (λ o. IfSome o (λ (row : PartitionRow). result ≡ row.guests)) part.1 read
    ∙ subst (λ (row : PartitionRow). row.guests ≡ takes_guests c row.label) (read-at rows p part.0 part.0 part.1) (all p part.0 has)
    ∙ sym (ap (λ o. takes_guests c (option_map_or (λ (row : PartitionRow). row.label) o Unlabelled)) part.1)
