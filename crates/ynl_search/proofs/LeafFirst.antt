-- What is found in a leaf is the model's first eligible request there.
use Rattle.std.proofs.Common.{◌≡◌, ℕ, Bool, true, false, cond, nat_eq, List, filter, Option, None, Some, option_map, refl, sym, ap, subst, ◌∙◌}
use Rattle.std.specs.Map.{lookup}
use Rattle.std.specs.Option.{option_map_or}
use Rattle.std.specs.Prelude.{IfSome}
use Rattle.std.proofs.lemmas.Option.{none-some}
use Rattle.ynl_resource.specs.declared.labels.Label.{Label}
use Rattle.ynl_model.specs.declared.nodes.Node.{Node}
use Rattle.ynl_model.specs.declared.queues.StopRow.{StopRow}
use Rattle.ynl_model.specs.declared.queues.MaximumRow.{MaximumRow}
use Rattle.ynl_model.specs.Cluster.{State, free, user_used}
use Rattle.ynl_model.specs.Queues.{Config}
use Rattle.ynl_model.specs.Service.{Item, is_eligible, items_for, key}
use Rattle.ynl_laws.specs.Descent.{IsBelow}
use Rattle.ynl_laws.specs.First.{IsFirst, is_later}
use Rattle.ynl_inventory.specs.layout.Paths.{path_at}
use Rattle.ynl_lanes.specs.lane.Seats.{Seat}
use Rattle.ynl_inventory.specs.Rows.{Rows, AppRow}
use Rattle.ynl_inventory.specs.Meaning.{item_of, label_at, state_of}
use Rattle.ynl_inventory.specs.Sound.{HasPartition, IsLeaf, IsSound}
use Rattle.ynl_inventory.specs.Apps.{is_master_role}
use Rattle.ynl_inventory.proofs.Finding.{not-true}
use Rattle.ynl_cluster.specs.seating.Seating.{user_use}
use Rattle.ynl_cluster.proofs.seating.UserUse.{is-user_use}
use Rattle.ynl_cluster.specs.requests.First.{Asker, IsFirstPassing, item_by}
use Rattle.ynl_cluster.specs.requests.Requests.{Request, item_for, wanted}
use Rattle.ynl_cluster.proofs.requests.First.{first-means}
use Rattle.ynl_cluster.proofs.requests.Members.{among-contained, contained-among, filter-among}
use Rattle.ynl_cluster.proofs.requests.Running.{what-master}
use Rattle.ynl_cluster.proofs.requests.Wanted.{wanted-means}
use Rattle.ynl_search.specs.notes.Lanes.{IsLaneOf}
use Rattle.ynl_search.proofs.notes.Listed.{listed}
use Rattle.ynl_search.specs.declared.leaf.LeafTests.{LeafTests}
use Rattle.ynl_search.specs.InLeaf.{first_own}
use Rattle.ynl_search.specs.Laws.{FirstOwnIsModel, IsOwnWanted, is_wanted, item_found, no_item}
use Rattle.ynl_search.specs.Leaves.{AreLimits, AreTests, passes_ask, passes_master}
use Rattle.ynl_search.proofs.FirstIn.{first-in, found_by}
use Rattle.ynl_search.proofs.Tests.{is_within_limits, tests-limit, tests-tell}
use Rattle.ynl_search.proofs.Wanted.{own-wanted}

module _ (v : Rows) (sound : IsSound v) (stops : List StopRow) (maxima : List MaximumRow) (q : ℕ) (leaf : IsLeaf v q) where
  abbrev s : State
  s = state_of v stops maxima

  module _ (p : ℕ) (has : HasPartition v p) (seats : List (ℕ × Seat)) (lane : IsLaneOf v p q seats) (c : Config) (node : Node) (there : node.label ≡ label_at v.partitions p) (tests : LeafTests)
      (are : AreTests c s (label_at v.partitions p) (free s node) (path_at v.paths q) tests) where
    -- the tests tell of each request of the leaf whether it is eligible
    tell : (n : ℕ) (row : AppRow) → lookup (nat_eq n) v.apps ≡ Some row → row.leaf ≡ q → (r : Request)
        → is_eligible c s node (item_for v row r) ≡ cond (is_master_role r.role) (passes_master tests (user_use v p q row.user) r.size) (passes_ask tests (user_use v p q row.user) r.size)
    tell n row found own r =
        sym (tests-tell c s (label_at v.partitions p) (path_at v.paths q) tests node (item_for v row r) are there (ap (path_at v.paths) own))
        ∙ (λ i. cond (what-master v r.role i) (passes_master tests (used i) r.size) (passes_ask tests (used i) r.size))
      where
        used : user_used s (path_at v.paths q) (item_for v row r).user (label_at v.partitions p) ≡ user_use v p q row.user
        used = is-user_use v sound p q row.user has leaf (sound.apps n row found).user stops maxima

    -- what was found is the request of the asker
    item-is : (a : Option Asker) → IsFirstPassing v (wanted v p) (is_eligible c s node) q a → option_map (item_found v) (option_map found_by a) ≡ option_map (item_by v) a
    item-is None first = refl
    item-is (Some a) first = ap (λ o. Some (option_map_or (λ (row : AppRow). item_of v row a.request.role a.request.size) o no_item)) first.0.found

    found-first : IsFirst (is_later (key c s node.label)) (IsBelow (filter (is_eligible c s node) (items_for s node.label)) (path_at v.paths q)) (option_map (item_found v) (first_own v seats p tests))
    found-first =
        let found = first-in v p q seats lane tests (is_eligible c s node) tell in
        subst (λ (label : Label). IsFirst (is_later (key c s node.label)) (IsBelow (filter (is_eligible c s node) (items_for s label)) (path_at v.paths q)) (option_map (item_found v) (first_own v seats p tests))) (sym there)
        (subst (IsFirst (is_later (key c s node.label)) (IsBelow (filter (is_eligible c s node) (items_for s (label_at v.partitions p))) (path_at v.paths q)))
        (sym (item-is found.0 found.1) ∙ ap (option_map (item_found v)) found.2)
        (first-means v sound stops maxima q leaf (listed v sound stops maxima q leaf) (wanted v p) (items_for s (label_at v.partitions p)) (λ item. (wanted-means v sound stops maxima p has item).0) (λ item. (wanted-means v sound stops maxima p has item).1)
        (is_eligible c s node) found.0 found.1 c node.label))

    found-wanted : IfSome (first_own v seats p tests) (λ found. is_wanted v p found ≡ true)
    found-wanted =
        let found = first-in v p q seats lane tests (is_eligible c s node) tell in
        subst (λ o. IfSome o (λ found. is_wanted v p found ≡ true)) found.2 (own-wanted v p (is_eligible c s node) q found.0 found.1)

  -- where nothing is found by tests that are right but for their headroom, no request for which there is headroom keeps the limits
  module _ (p : ℕ) (has : HasPartition v p) (seats : List (ℕ × Seat)) (lane : IsLaneOf v p q seats) (c : Config) (tests : LeafTests)
      (are : AreLimits c s (label_at v.partitions p) (path_at v.paths q) tests) where
    abbrev label : Label
    label = label_at v.partitions p

    abbrev items : List Item
    items = items_for s label

    abbrev limited : Item → Bool
    limited = is_within_limits c s label (path_at v.paths q) tests are

    tell-limits : (n : ℕ) (row : AppRow) → lookup (nat_eq n) v.apps ≡ Some row → row.leaf ≡ q → (r : Request)
        → limited (item_for v row r) ≡ cond (is_master_role r.role) (passes_master tests (user_use v p q row.user) r.size) (passes_ask tests (user_use v p q row.user) r.size)
    tell-limits n row found own r =
        sym (tests-limit c s label (path_at v.paths q) tests are (item_for v row r) (ap (path_at v.paths) own))
        ∙ (λ i. cond (what-master v r.role i) (passes_master tests (used i) r.size) (passes_ask tests (used i) r.size))
      where
        used : user_used s (path_at v.paths q) (item_for v row r).user label ≡ user_use v p q row.user
        used = is-user_use v sound p q row.user has leaf (sound.apps n row found).user stops maxima

    pub none-limited : first_own v seats p tests ≡ None → (item : Item) → IsBelow items (path_at v.paths q) item → limited item ≡ false
    none-limited none item below =
        let found = first-in v p q seats lane tests limited tell-limits in
        not-true (limited item) (go found.0 found.1 found.2)
      where
        go : (a : Option Asker) → IsFirstPassing v (wanted v p) limited q a → option_map found_by a ≡ first_own v seats p tests → limited item ≡ true → ⊥
        go None first is passes =
            first-means v sound stops maxima q leaf (listed v sound stops maxima q leaf) (wanted v p) items (λ item. (wanted-means v sound stops maxima p has item).0) (λ item. (wanted-means v sound stops maxima p has item).1)
            limited None first c label item
            (record { among = contained-among item (filter limited items) (filter-among limited item items passes (among-contained item items below.among)); within = below.within })
        go (Some a) first is passes = none-some (found_by a) (sym none ∙ sym is)

pub leaf-wanted : IsOwnWanted
leaf-wanted v sound stops maxima p q has leaf seats lane c node there tests are = found-wanted v sound stops maxima q leaf p has seats lane c node there tests are

pub leaf-first : FirstOwnIsModel
leaf-first v sound stops maxima p q has leaf seats lane c node there tests are = found-first v sound stops maxima q leaf p has seats lane c node there tests are
