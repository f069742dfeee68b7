-- The first of a leaf's requests in the rows is the model's first below the leaf.
use Rattle.std.proofs.Common.{◌≡◌, ◌<◌, ◌⊎◌, ℕ, zero, suc, Bool, true, false, not, ◌&&◌, List, filter, Option, Some, None, option_map, Contains, inl, inr, refl, sym, ap, ◌∙◌, arith, true≢false}
use Rattle.std.specs.Cmp.Lexicographic.{slice_cmp}
use Rattle.std.specs.List.{list_any}
use Rattle.std.specs.Ordering.{is_gt, nat_cmp, ordering_then}
use Rattle.std.specs.declared.cmp.Ordering.TheVariants.{Less, Equal}
use Rattle.std.proofs.lemmas.Bool.{and_from, and_parts, not-true}
use Rattle.std.proofs.lemmas.Bool.Decides.{nat_tests}
use Rattle.std.proofs.lemmas.List.Folds.{list_any_at}
use Rattle.ynl_resource.specs.Names.{is_within, root, same_path}
use Rattle.ynl_resource.specs.declared.labels.Label.{Label}
use Rattle.ynl_resource.specs.declared.paths.Path.{Path}
use Rattle.ynl_model.specs.Cluster.{State}
use Rattle.ynl_model.specs.Queues.{Config}
use Rattle.ynl_model.specs.Service.{Item, key, place_in_leaf, rank}
use Rattle.ynl_model.specs.declared.queues.StopRow.{StopRow}
use Rattle.ynl_model.specs.declared.queues.MaximumRow.{MaximumRow}
use Rattle.ynl_laws.specs.Descent.{IsBelow}
use Rattle.ynl_laws.specs.First.{IsFirst, is_later}
use Rattle.ynl_laws.proofs.Names.{same-path, within-self}
use Rattle.ynl_laws.proofs.Service.Decided.{does_submission_decide}
use Rattle.ynl_inventory.specs.layout.Paths.{path_at}
use Rattle.ynl_tables.specs.declared.containers.container.Role.{Role}
use Rattle.ynl_tables.specs.declared.containers.container.Role.TheVariants.{Master, Ask as Asked}
use Rattle.ynl_inventory.specs.Rows.{Rows, AppRow}
use Rattle.ynl_inventory.specs.Meaning.{state_of, what_of}
use Rattle.ynl_inventory.specs.Sound.{IsLeaf, IsSound}
use Rattle.ynl_inventory.proofs.Submitted.{app-submission}
use Rattle.ynl_cluster.specs.requests.First.{Asker, FirstIsModel, IsFirstPassing, IsNotAfter, IsPassing, item_by, rank_of, ranks_after}
use Rattle.ynl_cluster.specs.requests.Laws.{AreListed, place_of}
use Rattle.ynl_cluster.specs.requests.Requests.{Request, Wants}
use Rattle.ynl_cluster.proofs.requests.Members.{among-contained, among-filter, contained-among, filter-among}
use Rattle.ynl_cluster.proofs.requests.Order.{order-means}

-- ---- nothing but the leaf stands in a leaf

leaf-alone : (v : Rows) → IsSound v → (q : ℕ) → IsLeaf v q → (m : ℕ) → IsLeaf v m → is_within (path_at v.paths q) (path_at v.paths m) ≡ true → m ≡ q
leaf-alone v sound q leaf zero other within = absurd (true≢false (sym other.none_below))
leaf-alone v sound q leaf (suc k) other within = go (same_path (path_at v.paths q) (path_at v.paths (suc k))) refl
  where
    below : Path → Bool
    below path = is_within (path_at v.paths q) path && not (same_path (path_at v.paths q) path)

    go : (b : Bool) → same_path (path_at v.paths q) (path_at v.paths (suc k)) ≡ b → suc k ≡ q
    go true same = sound.tree.apart (suc k) q other.there leaf.there (sym (same-path (path_at v.paths q) (path_at v.paths (suc k)) same))
    go false apart =
        let there : list_any below v.paths ≡ true =
        list_any_at below v.paths k root (omega (arith, other.there)) (and_from (is_within (path_at v.paths q) (path_at v.paths (suc k))) (not (same_path (path_at v.paths q) (path_at v.paths (suc k)))) within (ap not apart)) in
        absurd (true≢false (sym there ∙ not-true (list_any below v.paths) (and_parts (not (same_path (path_at v.paths q) root)) (not (list_any below v.paths)) leaf.none_below).1))

-- the rank of a request is the model's
rank-is : (v : Rows) (r : Role) → rank (what_of v.partitions r) ≡ rank_of r
rank-is v Master = refl
rank-is v (Asked p priority) = refl

module _ (v : Rows) (sound : IsSound v) (stops : List StopRow) (maxima : List MaximumRow) (q : ℕ) (leaf : IsLeaf v q) (listed : AreListed v stops maxima q)
    (among : ℕ → AppRow → List Request) (items : List Item) (from : (item : Item) → Contains items item → Wants v among item) (to : (item : Item) → Wants v among item → Contains items item)
    (test : Item → Bool) (c : Config) (label : Label) where
  abbrev s : State
  s = state_of v stops maxima

  abbrev below : Item → Type 0
  below = IsBelow (filter test items) (path_at v.paths q)

  -- what passes stands below the leaf
  passing-below : (a : Asker) → IsPassing v among test q a → below (item_by v a)
  passing-below a is = record {
    among =
        contained-among (item_by v a) (filter test items)
        (filter-among test (item_by v a) items is.passes
        (among-contained (item_by v a) items (to (item_by v a) (record { number = a.number; row = a.row; found = is.found; request = a.request; there = is.there; is = refl }))));
    within = ap (λ n. is_within (path_at v.paths q) (path_at v.paths n)) is.own ∙ within-self (path_at v.paths q);
  }

  -- and what stands there passes
  below-passing : (item : Item) → below item → (a : Asker) × IsPassing v among test q a × (item ≡ item_by v a)
  below-passing item is =
      let there = among-filter test item items (among-contained item (filter test items) is.among) in
      let wants : Wants v among item = from item (contained-among item items there.0) in
      let its = app-submission v sound wants.number wants.row wants.found in (
        record { number = wants.number; row = wants.row; request = wants.request },
        record {
          found = wants.found;
          own =
              leaf-alone v sound q leaf wants.row.leaf (record { there = its.there; none_below = its.leaf })
              (ap (λ (i : Item). is_within (path_at v.paths q) i.leaf) (sym wants.is) ∙ is.within);
          there = wants.there;
          passes = ap test (sym wants.is) ∙ there.1;
        },
        wants.is,
      )

  -- what does not come after another is not later in the model
  not-later : (a other : Asker) → IsPassing v among test q a → IsPassing v among test q other → IsNotAfter v among test q a other → is_later (key c s label) (item_by v a) (item_by v other) ≡ false
  not-later a other is its after =
      ap is_gt
      (does_submission_decide c s label (item_by v a) (item_by v other) (ap (path_at v.paths) (is.own ∙ sym its.own))
      ∙ (λ i. ordering_then (places i) (ranks i)))
      ∙ go after
    where
      places : nat_cmp (place_in_leaf s (item_by v a).leaf (item_by v a).app) (place_in_leaf s (item_by v other).leaf (item_by v other).app) ≡ nat_cmp (place_of v a.number) (place_of v other.number)
      places =
          (λ i. nat_cmp (place_in_leaf s (path_at v.paths (is.own i)) (item_by v a).app) (place_in_leaf s (path_at v.paths (its.own i)) (item_by v other).app))
          ∙ order-means v sound stops maxima q listed a.number a.row is.found is.own other.number other.row its.found its.own

      ranks : slice_cmp nat_cmp (rank (item_by v a).what) (rank (item_by v other).what) ≡ slice_cmp nat_cmp (rank_of a.request.role) (rank_of other.request.role)
      ranks = λ i. slice_cmp nat_cmp (rank-is v a.request.role i) (rank-is v other.request.role i)

      less : place_of v a.number < place_of v other.number → nat_cmp (place_of v a.number) (place_of v other.number) ≡ Less
      less h = grind (arith, nat_tests, h)

      tied : (n : ℕ) → nat_cmp n n ≡ Equal
      tied n = grind (arith, nat_tests)

      go : (place_of v a.number < place_of v other.number) ⊎ ((other.number ≡ a.number) × (ranks_after a.request other.request ≡ false))
          → is_gt (ordering_then (nat_cmp (place_of v a.number) (place_of v other.number)) (slice_cmp nat_cmp (rank_of a.request.role) (rank_of other.request.role))) ≡ false
      go (inl h) = ap (λ o. is_gt (ordering_then o (slice_cmp nat_cmp (rank_of a.request.role) (rank_of other.request.role)))) (less h)
      go (inr (same, rank)) =
          ap (λ o. is_gt (ordering_then o (slice_cmp nat_cmp (rank_of a.request.role) (rank_of other.request.role))))
          (ap (λ n. nat_cmp (place_of v a.number) (place_of v n)) same ∙ tied (place_of v a.number))
          ∙ rank

  first : (found : Option Asker) → IsFirstPassing v among test q found → IsFirst (is_later (key c s label)) below (option_map (item_by v) found)
  first None none = λ item is. let at = below-passing item is in none at.0 at.1
  first (Some a) is = (
    passing-below a is.0,
    λ item its.
        let at = below-passing item its in
        ap (is_later (key c s label) (item_by v a)) at.2 ∙ not-later a at.0 is.0 at.1 (is.1 at.0 at.1),
  )

pub first-means : FirstIsModel
first-means v sound stops maxima q leaf listed among items from to test found is c label = first v sound stops maxima q leaf listed among items from to test c label found is
