-- What is known of an accepted configuration in which a tenant alone may use an exclusive partition.
use Rattle.std.proofs.Common.{◌≡◌, suc, Bool, true, false, cond, not, ◌&&◌, ◌||◌, List, [], ◌∷◌, map, length, Option, Some, None, is_some, filter, find, refl, sym, ap, ◌∙◌, arith}
use Rattle.std.specs.Prelude.{⊤, IfSome, ◌==◌}
use Rattle.std.specs.List.{AllByRecursion, list_all, list_any}
use mathlib.Core.Bool.{true≢false}
use Rattle.ynl_resource.specs.Names.{same_name, same_label, is_default, root, top_level, same_path, is_within, tenant_of}
use Rattle.ynl_resource.specs.declared.names.Name.{Name}
use Rattle.ynl_resource.specs.declared.labels.Label.{Label}
use Rattle.ynl_resource.specs.declared.labels.Label.TheVariants.{Unlabelled, Named}
use Rattle.ynl_resource.specs.declared.paths.Path.{Path}
use Rattle.ynl_resource.specs.Refusals.{first_that_holds}
use Rattle.ynl_model.specs.Nodes.{has_label, is_exclusive, partition_labels}
use Rattle.ynl_model.specs.declared.labels.LabelRow.{LabelRow}
use Rattle.ynl_model.specs.Queues.{Config, QueueRow, queue_row, is_queue, accessible, may_use}
use Rattle.ynl_model.specs.Accepted.{all_differ, label_faults, parent_of, stays_within, tree_faults, in_range, is_accepted}
use Rattle.ynl_model.specs.View.{top_levels, is_sole}
use Rattle.ynl_laws.specs.Working.{Pairs}
use Rattle.ynl_laws.proofs.Events.Chosen.{none-holds}
use Rattle.ynl_laws.proofs.Lists.{Each-map, Each-all, Each-found, found-passes, each-of}
use Rattle.ynl_laws.proofs.Logic.{not-true, not-false, none-is_none}
use Rattle.ynl_laws.proofs.Names.{same-path, same-name_sym, same-name_self}
use Rattle.std.proofs.lemmas.Bool.{and_from, and_parts, or_parts}
use Rattle.std.proofs.Math.Bool.{or-false}

-- the partition is exclusive and not DEFAULT, no two partitions have one label, no row is root's,
-- and a configured queue that may use the partition is the tenant's or below
pub record Alone (c : Config) (t : Name) (p : Label) : Type 0 where
  pub home : is_default p ≡ false
  pub exclusive : is_exclusive c.labels p ≡ true
  pub apart : Pairs (λ a b. same_label a b ≡ false) (partition_labels c.labels)
  pub rooted : list_all (λ row. not (same_path row.path root)) c.queues ≡ true
  pub others : (tenant : Name) → is_queue c (top_level tenant) ≡ true → may_use c (top_level tenant) p ≡ true → tenant ≡ t
  pub own : (queue : Path) → is_some (queue_row c queue) ≡ true → may_use c queue p ≡ true → is_within (top_level t) queue ≡ true

-- ---- lists

-- what holds of all names that are listed holds of one that is the same as one of them
any-all : (f : Name → Bool) (name : Name) (names : List Name) → list_all f names ≡ true → list_any (same_name name) names ≡ true → f name ≡ true
any-all f name [] all any = absurd (true≢false (sym any))
any-all f name (x ∷ names) all any = go (same_name name x) refl any (any-all f name names (and_parts (f x) _ all).1)
  where
    go : (b : Bool) → same_name name x ≡ b → (b || list_any (same_name name) names) ≡ true → (list_any (same_name name) names ≡ true → f name ≡ true) → f name ≡ true
    go true e any rest = ap f (same-name_sym name x e) ∙ (and_parts _ _ all).0
    go false e any rest = rest any

-- what holds of all paths of rows that pass a test holds of one that is found
found-all : (test f : Path → Bool) (queue : Path) (rows : List QueueRow) → list_all test (filter f (map (λ row. row.path) rows)) ≡ true → is_some (find (λ row. same_path row.path queue) rows) ≡ true → f queue ≡ true → test queue ≡ true
found-all test f queue [] all there passes = absurd (true≢false (sym there))
found-all test f queue (row ∷ rows) all there passes = go (same_path row.path queue) refl there (λ h. found-all test f queue rows (rest (f row.path) all) h passes)
  where
    here : (b : Bool) → b ≡ true → list_all test (cond b (row.path ∷ filter f (map (λ row. row.path) rows)) (filter f (map (λ row. row.path) rows))) ≡ true → test row.path ≡ true
    here true e h = (and_parts _ _ h).0
    here false e h = absurd (true≢false (sym e))

    rest : (b : Bool) → list_all test (cond b (row.path ∷ filter f (map (λ row. row.path) rows)) (filter f (map (λ row. row.path) rows))) ≡ true → list_all test (filter f (map (λ row. row.path) rows)) ≡ true
    rest true h = (and_parts (test row.path) _ h).1
    rest false h = h

    go : (b : Bool) → same_path row.path queue ≡ b → is_some (cond b (Some row) (find (λ row. same_path row.path queue) rows)) ≡ true → (is_some (find (λ row. same_path row.path queue) rows) ≡ true → test queue ≡ true) → test queue ≡ true
    go true e h more = ap test (sym (same-path row.path queue e)) ∙ here (f row.path) (ap f (same-path row.path queue e) ∙ passes) all
    go false e h more = more h

-- ---- what acceptance gives

-- labels with names that all differ
label-pairs : (rows : List LabelRow) → all_differ same_name (map (λ row. row.name) rows) ≡ true → Pairs (λ a b. same_label a b ≡ false) (map (λ row. Named row.name) rows)
label-pairs [] h = tt
label-pairs (row ∷ rows) h = (go rows (not-true _ (and_parts _ _ h).0), label-pairs rows (and_parts (not (list_any (same_name row.name) (map (λ row. row.name) rows))) _ h).1)
  where
    go : (rows : List LabelRow) → list_any (same_name row.name) (map (λ row. row.name) rows) ≡ false → AllByRecursion (λ b. same_label (Named row.name) b ≡ false) (map (λ row. Named row.name) rows)
    go [] e = tt
    go (x ∷ rows) e = ((or_parts _ _ e).0, go rows (or_parts (same_name row.name x.name) _ e).1)

label-faultless : (c : Config) → is_accepted c ≡ true → first_that_holds (label_faults c.labels) ≡ None
unfolding is_accepted
label-faultless c h = none-is_none (first_that_holds (label_faults c.labels)) (and_parts (in_range c) _ (and_parts _ _ h).0).1

labels-apart : (c : Config) → is_accepted c ≡ true → Pairs (λ a b. same_label a b ≡ false) (partition_labels c.labels)
unfolding label_faults
labels-apart c h = (
  Each-map (λ (row : LabelRow). ⊤) (λ label. same_label Unlabelled label ≡ false) (λ row. Named row.name) (λ row _. refl) c.labels.rows (Each-all (λ (row : LabelRow). ⊤) (λ row. tt) c.labels.rows),
  label-pairs c.labels.rows (not-false _ (none-holds (label_faults c.labels) (label-faultless c h)).1.0),
)

tree-faultless : (c : Config) → is_accepted c ≡ true → first_that_holds (tree_faults c) ≡ None
unfolding is_accepted
tree-faultless c h = none-is_none (first_that_holds (tree_faults c)) (and_parts _ _ h).1

module _ (c : Config) (accepted : is_accepted c ≡ true) where
  faultless : AllByRecursion (λ fault. fault.1 ≡ false) (tree_faults c)
  faultless = none-holds (tree_faults c) (tree-faultless c accepted)

  no-root : list_all (λ row. not (same_path row.path root)) c.queues ≡ true
  unfolding tree_faults
  no-root = go c.queues (not-true _ (and_parts _ _ (not-false _ faultless.1.0)).0)
    where
      by : (path : Path) (any all : Bool) → (same_path root path || any) ≡ false → (any ≡ false → all ≡ true) → (not (same_path path root) && all) ≡ true
      by [] any all h rest = absurd (true≢false h)
      by (name ∷ path) any all h rest = rest h

      go : (rows : List QueueRow) → list_any (same_path root) (map (λ row. row.path) rows) ≡ false → list_all (λ row. not (same_path row.path root)) rows ≡ true
      go [] h = refl
      go (row ∷ rows) h = by row.path (list_any (same_path root) (map (λ row. row.path) rows)) (list_all (λ row. not (same_path row.path root)) rows) h (go rows)

  -- a configured queue's parent is a queue, and may use what the queue may
  parents : (queue : Path) → is_some (queue_row c queue) ≡ true → (is_queue c (parent_of queue) ≡ true) × ((name : Name) → may_use c queue (Named name) ≡ true → may_use c (parent_of queue) (Named name) ≡ true)
  unfolding tree_faults may_use
  parents queue there =
      go (queue_row c queue) there (found-passes (λ row. same_path row.path queue) c.queues) (Each-found _ (λ row. same_path row.path queue) c.queues (each-of _ c.queues (not-false _ faultless.1.1.0)))
      (Each-found _ (λ row. same_path row.path queue) c.queues (each-of _ c.queues (not-false _ faultless.1.1.1.1.0)))
    where
      go : (o : Option QueueRow) → is_some o ≡ true → IfSome o (λ row. same_path row.path queue ≡ true) → IfSome o (λ row. is_queue c (parent_of row.path) ≡ true) → IfSome o (λ row. stays_within c row ≡ true) →
          (is_queue c (parent_of queue) ≡ true) × ((name : Name) → list_any (same_name name) (accessible c queue) ≡ true → list_any (same_name name) (accessible c (parent_of queue)) ≡ true)
      go None e at parent within = absurd (true≢false (sym e))
      go (Some row) e at parent within =
          let same : row.path ≡ queue = same-path row.path queue at in (
            ap (λ q. is_queue c (parent_of q)) (sym same) ∙ parent,
            λ name may. ap (λ q. list_any (same_name name) (accessible c (parent_of q))) (sym same)
                ∙ any-all (λ n. list_any (same_name n) (accessible c (parent_of row.path))) name (accessible c row.path) (and_parts _ _ (and_parts _ _ within).0).0 (ap (λ q. list_any (same_name name) (accessible c q)) same ∙ may),
          )

  -- the top-level queue above it is a queue below root, and may use that too
  pub tops : (fuel : Path) (queue : Path) → length queue ≡ length fuel → is_some (queue_row c queue) ≡ true →
      (is_queue c (top_level (tenant_of queue)) ≡ true) × ((name : Name) → may_use c queue (Named name) ≡ true → may_use c (top_level (tenant_of queue)) (Named name) ≡ true) × (not (same_path queue root) ≡ true)
  tops fuel [] long there = absurd (true≢false (sym there ∙ none c.queues no-root))
    where
      none : (rows : List QueueRow) → list_all (λ row. not (same_path row.path root)) rows ≡ true → is_some (find (λ row. same_path row.path root) rows) ≡ false
      none [] h = refl
      none (row ∷ rows) h = (λ i. is_some (cond (not-true (same_path row.path root) (and_parts _ _ h).0 i) (Some row) (find (λ row. same_path row.path root) rows))) ∙ none rows (and_parts (not (same_path row.path root)) _ h).1
  tops fuel (a ∷ []) long there = (there, λ name may. may, refl)
  tops [] (a ∷ b ∷ queue) long there = absurd (grind (arith, long))
  tops (x ∷ fuel) (a ∷ b ∷ queue) long there =
      let above : (is_queue c (a ∷ parent_of (b ∷ queue)) ≡ true) × ((name : Name) → may_use c (a ∷ b ∷ queue) (Named name) ≡ true → may_use c (a ∷ parent_of (b ∷ queue)) (Named name) ≡ true) = parents (a ∷ b ∷ queue) there in
      let up = tops fuel (a ∷ parent_of (b ∷ queue)) (shorter long) above.0 in
      (up.0, λ name may. up.1 name (above.1 name may), refl)
    where
      parent-length : (b : Name) (queue : Path) → length (parent_of (b ∷ queue)) ≡ length queue
      parent-length b [] = refl
      parent-length b (d ∷ queue) = ap suc (parent-length d queue)

      shorter : length (a ∷ b ∷ queue) ≡ length (x ∷ fuel) → length (a ∷ parent_of (b ∷ queue)) ≡ length fuel
      shorter h = let e : length (parent_of (b ∷ queue)) ≡ length queue = parent-length b queue in grind (arith, h, e)

pub alone : (c : Config) (t : Name) (p : Label) → is_accepted c ≡ true → is_sole c t p ≡ true → Alone c t p
unfolding is_sole
alone c t p accepted sole = record {
  home = not-true _ (and_parts _ _ (and_parts _ _ (and_parts _ _ (and_parts _ _ (and_parts _ _ sole).0).0).0).0).0;
  exclusive = (and_parts _ _ (and_parts _ _ (and_parts _ _ (and_parts _ _ sole).0).0).0).1;
  apart = labels-apart c accepted;
  rooted = no-root c accepted;
  others = others;
  own = owns p (not-true _ (and_parts _ _ (and_parts _ _ (and_parts _ _ (and_parts _ _ (and_parts _ _ sole).0).0).0).0).0) others;
}
  where
    others : (tenant : Name) → is_queue c (top_level tenant) ≡ true → may_use c (top_level tenant) p ≡ true → tenant ≡ t
    others tenant there may = ap tenant_of (same-path (top_level tenant) (top_level t) (go (may_use c (top_level tenant) p) may
        (found-all (λ queue. same_path queue (top_level t) || not (may_use c queue p)) (λ queue. length queue == 1) (top_level tenant) c.queues
        (and_parts (not (is_default p) && has_label c.labels p && is_exclusive c.labels p && list_any (same_path (top_level t)) (top_levels c) && may_use c (top_level t) p)
        (list_all (λ queue. same_path queue (top_level t) || not (may_use c queue p)) (top_levels c)) sole).1 there refl)))
      where
        go : (b : Bool) → b ≡ true → (same_path (top_level tenant) (top_level t) || not b) ≡ true → same_path (top_level tenant) (top_level t) ≡ true
        go true e h = sym (or-false (same_path (top_level tenant) (top_level t))) ∙ h
        go false e h = absurd (true≢false (sym e))

    owns : (p : Label) → is_default p ≡ false → ((tenant : Name) → is_queue c (top_level tenant) ≡ true → may_use c (top_level tenant) p ≡ true → tenant ≡ t) →
        (queue : Path) → is_some (queue_row c queue) ≡ true → may_use c queue p ≡ true → is_within (top_level t) queue ≡ true
    owns Unlabelled home own queue there may = absurd (true≢false home)
    owns (Named name) home own queue there may =
        let up = tops c accepted queue queue refl there in within queue (own (tenant_of queue) up.0 (up.1 name may)) up.2
      where
        within : (queue : Path) → tenant_of queue ≡ t → not (same_path queue root) ≡ true → is_within (top_level t) queue ≡ true
        within [] same below = absurd (true≢false (sym below))
        within (first ∷ rest) same below = and_from _ _ (ap (same_name t) same ∙ same-name_self t) refl
