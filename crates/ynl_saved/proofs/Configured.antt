-- What an accepted configuration has: labels and paths that differ, no queue that is root, and clocks that may move.
use Rattle.std.proofs.Common.{◌≡◌, ◌≤◌, ℕ, true, false, ◌&&◌, map, Option, Some, None, is_some, filter, refl, sym, arith}
use Rattle.std.specs.Prelude.{IsTrue, IfSome, nat_le, is_none, ⊤}
use Rattle.std.specs.List.{AllByRecursion, list_all}
use Rattle.std.specs.Option.{option_map_or}
use Rattle.std.proofs.lemmas.Bool.Decides.{nat_tests}
use Rattle.std.proofs.lemmas.Bool.{and_parts, leb-true}
use mathlib.Core.Bool.{true≢false}
use Rattle.ynl_resource.specs.Names.{root, same_label, same_name, same_path}
use Rattle.ynl_resource.specs.Ranges.{most_clock}
use Rattle.ynl_resource.specs.Refusals.{first_that_holds}
use Rattle.ynl_resource.specs.declared.labels.Label.{Label}
use Rattle.ynl_resource.specs.declared.labels.Label.TheVariants.{Unlabelled, Named}
use Rattle.ynl_resource.specs.declared.names.Name.{Name}
use Rattle.ynl_resource.specs.declared.paths.Path.{Path}
use Rattle.ynl_model.specs.Accepted.{all_queues, in_range, is_accepted, is_from_to, label_faults, tree_faults}
use Rattle.ynl_model.specs.Applications.{LeafApps, no_apps}
use Rattle.ynl_model.specs.Nodes.{clock_limit, has_label, label_row, partition_labels}
use Rattle.ynl_model.specs.declared.labels.LabelRow.{LabelRow}
use Rattle.ynl_model.specs.Queues.{Config, QueueRow, is_leaf}
use Rattle.ynl_laws.specs.Working.{Pairs}
use Rattle.ynl_laws.proofs.Events.Chosen.{none-holds}
use Rattle.ynl_laws.proofs.Lists.{Each-all, Each-map, Each-found, Pairs-filter, each-of, pairs-unmap}
use Rattle.ynl_laws.proofs.Logic.{none-is_none, not-false}
use Rattle.ynl_saved.proofs.Rows.{differ-of, pairs-made}

module _ (c : Config) (accepted : IsTrue (is_accepted c)) where
  -- the labels have no fault
  no-label_fault : first_that_holds (label_faults c.labels) ≡ None
  unfolding is_accepted
  no-label_fault = none-is_none _ (and_parts (in_range c) _ (and_parts (in_range c && is_none (first_that_holds (label_faults c.labels))) _ accepted).0).1

  -- the tree of queues has no fault
  no-tree_fault : first_that_holds (tree_faults c) ≡ None
  unfolding is_accepted
  no-tree_fault = none-is_none _ (and_parts (in_range c && is_none (first_that_holds (label_faults c.labels))) _ accepted).1

  -- no two labels are the same
  names-differ : Pairs (λ (a b : Name). same_name a b ≡ false) (map (λ (row : LabelRow). row.name) c.labels.rows)
  unfolding label_faults
  names-differ = differ-of same_name (map (λ (row : LabelRow). row.name) c.labels.rows) (not-false _ (none-holds (label_faults c.labels) no-label_fault).1.0)

  -- and no two partitions
  pub labels-differ : Pairs (λ (a b : Label). same_label a b ≡ false) (partition_labels c.labels)
  labels-differ = (
    Each-map (λ (row : LabelRow). ⊤) (λ (b : Label). same_label Unlabelled b ≡ false) (λ (row : LabelRow). Named row.name) (λ row _. refl) c.labels.rows (Each-all (λ (row : LabelRow). ⊤) (λ row. tt) c.labels.rows),
    pairs-made (λ (row : LabelRow). Named row.name) (λ (a b : Label). same_label a b ≡ false) c.labels.rows (pairs-unmap (λ (row : LabelRow). row.name) (λ (a b : Name). same_name a b ≡ false) c.labels.rows names-differ),
  )

  -- each clock may move
  from-one : (n : ℕ) → is_from_to 1 most_clock n ≡ true → 1 ≤ n
  from-one n h = let first : nat_le 1 n ≡ true = (and_parts (nat_le 1 n) _ h).0 in at-least n first
    where
      at-least : (n : ℕ) → nat_le 1 n ≡ true → 1 ≤ n
      at-least n k = grind (arith, nat_tests, k)

  -- and goes to the largest number of a clock at most
  to-most : (n : ℕ) → is_from_to 1 most_clock n ≡ true → n ≤ most_clock
  to-most n h = leb-true n most_clock (and_parts (nat_le 1 n) _ h).1

  -- all limits are from 1 to the largest number of a clock
  both-limits : (is_from_to 1 most_clock c.labels.default_limit && list_all (λ (row : LabelRow). is_from_to 1 most_clock row.limit) c.labels.rows) ≡ true
  unfolding label_faults
  both-limits = not-false _ (none-holds (label_faults c.labels) no-label_fault).1.1.0

  -- the limit of each partition is at least 1
  pub limits : (label : Label) → has_label c.labels label ≡ true → 1 ≤ clock_limit c.labels label
  limits Unlabelled known = from-one c.labels.default_limit (and_parts (is_from_to 1 most_clock c.labels.default_limit) _ both-limits).0
  limits (Named name) known = go (label_row c.labels name) known (Each-found (λ (row : LabelRow). is_from_to 1 most_clock row.limit ≡ true) _ c.labels.rows (each-of _ c.labels.rows (and_parts (is_from_to 1 most_clock c.labels.default_limit) _ both-limits).1))
    where
      go : (o : Option LabelRow) → is_some o ≡ true → IfSome o (λ row. is_from_to 1 most_clock row.limit ≡ true) → 1 ≤ option_map_or (λ row. row.limit) o 0
      go None known h = absurd (true≢false (sym known))
      go (Some row) known h = from-one row.limit h

  -- and at most the largest number of a clock
  pub most-limits : (label : Label) → clock_limit c.labels label ≤ most_clock
  most-limits Unlabelled = to-most c.labels.default_limit (and_parts (is_from_to 1 most_clock c.labels.default_limit) _ both-limits).0
  most-limits (Named name) = go (label_row c.labels name) (Each-found (λ (row : LabelRow). is_from_to 1 most_clock row.limit ≡ true) _ c.labels.rows
      (each-of _ c.labels.rows (and_parts (is_from_to 1 most_clock c.labels.default_limit) _ both-limits).1))
    where
      go : (o : Option LabelRow) → IfSome o (λ row. is_from_to 1 most_clock row.limit ≡ true) → option_map_or (λ row. row.limit) o 0 ≤ most_clock
      go None h = omega arith
      go (Some row) h = to-most row.limit h

  -- no two queues have one path, and none is root
  all-paths : Pairs (λ (a b : Path). same_path a b ≡ false) (all_queues c)
  unfolding tree_faults
  all-paths = differ-of same_path (all_queues c) (not-false _ (none-holds (tree_faults c) no-tree_fault).1.0)

  -- no two rows of queues have one path
  pub paths-differ : Pairs (λ (a b : QueueRow). same_path a.path b.path ≡ false) c.queues
  paths-differ = pairs-unmap (λ (row : QueueRow). row.path) (λ (a b : Path). same_path a b ≡ false) c.queues all-paths.1

  -- no queue is root
  pub none-root : AllByRecursion (λ (path : Path). same_path root path ≡ false) (map (λ (row : QueueRow). row.path) c.queues)
  none-root = all-paths.0

  -- and so no two leaves have one path
  pub leaves-differ : Pairs (λ (a b : LeafApps). same_path a.leaf b.leaf ≡ false) (no_apps c)
  leaves-differ = pairs-made _ (λ (a b : LeafApps). same_path a.leaf b.leaf ≡ false) (filter (λ row. is_leaf c row.path) c.queues) (Pairs-filter (λ a b. same_path a.path b.path ≡ false) (λ row. is_leaf c row.path) c.queues paths-differ)
