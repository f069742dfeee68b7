-- The labels that a queue may use are configured, where the configuration is accepted.
use Rattle.std.proofs.Common.{◌≡◌, true, false, Bool, cond, ◌&&◌, ◌||◌, List, [], ◌∷◌, map, fold, find, is_some, Option, None, Some, refl, sym, ap, subst, ◌∙◌, true≢false}
use Rattle.std.specs.Prelude.{IfSome, is_none}
use Rattle.std.specs.List.{AllByRecursion, list_any}
use Rattle.std.specs.Option.{option_map_or}
use Rattle.std.proofs.lemmas.Bool.{and_parts}
use Rattle.ynl_resource.specs.Names.{same_name, same_path, way_to}
use Rattle.ynl_resource.specs.Refusals.{first_that_holds}
use Rattle.ynl_resource.specs.declared.labels.Label.{Label}
use Rattle.ynl_resource.specs.declared.labels.Label.TheVariants.{Named, Unlabelled}
use Rattle.ynl_resource.specs.declared.names.Name.{Name}
use Rattle.ynl_resource.specs.declared.paths.Path.{Path}
use Rattle.ynl_model.specs.Accepted.{in_range, is_accepted, label_faults, listed, names_known_labels, tree_faults}
use Rattle.ynl_model.specs.declared.labels.LabelRow.{LabelRow}
use Rattle.ynl_model.specs.Nodes.{has_label}
use Rattle.ynl_model.specs.Queues.{Access, AllLabels, Config, Inherited, Listed, QueueRow, accessible, given, may_use, queue_row, setting}
use Rattle.ynl_laws.proofs.Events.Chosen.{none-holds}
use Rattle.ynl_laws.proofs.Lists.{Each-found, Each-map, Each-weaker, each-of}
use Rattle.ynl_laws.proofs.Logic.{none-is_none, not-false}
use Rattle.ynl_laws.proofs.Names.{same-name_self, same-name_sym}
use Rattle.ynl_inventory.proofs.Finding.{not-true}

-- each row of labels is found by its name
found-itself : (rows : List LabelRow) → AllByRecursion (λ (row : LabelRow). is_some (find (λ (other : LabelRow). same_name other.name row.name) rows) ≡ true) rows
found-itself [] = tt
found-itself (x ∷ rows) = (
  ap (λ b. is_some (cond b (Some x) (find (λ (other : LabelRow). same_name other.name x.name) rows))) (same-name_self x.name),
  Each-weaker (λ (row : LabelRow). is_some (find (λ (other : LabelRow). same_name other.name row.name) rows) ≡ true) _ (λ row h. later (same_name x.name row.name) (find (λ (other : LabelRow). same_name other.name row.name) rows) h) rows (found-itself rows),
)
  where
    later : (b : Bool) (o : Option LabelRow) → is_some o ≡ true → is_some (cond b (Some x) o) ≡ true
    later true o h = refl
    later false o h = h

module _ (c : Config) (accepted : is_accepted c ≡ true) where
  -- the tree of queues has no fault
  no-fault : first_that_holds (tree_faults c) ≡ None
  unfolding is_accepted
  no-fault = none-is_none _ (and_parts (in_range c && is_none (first_that_holds (label_faults c.labels))) _ accepted).1

  -- each row names only labels that are configured
  rows-known : AllByRecursion (λ row. names_known_labels c row ≡ true) c.queues
  unfolding tree_faults
  rows-known = each-of (names_known_labels c) c.queues (not-false _ (none-holds (tree_faults c) no-fault).1.1.1.0)

  abbrev IsKnown : Name → Type 0
  IsKnown name = has_label c.labels (Named name) ≡ true

  all-known : AllByRecursion IsKnown (map (λ (row : LabelRow). row.name) c.labels.rows)
  all-known = Each-map (λ (row : LabelRow). IsKnown row.name) IsKnown (λ (row : LabelRow). row.name) (λ row k. k) c.labels.rows (found-itself c.labels.rows)

  -- what a row gives is configured, if what is above it is
  given-known : (above : List Name) → AllByRecursion IsKnown above → (o : Option QueueRow) → IfSome o (λ row. names_known_labels c row ≡ true)
      → AllByRecursion IsKnown (given above c (option_map_or (λ (row : QueueRow). row.access) o Inherited))
  given-known above known None h = known
  given-known above known (Some row) h = by row.access (each-of (λ name. has_label c.labels (Named name)) (listed row.access) (and_parts _ _ (and_parts _ _ h).0).0)
    where
      by : (access : Access) → AllByRecursion IsKnown (listed access) → AllByRecursion IsKnown (given above c access)
      by Inherited own = known
      by AllLabels own = all-known
      by (Listed names) own = own

  steps-known : (steps : List Path) (above : List Name) → AllByRecursion IsKnown above → AllByRecursion IsKnown (fold (λ above step. given above c (setting (λ row. row.access) Inherited c step)) above steps)
  steps-known [] above known = known
  steps-known (step ∷ steps) above known =
      steps-known steps (given above c (setting (λ row. row.access) Inherited c step))
      (given-known above known (queue_row c step) (Each-found (λ row. names_known_labels c row ≡ true) (λ row. same_path row.path step) c.queues rows-known))

  -- so is one of some that all are
  one-known : (name : Name) (names : List Name) → AllByRecursion IsKnown names → list_any (same_name name) names ≡ true → IsKnown name
  one-known name [] known h = absurd (true≢false (sym h))
  one-known name (n ∷ names) known h = go (same_name name n) refl h (one-known name names known.1)
    where
      go : (b : Bool) → same_name name n ≡ b → (b || list_any (same_name name) names) ≡ true → (list_any (same_name name) names ≡ true → IsKnown name) → IsKnown name
      go true same h rest = subst IsKnown (sym (same-name_sym name n same)) known.0
      go false apart h rest = rest h

  -- a label that a queue may use is configured
  pub may-known : (queue : Path) (label : Label) → may_use c queue label ≡ true → has_label c.labels label ≡ true
  unfolding may_use accessible
  may-known queue Unlabelled may = refl
  may-known queue (Named name) may = one-known name (accessible c queue) (steps-known (way_to queue) (map (λ (row : LabelRow). row.name) c.labels.rows) all-known) may

  -- one that is not it may not use
  pub unknown-barred : (queue : Path) (label : Label) → has_label c.labels label ≡ false → may_use c queue label ≡ false
  unknown-barred queue label unknown = not-true (may_use c queue label) (λ may. true≢false (sym (may-known queue label may) ∙ unknown))
