-- The rows of a cluster before any event are sound, and none of their parts goes wrong, since there are none.
use Rattle.std.proofs.Common.{◌≡◌, ℕ, [], ◌∷◌, map, nat_eq, length, ◌+◌, arith, sym, ap, subst, ◌∙◌}
use Rattle.std.specs.Map.{lookup}
use Rattle.std.proofs.lemmas.Option.{none-some}
use Rattle.ynl_model.specs.Queues.{Config, QueueRow}
use Rattle.ynl_inventory.specs.layout.Paths.{IsTree, paths_of}
use Rattle.ynl_model.specs.Nodes.{Labels, partition_labels}
use Rattle.std.proofs.lemmas.List.{length-map}
use Rattle.ynl_resource.specs.Names.{root}
use Rattle.std.specs.Prelude.{replicate}
use Rattle.ynl_tables.specs.containers.Fields.{of_rows}
use Rattle.ynl_inventory.specs.declared.inventory.Inventory.TheInside.{Inside}
use Rattle.ynl_inventory.specs.Opening.{opening_partition, opening_rows, IsOpening}
use Rattle.ynl_inventory.specs.Sound.{IsFor, IsSound}
use Rattle.ynl_inventory.specs.Parts.{held_of, partition_row, node_row, app_row, AreLinked}
use Rattle.ynl_inventory.proofs.Opening.{opening-for, opening-sound, opening-means}
use Rattle.ynl_inventory.proofs.inventory.Inventory.new.Goals as goal

-- where there are no nodes and no applications, none goes wrong
none-linked : (a : Inside) → a.nodes.entries ≡ [] → a.apps.entries ≡ [] → AreLinked a.partitions.items a.nodes.entries a.apps.entries
none-linked a nodes apps = record {
  node = λ n row part found at. absurd (none-some row (sym (ap (lookup (nat_eq n)) nodes) ∙ found));
  app = λ n row p part found at. absurd (none-some row (sym (ap (lookup (nat_eq n)) apps) ∙ found));
  free = λ n row part found at. absurd (none-some row (sym (ap (lookup (nat_eq n)) nodes) ∙ found));
  fits = λ n row part found at. absurd (none-some row (sym (ap (lookup (nat_eq n)) nodes) ∙ found));
  small = λ n row found. absurd (none-some row (sym (ap (lookup (nat_eq n)) nodes) ∙ found));
  places = λ n row found. absurd (none-some row (sym (ap (lookup (nat_eq n)) apps) ∙ found));
  master = λ n row part found at. absurd (none-some row (sym (ap (lookup (nat_eq n)) apps) ∙ found));
}

-- the rows are those before any event
rows-are : (c : Config) (a : Inside) (n : ℕ) → a.layout ≡ paths_of c → map partition_row a.partitions.items ≡ map (opening_partition c.labels) (partition_labels c.labels)
    → a.nodes.entries ≡ [] → a.apps.entries ≡ [] → map (λ listing. listing.entries) a.tenants.items ≡ replicate n [] → n ≡ length (root ∷ paths_of c) → a.users ≡ []
    → (held_of a).rows ≡ opening_rows c
rows-are c a n layout partitions nodes apps tenants many users = λ i. record {
  paths = layout i;
  partitions = partitions i;
  nodes = of_rows node_row (nodes i);
  apps = of_rows app_row (apps i);
  tenants = (tenants ∙ ap (λ m. replicate m []) many) i;
  users = users i;
}

-- root is one of the queues
many : (c : Config) (n : ℕ) → n ≡ length c.queues → n + 1 ≡ length (root ∷ paths_of c)
many c n is = omega (arith, length-map c.queues (λ (row : QueueRow). row.path))

-- what was made
inside : goal.After-new-4 → Inside
inside c = record {
  layout = c.in_ok-layout.layout;
  partitions = c.in_ok-partitions.partitions;
  nodes = c.new-2.result;
  apps = c.new-3.result;
  tenants = c.in_ok-tenants.tenants;
  users = c.new-4.result;
}

rows : (c : goal.After-new-4) → (held_of (inside c)).rows ≡ opening_rows c.args.config.now
unfolding inside
rows c =
    let labels : c.labels.result.now ≡ c.args.config.now.labels = c.labels.ensures ∙ ap (λ (d : Config). d.labels) c.draft-draft.ensures.value in
    let queues : length c.queues.result.now ≡ length c.args.config.now.queues = ap length c.queues.ensures ∙ ap (λ (d : Config). length d.queues) c.draft-draft.ensures.value in
    rows-are c.args.config.now (inside c) (length c.queues.result.now + 1) c.in_ok-layout.ensures
    (c.in_ok-partitions.ensures ∙ ap (λ (labels : Labels). map (opening_partition labels) (partition_labels labels)) labels) c.new-2.ensures.entries c.new-3.ensures c.in_ok-tenants.ensures
    (many c.args.config.now (length c.queues.result.now) queues) c.new-4.ensures

pub invariant_of-result : goal.invariant_of-result
unfolding inside
invariant_of-result c = record {
  sound =
      subst IsSound (sym (rows c)) (opening-sound c.args.config.now c.draft-draft.ensures.tree (subst IsTree c.in_ok-layout.ensures c.len.ensures.tree));
  linked = none-linked (inside c) c.new-2.ensures.entries c.new-3.ensures;
}

pub returns-clause-config : goal.returns-clause-config
unfolding inside
returns-clause-config c = subst (IsFor c.args.config.now) (sym (rows c)) (opening-for c.args.config.now)

pub returns-clause-state : goal.returns-clause-state
unfolding inside
returns-clause-state c = subst (IsOpening c.args.config.now) (sym (rows c)) (opening-means c.args.config.now)
