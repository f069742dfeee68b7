-- The ledger of the rows before any event.
use Rattle.std.specs.Prelude.{◌≡◌, List, ◌∷◌, length, replicate}
use Rattle.ynl_resource.specs.Names.{root}
use Rattle.ynl_model.specs.declared.uses.Use.{Use}
use Rattle.ynl_model.specs.Nodes.{partition_labels}
use Rattle.ynl_model.specs.Queues.{Config}
use Rattle.ynl_inventory.specs.layout.Paths.{paths_of}
use Rattle.ynl_cluster.specs.uses.Tallies.{no_use, IsTable}
use Rattle.ynl_inventory.specs.Opening.{opening_rows}
use Rattle.ynl_cluster.specs.ledger.Totals.{no_total}
use Rattle.ynl_cluster.specs.ledger.Ledger.{totals_in, uses_in, IsBounded}

-- no queue uses anything, there are no nodes, and the rows are in bounds
pub record IsOpened (c : Config) : Type 0 where
  pub uses : (rows : List (List Use)) → IsTable (length (partition_labels c.labels)) (length (root ∷ paths_of c)) no_use rows → rows ≡ uses_in (opening_rows c)
  pub totals : totals_in (opening_rows c) ≡ replicate (length (partition_labels c.labels)) no_total
  pub bounded : IsBounded (opening_rows c)

abbrev pub AreAllOpened : Type 0
AreAllOpened = (c : Config) → IsOpened c
