-- What the ledger of the rows says of the state that they mean, as statements over all sound rows.
use Rattle.std.specs.Prelude.{◌≡◌, ℕ, nat_le, List, [], ◌∷◌, length, slice_get, slice_index_or, Some}
use Rattle.ynl_resource.specs.Names.{root}
use Rattle.ynl_resource.specs.Ranges.{most_nodes}
use Rattle.ynl_resource.specs.declared.labels.Label.{Label}
use Rattle.ynl_resource.specs.declared.paths.Path.{Path}
use Rattle.ynl_model.specs.declared.queues.StopRow.{StopRow}
use Rattle.ynl_model.specs.declared.queues.MaximumRow.{MaximumRow}
use Rattle.ynl_model.specs.Nodes.{is_full, nodes_of}
use Rattle.ynl_model.specs.Cluster.{State, total}
use Rattle.ynl_laws.specs.Uses.{use_of}
use Rattle.ynl_inventory.specs.layout.Paths.{HasNumber, path_at}
use Rattle.ynl_cluster.specs.uses.Tallies.{IsInside}
use Rattle.ynl_inventory.specs.Rows.{Rows}
use Rattle.ynl_inventory.specs.Meaning.{label_at, state_of}
use Rattle.ynl_inventory.specs.Parts.{containers_of}
use Rattle.ynl_inventory.specs.Sound.{HasPartition, IsSound}
use Rattle.ynl_cluster.specs.declared.ledger.totals.Total.{Total}
use Rattle.ynl_cluster.specs.ledger.Changes.{IsLineOf}
use Rattle.ynl_cluster.specs.ledger.Totals.{total_at}
use Rattle.ynl_cluster.specs.ledger.Ledger.{total_in, totals_in, use_by, uses_in}

-- a total is that of a partition of a state
pub record IsTotalOf (s : State) (label : Label) (t : Total) : Type 0 where
  pub amount : total s label ≡ t.amount
  pub nodes : length (nodes_of s.nodes label) ≡ t.nodes
  pub full : is_full s.nodes label ≡ nat_le most_nodes t.nodes

-- there is as much of a partition as the rows tell
abbrev pub AreTotalsTold : Type 0
AreTotalsTold = (v : Rows) → IsSound v → (stops : List StopRow) (maxima : List MaximumRow) (p : ℕ) → HasPartition v p → IsTotalOf (state_of v stops maxima) (label_at v.partitions p) (total_in v p)

-- a queue uses as much of a partition as the rows tell
abbrev pub AreUsesTold : Type 0
AreUsesTold = (v : Rows) → IsSound v → (stops : List StopRow) (maxima : List MaximumRow) (p : ℕ) → HasPartition v p → (queue : Path)
    → use_of (state_of v stops maxima) (label_at v.partitions p) queue ≡ use_by v p queue (containers_of v p)

-- the ledger has each partition and each queue, by number
pub record IsListed (v : Rows) : Type 0 where
  pub partitions : length (uses_in v) ≡ length v.partitions
  pub queues : (p : ℕ) → HasPartition v p → length (slice_index_or (uses_in v) p []) ≡ length (root ∷ v.paths)
  pub uses : (p q : ℕ) → HasPartition v p → HasNumber v.paths q → slice_get (slice_index_or (uses_in v) p []) q ≡ Some (use_by v p (path_at v.paths q) (containers_of v p))
  pub lines : (p app : ℕ) (line : List ℕ) → HasPartition v p → IsLineOf v app line → IsInside (uses_in v) p line
  pub many : length (totals_in v) ≡ length v.partitions
  pub totals : (p : ℕ) → HasPartition v p → total_at (totals_in v) p ≡ total_in v p

abbrev pub AreAllListed : Type 0
AreAllListed = (v : Rows) → IsListed v
