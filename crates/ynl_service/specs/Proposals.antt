-- What is proposed for a node.
use Rattle.std.specs.Prelude.{◌≡◌, ℕ, nat_eq, Some}
use Rattle.std.specs.Map.{lookup}
use Rattle.ynl_model.specs.declared.proposals.Proposal.{Proposal}
use Rattle.ynl_model.specs.Check.{proposal_of}
use Rattle.ynl_inventory.specs.Rows.{NodeRow}
use Rattle.ynl_inventory.specs.Meaning.{node_of}
use Rattle.ynl_cluster.specs.Cluster.{ClusterView}
use Rattle.ynl_search.specs.declared.found.Found.{Found}
use Rattle.ynl_search.specs.Laws.{item_found}

-- a proposal is the request that was found, for the node as it is now
abbrev pub IsProposal : ClusterView → ℕ → Found → Proposal → Type 0
IsProposal w n found proposal =
    (row : NodeRow) → lookup (nat_eq n) w.rows.nodes ≡ Some row → proposal ≡ proposal_of (node_of w.rows.partitions row) (item_found w.rows found)
