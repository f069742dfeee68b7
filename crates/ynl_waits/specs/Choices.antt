-- Choices that are known.
use Rattle.std.specs.Prelude.{◌≡◌, Bool, ◌&&◌, ◌==◌, Option, option_map}
use Rattle.std.specs.List.{AllByRecursion}
use Rattle.ynl_model.specs.declared.nodes.Node.{Node}
use Rattle.ynl_model.specs.declared.proposals.Proposal.{Proposal}
use Rattle.ynl_model.specs.Queues.{Config}
use Rattle.ynl_model.specs.Cluster.{State, free}
use Rattle.ynl_model.specs.Check.{proposed}
use Rattle.ynl_resource.specs.Names.{same_label}
use Rattle.ynl_waits.specs.Grounds.{Spot}
use Rattle.ynl_waits.specs.declared.choices.Choice.{Choice}
use Rattle.ynl_waits.specs.declared.choices.Choices.{Choices}

-- a proposal for another node, with that node's stamp
abbrev pub moved : Node → Option Proposal → Option Proposal
moved node proposal = option_map (λ (p : Proposal). record p { node = node.name; stamp = node.stamp }) proposal

-- whether a row is for the partition of a node and for as much as is free on it
abbrev pub is_row_for : Choice → Spot → Bool
is_row_for row spot = same_label row.label spot.node.label && (row.free.memory == spot.free.memory) && (row.free.vcores == spot.free.vcores)

-- the choice on each node of a partition on which so much is free is this, but for the node
abbrev pub IsChoice : Config → State → Choice → Type 0
IsChoice c s row = (node : Node) → node.label ≡ row.label → free s node ≡ row.free → moved node row.proposal ≡ proposed c s node

-- that is so of all that are known
abbrev pub AreChoices : Config → State → Choices → Type 0
AreChoices c s known = AllByRecursion (IsChoice c s) known.rows.items
