-- One node more or less in how much there is of a partition.
use Rattle.std.specs.Prelude.{ℕ, ◌+◌, ◌-◌, ◌≤◌, List, slice_index_or}
use Rattle.ynl_resource.specs.Amounts.{nothing, plus, less}
use Rattle.ynl_resource.specs.Ranges.{most_nodes}
use Rattle.ynl_resource.specs.declared.amounts.Resource.{Resource}
use Rattle.ynl_cluster.specs.uses.Tallies.{IsTotal}
use Rattle.ynl_cluster.specs.declared.ledger.totals.Total.{Total}

-- no nodes
abbrev pub no_total : Total
no_total = record { amount = nothing; nodes = 0 }

-- a total with one node more
abbrev pub grown : Resource → Total → Total
grown size total = record { amount = plus total.amount size; nodes = total.nodes + 1 }

-- a total with one node less
abbrev pub shrunk : Resource → Total → Total
shrunk size total = record { amount = less total.amount size; nodes = total.nodes - 1 }

-- the total of a partition
abbrev pub total_at : List Total → ℕ → Total
total_at totals p = slice_index_or totals p no_total

-- small enough for one node more
pub record IsSmallTotal (total : Total) : Type 0 where
  pub amount : IsTotal total.amount
  pub nodes : total.nodes ≤ most_nodes
