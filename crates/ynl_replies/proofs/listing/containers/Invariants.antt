use Rattle.std.proofs.Common.{◌≡◌, map, take}
use Rattle.ynl_cluster.specs.Cluster.{label_of}
use Rattle.ynl_inventory.specs.Meaning.{placed_of}
use Rattle.ynl_replies.proofs.listing.containers.Given as goal

-- the containers so far are told
abbrev pub invariant-loop-container : goal.invariant-loop-container
invariant-loop-container l = l.list.items ≡ map (placed_of l.cluster.rows (label_of l.cluster l.p)) (take l.container-index l.container-items)
