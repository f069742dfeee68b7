use Rattle.ynl_cluster.specs.uses.Tallies.{IsTable, no_use}
use Rattle.ynl_cluster.specs.uses.Fields.{uses_of}
use Rattle.ynl_cluster.proofs.uses.uses.Uses.new.Given as goal

abbrev pub invariant-loop : goal.invariant-loop
invariant-loop l = IsTable l.counter l.queues no_use (uses_of (record { rows = l.rows }))
