use Rattle.std.proofs.Common.{◌≡◌, ◌∷◌, map, take}
use Rattle.ynl_resource.specs.Ranges.{whole}
use Rattle.ynl_model.specs.Queues.{QueueRow}
use Rattle.ynl_inventory.specs.layout.settings.Shares.{configured_share}
use Rattle.ynl_inventory.proofs.layout.settings.shares.configured_on.Given as goal

abbrev pub invariant-loop-queue : goal.invariant-loop-queue
invariant-loop-queue l =
    l.row.items ≡ record { capacity = whole; maximum = whole } ∷ map (λ (row : QueueRow). configured_share l.config l.label row.path) (take l.queue-index l.config.queues)
