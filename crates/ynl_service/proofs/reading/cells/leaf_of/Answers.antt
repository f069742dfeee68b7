-- A live application's leaf is there, and so is the partition where it asks.
use Rattle.std.proofs.Common.{sym, ◌∙◌, true≢false}
use Rattle.ynl_service.proofs.reading.Askers.{known-label, known-leaf}
use Rattle.ynl_service.proofs.reading.cells.leaf_of.Goals as goal

pub unreachable-requires : goal.unreachable-requires
unreachable-requires c =
    true≢false (sym (known-label c.args.cluster.now c.inventory.ensures.sound c.args.app.now c.args.label.now c.requires c.inventory.ensures.configured) ∙ sym c.in_default.ensures.known)

pub unreachable-requires-in_default-queue_of : goal.unreachable-requires-in_default-queue_of
unreachable-requires-in_default-queue_of c =
    true≢false (sym (known-leaf c.args.cluster.now c.inventory.ensures.sound c.args.app.now c.args.label.now c.requires c.inventory.ensures.configured) ∙ sym c.in_default-queue_of.ensures.known)
