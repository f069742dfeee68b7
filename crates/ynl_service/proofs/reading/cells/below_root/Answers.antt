-- Root has no row.
use Rattle.std.proofs.Common.{sym, ap, inl, ◌∙◌}
use Rattle.ynl_cluster.specs.Cluster.{path_of}
use Rattle.ynl_service.proofs.reading.Unknown.{root-row}
use Rattle.ynl_service.proofs.reading.cells.below_root.Goals as goal

pub returns-then-number-eq0-clause-none : goal.returns-then-number-eq0-clause-none
returns-then-number-eq0-clause-none c =
    inl (root-row c.args.cluster.now c.inventory.ensures.sound c.inventory.ensures.configured c.args.queue.now
    (sym c.in-Some-queue_of.ensures.some.own ∙ ap (path_of c.args.cluster.now) c.if-number-eq0.true))
