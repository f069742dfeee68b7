use Rattle.std.proofs.Common.{◌≡◌, drop, find, map, not}
use Rattle.ynl_resource.specs.declared.labels.Label.TheVariants.{Named}
use Rattle.ynl_model.specs.Queues.{may_use}
use Rattle.ynl_config.specs.RowPlaces.{shared}
use Rattle.ynl_config.proofs.tree_places.share_beyond.Given as goal

abbrev pub invariant-loop-i : goal.invariant-loop-i
invariant-loop-i l =
    find (λ name. not (may_use l.config l.row.path (Named name))) (shared l.row)
    ≡ find (λ name. not (may_use l.config l.row.path (Named name))) (map (λ given. given.label) (drop l.i l.shares))
