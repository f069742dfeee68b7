-- Whether a queue is stopped is the model's mark of it.
use Rattle.std.proofs.Common.{◌-◌, ap, sym, ◌∙◌, slice_get, Some}
use Rattle.ynl_inventory.specs.layout.Paths.{path_at, paths_of}
use Rattle.ynl_inventory.proofs.layout.settings.StopsMean.{stops-at}
use Rattle.ynl_cluster.specs.Cluster.{ClusterView, path_of, state_in}
use Rattle.ynl_cluster.proofs.Reading.{in-paths}
use Rattle.ynl_cluster.proofs.cluster.Cluster.is_stopped.Goals as goal

pub returns : goal.returns
returns c =
    ap (λ (w : ClusterView). slice_get (state_in w).stops (c.args.queue - 1)) (sym c.self.view_is)
    ∙ stops-at (paths_of c.self.inside.config) c.self.inside.stops c.args.queue c.of.result c.requires.below_root (in-paths c.self.inside c.self.invariant c.args.self.now c.self.view_is c.args.queue c.requires.there) c.of.ensures
    ∙ ap (λ ps. Some (record { queue = path_at ps c.args.queue; stopped = c.of.result })) (sym c.self.invariant.parts.configured.paths)
    ∙ ap (λ (w : ClusterView). Some (record { queue = path_of w c.args.queue; stopped = c.of.result })) c.self.view_is
