use Rattle.std.proofs.Common.{ℕ, ◌<◌, get_or}
use Rattle.ynl_resource.specs.declared.labels.Label.TheVariants.{Unlabelled}
use Rattle.ynl_model.specs.Service.{asks_for}
use Rattle.ynl_cluster.specs.Cluster.{path_of, state_in}
use Rattle.ynl_search.specs.notes.Shut.{AreAtLeast}
use Rattle.ynl_search.proofs.leasts.least_asked_of_children.Given as goal

abbrev pub invariant-loop-i : goal.invariant-loop-i
invariant-loop-i l = (k : ℕ) → k < l.i → AreAtLeast (asks_for (state_in l.cluster) Unlabelled) (path_of l.cluster (get_or l.queue.children.now k 0)) l.least
