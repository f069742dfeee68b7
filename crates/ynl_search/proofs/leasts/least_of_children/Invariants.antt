use Rattle.std.proofs.Common.{ℕ, ◌<◌, get_or}
use Rattle.ynl_model.specs.Service.{items_for}
use Rattle.ynl_cluster.specs.Cluster.{label_of, path_of, state_in}
use Rattle.ynl_search.specs.notes.Shut.{AreAtLeast}
use Rattle.ynl_search.proofs.leasts.least_of_children.Given as goal

abbrev pub invariant-loop-i : goal.invariant-loop-i
invariant-loop-i l = (k : ℕ) → k < l.i → AreAtLeast (items_for (state_in l.cluster) (label_of l.cluster l.p)) (path_of l.cluster (get_or l.queue.children.now k 0)) l.least
