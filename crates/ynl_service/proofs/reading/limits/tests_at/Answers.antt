use Rattle.std.proofs.Common.{ℕ, subst}
use Rattle.ynl_resource.specs.Amounts.{nothing}
use Rattle.ynl_cluster.specs.Cluster.{label_of, path_of, state_in}
use Rattle.ynl_search.specs.Leaves.{AreTests}
use Rattle.ynl_service.proofs.reading.limits.tests_at.Goals as goal

pub returns : goal.returns
returns c =
    subst (λ (q : ℕ). AreTests c.args.cluster.now.config (state_in c.args.cluster.now) (label_of c.args.cluster.now c.args.cell.partition) nothing (path_of c.args.cluster.now q) c.tests_of.result)
    c.place_of-place.ensures.queue (c.tests_of.ensures.tests nothing c.place_of-place.ensures.place)
