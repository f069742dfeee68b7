use Rattle.ynl_cluster.specs.Cluster.{label_of, path_of, state_in}
use Rattle.ynl_search.proofs.LaneOf.{leaf-kept}
use Rattle.ynl_search.proofs.leaves.tests_of.Goals as goal

pub returns-clause-tests : goal.returns-clause-tests
returns-clause-tests c free is =
    c.new.ensures.tests c.args.cluster.now.config (state_in c.args.cluster.now) (label_of c.args.cluster.now c.args.p) free (path_of c.args.cluster.now c.args.place.now.queue) is
    (leaf-kept c.args.cluster.now c.args.p c.args.place.now.queue c.leaf_settings.result.now c.leaf_settings.ensures c.used-kept.result.now c.used-kept.ensures.value c.users_of-users.result c.users_of-users.ensures.value)

pub returns-clause-limits : goal.returns-clause-limits
returns-clause-limits c amounts =
    c.new.ensures.limits c.args.cluster.now.config (state_in c.args.cluster.now) (label_of c.args.cluster.now c.args.p) (path_of c.args.cluster.now c.args.place.now.queue) amounts
    (leaf-kept c.args.cluster.now c.args.p c.args.place.now.queue c.leaf_settings.result.now c.leaf_settings.ensures c.used-kept.result.now c.used-kept.ensures.value c.users_of-users.result c.users_of-users.ensures.value)
