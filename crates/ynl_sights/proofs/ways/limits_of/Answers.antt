-- What is told of the tests of a leaf is what the model says of the leaf.
use Rattle.std.proofs.Common.{not, ap, subst, ◌∙◌}
use Rattle.ynl_resource.specs.Amounts.{nothing}
use Rattle.ynl_search.specs.declared.limits.limits.Limits.{Limits}
use Rattle.ynl_search.specs.limits.Limits.{limit_of}
use Rattle.ynl_cluster.specs.Cluster.{label_of, path_of, state_in}
use Rattle.ynl_search.specs.Leaves.{AreTests}
use Rattle.ynl_sights.proofs.ways.limits_of.Goals as goal

pub returns : goal.returns
returns c =
    let w = c.args.cluster.now in
    let s = state_in w in
    let label = label_of w c.args.p in
    let are : AreTests w.config s label nothing (path_of w c.args.leaf) c.tests_of-tests.result =
    subst (λ q. AreTests w.config s label nothing (path_of w q) c.tests_of-tests.result) c.requires.place.queue (c.tests_of-tests.ensures.tests nothing c.requires.place.is) in
    record {
      user_limit = λ size. ap (λ (limits : Limits). limit_of limits size) c.limits.ensures ∙ are.limit size;
      masters = c.masters.ensures.value ∙ are.masters;
      master_limit = c.master_limit.ensures ∙ are.master_limit;
      no_master = ap not c.has_master.ensures ∙ are.has_master;
    }
