use Rattle.std.proofs.Common.{subst, sym}
use Rattle.ynl_resource.specs.declared.labels.Label.TheVariants.{Unlabelled}
use Rattle.ynl_model.specs.Service.{asks_for}
use Rattle.ynl_cluster.specs.Cluster.{path_of, state_in}
use Rattle.ynl_search.specs.notes.Shut.{AreAtLeast}
use Rattle.ynl_search.proofs.notes.Least.{least-asked-is}
use Rattle.ynl_search.proofs.notes.leaves.least_asked.Goals as goal

pub returns : goal.returns
returns c =
    let w = c.args.cluster.now in
    subst (λ low. AreAtLeast (asks_for (state_in w) Unlabelled) (path_of w c.args.leaf) low) (sym c.amount.ensures.value)
    (least-asked-is w c.lane_of.ensures.sound c.args.leaf c.requires.leaf c.lane_of.result.now.seats c.lane_of.ensures.lane c.least.result c.least.ensures)
