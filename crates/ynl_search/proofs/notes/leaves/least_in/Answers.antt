use Rattle.std.proofs.Common.{◌≡◌, true, subst, sym, ◌∙◌, arith}
use Rattle.std.proofs.lemmas.Bool.Decides.{nat_tests}
use Rattle.ynl_resource.specs.Amounts.{fits_in, smaller_of}
use Rattle.ynl_resource.specs.declared.amounts.Resource.{Resource}
use Rattle.ynl_model.specs.Service.{items_for}
use Rattle.ynl_cluster.specs.Cluster.{label_of, path_of, state_in}
use Rattle.ynl_search.specs.notes.Shut.{AreAtLeast}
use Rattle.ynl_search.proofs.notes.Least.{least-is}
use Rattle.ynl_search.proofs.notes.leaves.least_in.Goals as goal

first : (a b : Resource) → fits_in (smaller_of a b) a ≡ true
first a b = grind (arith, nat_tests)

second : (a b : Resource) → fits_in (smaller_of a b) b ≡ true
second a b = grind (arith, nat_tests)

pub returns : goal.returns
returns c =
    let w = c.args.cluster.now in
    let masters = c.least.result in
    let asks = c.least-2.result in
    let is : c.less_of.result ≡ smaller_of masters asks = c.less_of.ensures ∙ (λ i. smaller_of (c.amount-masters.ensures.value i) (c.amount-asks.ensures.value i)) in
    subst (λ low. AreAtLeast (items_for (state_in w) (label_of w c.args.p)) (path_of w c.args.leaf) low) (sym is)
    (least-is w c.lane_of-lane.ensures.sound c.args.leaf c.requires.leaf c.args.p c.requires.cell c.lane_of-lane.result.now.seats c.lane_of-lane.ensures.lane
    masters asks (smaller_of masters asks) c.least.ensures c.least-2.ensures (first masters asks) (second masters asks))
