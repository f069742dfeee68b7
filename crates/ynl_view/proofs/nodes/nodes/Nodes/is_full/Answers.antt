use Rattle.std.proofs.Common.{ap, ◌∙◌, nat_le}
use Rattle.ynl_resource.specs.Ranges.{most_nodes}
use Rattle.ynl_model.specs.Nodes.{is_full, nodes_of}
use Rattle.std.proofs.Common.{length}
use Rattle.ynl_view.proofs.nodes.nodes.Nodes.is_full.Goals as goal

pub returns : goal.returns
unfolding is_full
returns c = ap (nat_le most_nodes) (c.count_at.ensures ∙ c.self.invariant.counts c.args.label.now ∙ ap (λ nodes. length (nodes_of nodes c.args.label.now)) c.self.view_is)
