use Rattle.ynl_laws.proofs.Soundness.Tracked.{is_tracked}
use Rattle.ynl_laws.proofs.nodes.nodes_are_tracked.Goals as goal

pub returns : goal.returns
returns c = is_tracked
