use Rattle.std.proofs.Common.{Some, None, sym, ap, ◌∙◌}
use Rattle.ynl_model.specs.declared.nodes.Tracked.{Tracked}
use Rattle.ynl_view.proofs.Unstamped.{found_is}
use Rattle.ynl_view.proofs.track.Track.node.Goals as goal

pub returns-in-Some : goal.returns-in-Some
returns-in-Some c = ap (λ (node : Tracked). Some node) c.without_stamp.ensures ∙ sym (found_is c.self.inside.nodes c.args.self.now c.self.view_is c.args.name.now (Some c.in-Some.node.now) c.in-Some.ensures)

pub returns-in-None : goal.returns-in-None
returns-in-None c = sym (found_is c.self.inside.nodes c.args.self.now c.self.view_is c.args.name.now None c.in-None.ensures)
