use Rattle.std.proofs.Common.{ap, ◌∙◌}
use Rattle.std.proofs.lemmas.Result.{on_ok_weaker}
use Rattle.ynl_model.specs.declared.nodes.Node.{Node}
use Rattle.ynl_model.specs.View.{joined}
use Rattle.ynl_view.proofs.Unstamped.{unstamped, joined_is, none_found, not_full}
use Rattle.ynl_view.proofs.track.Track.join.Goals as goal

pub join-requires-clause-new : goal.join-requires-clause-new
join-requires-clause-new c = none_found c.self.inside.nodes c.args.self.now c.self.view_is c.args.name.now c.requires.new

pub join-requires-clause-room : goal.join-requires-clause-room
join-requires-clause-room c = not_full c.self.inside.nodes c.args.self.now c.self.view_is c.args.label.now c.requires.room

pub returns-clause-ok : goal.returns-clause-ok
returns-clause-ok c =
    let nodes = c.self.inside.nodes in
    let node : Node = record { name = c.args.name.now; label = c.args.label.now; size = c.args.size.now; stamp = 0 } in
    on_ok_weaker c.join.result (λ so. ap unstamped so ∙ joined_is nodes node ∙ ap (λ view. joined view node.name node.label node.size) c.self.view_is) c.join.ensures.ok
