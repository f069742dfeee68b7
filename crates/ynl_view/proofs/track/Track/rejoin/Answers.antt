use Rattle.std.proofs.Common.{Some, None, sym, ap, ◌∙◌}
use Rattle.std.specs.Option.{option_map_or}
use Rattle.std.proofs.lemmas.Result.{on_ok_weaker}
use Rattle.ynl_model.specs.Nodes.{find_node, left}
use Rattle.ynl_model.specs.Promises.{without_stamp}
use Rattle.ynl_model.specs.declared.nodes.Node.{Node}
use Rattle.ynl_model.specs.View.{joined, dropped}
use Rattle.ynl_view.proofs.Unstamped.{unstamped, joined_is, left_is, found_is, not_full, named}
use Rattle.ynl_view.proofs.track.Track.rejoin.Goals as goal

pub rejoin-requires-clause-here : goal.rejoin-requires-clause-here
rejoin-requires-clause-here c =
    let nodes = c.self.inside.nodes in
    ap (find_node nodes) (named nodes c.args.self.now c.self.view_is c.args.name.now c.in-Some.node (c.in-Some.ensures ∙ c.find.ensures)) ∙ sym (c.in-Some.ensures ∙ c.find.ensures)

pub rejoin-requires-clause-room : goal.rejoin-requires-clause-room
rejoin-requires-clause-room c = not_full c.self.inside.nodes c.args.self.now c.self.view_is c.args.label.now c.requires

pub returns-in-Some-clause-ok : goal.returns-in-Some-clause-ok
returns-in-Some-clause-ok c =
    let nodes = c.self.inside.nodes in
    let view = c.args.self.now in
    let name = c.args.name.now in
    let label = c.args.label.now in
    let node = c.in-Some.node in
    let moved : Node = record { name = node.name; label = label; size = node.size; stamp = 0 } in
    let is = named nodes view c.self.view_is name node (c.in-Some.ensures ∙ c.find.ensures) in
    on_ok_weaker c.rejoin.result
    (λ so. ap unstamped so ∙ joined_is (left node nodes) moved ∙ (λ i. joined (left_is nodes node i) (is i) label node.size) ∙ ap (λ track. joined (dropped track (without_stamp node)) name label node.size) c.self.view_is
    ∙ sym (ap (λ found. option_map_or (λ other. joined (dropped view other) name label other.size) found view) (found_is nodes view c.self.view_is name (Some node) (c.in-Some.ensures ∙ c.find.ensures))))
    c.rejoin.ensures.ok

pub returns-in-None-clause-ok : goal.returns-in-None-clause-ok
returns-in-None-clause-ok c =
    let view = c.args.self.now in
    sym (ap (λ found. option_map_or (λ other. joined (dropped view other) c.args.name.now c.args.label.now other.size) found view) (found_is c.self.inside.nodes view c.self.view_is c.args.name.now None (c.in-None.ensures ∙ c.find.ensures)))
