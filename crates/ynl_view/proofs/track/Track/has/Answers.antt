use Rattle.std.proofs.Common.{Some, None, false, sym, ap, ◌∙◌}
use Rattle.std.specs.Option.{option_map_or}
use Rattle.ynl_resource.specs.Names.{same_label}
use Rattle.ynl_view.proofs.Unstamped.{found_is}
use Rattle.ynl_view.proofs.track.Track.has.Goals as goal

pub returns-in-Some : goal.returns-in-Some
returns-in-Some c =
    c.is_on.ensures ∙ sym (ap (λ found. option_map_or (λ node. same_label node.label c.args.label.now) found false) (found_is c.self.inside.nodes c.args.self.now c.self.view_is c.args.name.now (Some c.in-Some.node.now) c.in-Some.ensures))

pub returns-in-None : goal.returns-in-None
returns-in-None c =
    sym (ap (λ found. option_map_or (λ node. same_label node.label c.args.label.now) found false) (found_is c.self.inside.nodes c.args.self.now c.self.view_is c.args.name.now None c.in-None.ensures))
