use Rattle.std.proofs.Common.{Some, None, sym, ap, ◌∙◌}
use Rattle.std.specs.Option.{option_map_or}
use Rattle.ynl_model.specs.Promises.{without_stamp}
use Rattle.ynl_model.specs.View.{dropped}
use Rattle.ynl_view.proofs.Unstamped.{unstamped, left_is, found_is}
use Rattle.ynl_view.proofs.track.Track.lose.Goals as goal

pub returns-in-Some : goal.returns-in-Some
returns-in-Some c =
    let nodes = c.self.inside.nodes in
    let view = c.args.self.now in
    let node = c.in-Some.node in
    ap unstamped c.leave.ensures ∙ left_is nodes node ∙ ap (λ track. dropped track (without_stamp node)) c.self.view_is
    ∙ sym (ap (λ found. option_map_or (dropped view) found view) (found_is nodes view c.self.view_is c.args.name.now (Some node) (c.in-Some.ensures ∙ c.find.ensures)))

pub returns-in_default : goal.returns-in_default
returns-in_default c =
    let view = c.args.self.now in
    sym (ap (λ found. option_map_or (dropped view) found view) (found_is c.self.inside.nodes view c.self.view_is c.args.name.now None (c.in_default.ensures ∙ c.find.ensures)))
