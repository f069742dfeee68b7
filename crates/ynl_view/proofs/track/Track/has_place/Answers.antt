use Rattle.std.proofs.Common.{not, sym, ap, ◌∙◌}
use Rattle.ynl_view.proofs.Unstamped.{place_is}
use Rattle.ynl_view.proofs.track.Track.has_place.Goals as goal

pub returns : goal.returns
returns c = ap not c.is_full.ensures ∙ sym (place_is c.self.inside.nodes c.args.self.now c.self.view_is c.args.label.now)
