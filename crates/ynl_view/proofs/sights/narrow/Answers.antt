use Rattle.std.proofs.Common.{sym, ap, ◌∙◌}
use Rattle.ynl_model.specs.View.{seen_of}
use Rattle.ynl_view.proofs.sights.narrow.Goals as goal

pub returns-in-Relabel : goal.returns-in-Relabel
returns-in-Relabel c = c.narrow_relabel.ensures c.args.tenant.now ∙ ap (seen_of c.args.tenant.now c.args.label.now c.args.config.now c.args.track.now) (sym c.in-Relabel.is)
