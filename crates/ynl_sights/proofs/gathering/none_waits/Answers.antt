use Rattle.std.proofs.Common.{◌≡◌, [], ap, ◌∙◌, sym}
use Rattle.ynl_resource.specs.Amounts.{fits_in}
use Rattle.ynl_lanes.specs.lows.Lows.{no_size}
use Rattle.ynl_sights.specs.Copying.{items_in, kind_wanted}
use Rattle.ynl_sights.proofs.Gathered.{on-true}
use Rattle.ynl_sights.proofs.Idle.{idle}
use Rattle.ynl_sights.proofs.gathering.none_waits.Goals as goal

pub returns : goal.returns
returns c =
    let w = c.args.cluster.now in
    on-true c.fits.result (items_in w.rows (kind_wanted c.args.kind w.rows c.args.p) c.args.leaf ≡ [])
    (λ is. idle w c.lane.ensures.sound c.lane.ensures.sizes c.args.p c.args.leaf c.requires c.lane.result.now c.lane.ensures.lane c.args.kind c.least-least.result c.least-least.ensures
    (ap (fits_in no_size) (sym c.amount.ensures.value) ∙ sym c.fits.ensures ∙ is))
