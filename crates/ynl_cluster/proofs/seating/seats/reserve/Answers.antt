-- Seats stay while room is reserved.
use Rattle.ynl_cluster.proofs.seating.Reserving.{kept-seated, lane-kept}
use Rattle.ynl_cluster.proofs.seating.seats.reserve.Goals as goal

pub returns-in_err-reserve-clause-seated : goal.returns-in_err-reserve-clause-seated
returns-in_err-reserve-clause-seated c = kept-seated c.args.home c.args.leaf c.args.user c.reserve.result c.args.lanes.now c.reserve.new.self c.requires.home c.reserve.ensures

pub returns-then-home-eq0-clause-seated : goal.returns-then-home-eq0-clause-seated
returns-then-home-eq0-clause-seated c = kept-seated c.args.home c.args.leaf c.args.user c.reserve.result c.args.lanes.now c.reserve.new.self c.requires.home c.reserve.ensures

pub returns-clause-seated : goal.returns-clause-seated
returns-clause-seated c v seated =
    kept-seated 0 c.args.leaf c.args.user c.reserve-2.result c.reserve.new.self c.reserve-2.new.self
    (lane-kept c.args.home c.args.leaf c.args.user c.reserve.result c.args.lanes.now c.reserve.new.self c.requires.home c.reserve.ensures 0 c.args.leaf c.requires.default) c.reserve-2.ensures v
    (kept-seated c.args.home c.args.leaf c.args.user c.reserve.result c.args.lanes.now c.reserve.new.self c.requires.home c.reserve.ensures v seated)
