use Rattle.std.proofs.Common.{refl, sym, subst}
use Rattle.ynl_lanes.specs.declared.lane.levels.Level.TheVariants.{Lane}
use Rattle.ynl_lanes.specs.lane.Levels.{AreIn, ArePairs}
use Rattle.ynl_lanes.specs.lane.Rooms.{IsSameSeat}
use Rattle.ynl_lanes.proofs.lane.Moving.{kept_like, kept_packed, seats_packed, same_seats}
use Rattle.ynl_lanes.proofs.lane.rows.Rows.make_room.Goals as goal

pub returns-in_err-reserve_one-clause-kept : goal.returns-in_err-reserve_one-clause-kept
returns-in_err-reserve_one-clause-kept c = kept_like c.args.self.now (record c.args.self.now { seats = c.reserve_one.new.self }) c.requires c.reserve_one.ensures.entries refl refl

pub returns-in_err-reserve_one-clause-seats : goal.returns-in_err-reserve_one-clause-seats
returns-in_err-reserve_one-clause-seats c = same_seats c.args.self.now.users.entries c.args.self.now.seats.entries c.reserve_one.new.self.entries c.reserve_one.ensures.entries

pub make_room-requires-clause-seats : goal.make_room-requires-clause-seats
make_room-requires-clause-seats c = subst (AreIn Lane c.args.self.now.line.tickets) (sym c.reserve_one.ensures.entries) (c.requires.seated.lines Lane)

pub returns-clause-kept : goal.returns-clause-kept
returns-clause-kept c =
    kept_packed (record c.args.self.now { seats = c.reserve_one.new.self }) (record c.args.self.now { seats = c.make_room.new.seats; line = c.make_room.new.line })
    (kept_like c.args.self.now (record c.args.self.now { seats = c.reserve_one.new.self }) c.requires c.reserve_one.ensures.entries refl refl)
    refl c.make_room.ensures.line c.make_room.ensures.seats c.make_room.ensures.distinct c.make_room.ensures.moved

pub returns-clause-seats : goal.returns-clause-seats
returns-clause-seats c =
    subst (λ es. ArePairs (IsSameSeat c.args.self.now.users.entries c.args.self.now.users.entries) es c.make_room.new.seats.entries) c.reserve_one.ensures.entries
    (seats_packed (record c.args.self.now { seats = c.reserve_one.new.self }) (record c.args.self.now { seats = c.make_room.new.seats; line = c.make_room.new.line })
    (kept_like c.args.self.now (record c.args.self.now { seats = c.reserve_one.new.self }) c.requires c.reserve_one.ensures.entries refl refl)
    refl c.make_room.ensures.line c.make_room.ensures.seats c.make_room.ensures.distinct c.make_room.ensures.moved)
