use Rattle.std.proofs.Common.{sym, ap}
use Rattle.std.specs.Option.{option_map_or}
use Rattle.ynl_resource.specs.Amounts.{nothing}
use Rattle.ynl_lanes.specs.declared.lane.levels.Level.TheVariants.{Lane}
use Rattle.ynl_lanes.specs.declared.lane.rows.UserRow.{UserRow}
use Rattle.ynl_lanes.proofs.lane.Standing.{user_live, if_none-then, if_some-then, none_to_stand, first_to_stand, none_may}
use Rattle.ynl_lanes.proofs.lane.rows.Rows.first_of_stand.Goals as goal

pub seat_at-requires : goal.seat_at-requires
seat_at-requires g c = c.requires.seated.lines Lane

pub index-requires : goal.index-requires
index-requires g c = user_live c.args.self.now c.requires.seated c.in-Some._ticket c.in-Some.row c.in-Some.ensures.found.found

pub returns-in-Some-room-clause-none : goal.returns-in-Some-room-clause-none
returns-in-Some-room-clause-none g c =
    if_none-then c.first_own.result _ _
    (none_to_stand c.args.self.now c.requires.seated c.args.kind c.args.stand c.in-Some._ticket c.in-Some.row c.in-Some.ensures.found (g.T.UserTest.may c.args.test.now) (g.R.Request.gives c.args.request.now) c.requires.may c.index.result.now.used (sym (ap (λ o. option_map_or (λ (r : UserRow). r.used) o nothing) c.index.ensures)) c.args.end c.in-Some-room.room c.in-Some-room.ensures.some)
    c.first_own.ensures.none

pub returns-in-Some-room-clause-some : goal.returns-in-Some-room-clause-some
returns-in-Some-room-clause-some g c =
    if_some-then c.first_own.result _ _
    (first_to_stand c.args.self.now c.requires.seated c.args.kind c.args.stand c.in-Some._ticket c.in-Some.row c.in-Some.ensures.found (g.T.UserTest.may c.args.test.now) (g.R.Request.gives c.args.request.now) c.requires.may c.index.result.now.used (sym (ap (λ o. option_map_or (λ (r : UserRow). r.used) o nothing) c.index.ensures)) c.args.end c.in-Some-room.room c.in-Some-room.ensures.some)
    c.first_own.ensures.some

pub returns-in-None-clause-none : goal.returns-in-None-clause-none
returns-in-None-clause-none g c =
    none_may c.args.self.now c.requires.seated c.args.kind c.args.stand c.in-Some._ticket c.in-Some.row c.in-Some.ensures.found (g.T.UserTest.may c.args.test.now) (g.R.Request.gives c.args.request.now) c.requires.may c.index.result.now.used (sym (ap (λ o. option_map_or (λ (r : UserRow). r.used) o nothing) c.index.ensures)) c.args.end c.in-None.ensures.none
