use Rattle.std.proofs.Common.{◌∙◌, None, ap}
use Rattle.std.specs.BTreeMap.{get}
use Rattle.std.specs.Ordering.{nat_cmp}
use Rattle.ynl_lanes.proofs.lane.Keeping.{users_moved, seats_moved, shows_itself, users_ready, opened_users, opened_seats, opened_ready, opened_are, keyed_of}
use Rattle.ynl_lanes.proofs.lane.users.make_room_for.Goals as goal

pub returns-in-Err-clause-seats : goal.returns-in-Err-clause-seats
returns-in-Err-clause-seats c = seats_moved c.args.rows.now c.make_room.new.self c.make_room.ensures.seats (shows_itself c.args.rows.now.users.entries c.make_room.new.self.users.entries (ap (λ s. s.entries) c.make_room.ensures.users))

pub returns-in-Err-clause-users : goal.returns-in-Err-clause-users
returns-in-Err-clause-users c = users_moved (λ n. get nat_cmp c.args.numbers.now n) c.args.rows.now c.make_room.new.self c.requires.users c.make_room.ensures.seats (shows_itself c.args.rows.now.users.entries c.make_room.new.self.users.entries (ap (λ s. s.entries) c.make_room.ensures.users))

pub find-requires : goal.find-requires
find-requires c = keyed_of (λ n. get nat_cmp c.args.numbers.now n) None c.make_room.new.self.seats.entries c.make_room.new.self.users.entries
    (users_moved (λ n. get nat_cmp c.args.numbers.now n) c.args.rows.now c.make_room.new.self c.requires.users c.make_room.ensures.seats (shows_itself c.args.rows.now.users.entries c.make_room.new.self.users.entries (ap (λ s. s.entries) c.make_room.ensures.users)))

pub open-requires-clause-keyed : goal.open-requires-clause-keyed
open-requires-clause-keyed c = keyed_of (λ n. get nat_cmp c.args.numbers.now n) None c.make_room.new.self.seats.entries c.make_room.new.self.users.entries
    (users_moved (λ n. get nat_cmp c.args.numbers.now n) c.args.rows.now c.make_room.new.self c.requires.users c.make_room.ensures.seats (shows_itself c.args.rows.now.users.entries c.make_room.new.self.users.entries (ap (λ s. s.entries) c.make_room.ensures.users)))

pub returns-in-Err-make_own_room-clause-seats : goal.returns-in-Err-make_own_room-clause-seats
returns-in-Err-make_own_room-clause-seats c =
    seats_moved c.make_room.new.self c.make_own_room.new.self c.make_own_room.ensures.seats c.make_own_room.ensures.users
    ∙ seats_moved c.args.rows.now c.make_room.new.self c.make_room.ensures.seats (shows_itself c.args.rows.now.users.entries c.make_room.new.self.users.entries (ap (λ s. s.entries) c.make_room.ensures.users))

pub returns-in-Err-make_own_room-clause-users : goal.returns-in-Err-make_own_room-clause-users
returns-in-Err-make_own_room-clause-users c =
    users_moved (λ n. get nat_cmp c.args.numbers.now n) c.make_room.new.self c.make_own_room.new.self
    (users_moved (λ n. get nat_cmp c.args.numbers.now n) c.args.rows.now c.make_room.new.self c.requires.users c.make_room.ensures.seats (shows_itself c.args.rows.now.users.entries c.make_room.new.self.users.entries (ap (λ s. s.entries) c.make_room.ensures.users)))
    c.make_own_room.ensures.seats c.make_own_room.ensures.users

pub returns-in-Ok-make_own_room-clause-seats : goal.returns-in-Ok-make_own_room-clause-seats
returns-in-Ok-make_own_room-clause-seats c =
    seats_moved c.make_room.new.self c.make_own_room.new.self c.make_own_room.ensures.seats c.make_own_room.ensures.users
    ∙ seats_moved c.args.rows.now c.make_room.new.self c.make_room.ensures.seats (shows_itself c.args.rows.now.users.entries c.make_room.new.self.users.entries (ap (λ s. s.entries) c.make_room.ensures.users))

pub returns-in-Ok-make_own_room-clause-users : goal.returns-in-Ok-make_own_room-clause-users
returns-in-Ok-make_own_room-clause-users c =
    users_ready (λ n. get nat_cmp c.args.numbers.now n) c.in-Some.number c.make_own_room.new.self.seats.entries c.make_own_room.new.self.users.entries
    (users_moved (λ n. get nat_cmp c.args.numbers.now n) c.make_room.new.self c.make_own_room.new.self
    (users_moved (λ n. get nat_cmp c.args.numbers.now n) c.args.rows.now c.make_room.new.self c.requires.users c.make_room.ensures.seats (shows_itself c.args.rows.now.users.entries c.make_room.new.self.users.entries (ap (λ s. s.entries) c.make_room.ensures.users)))
    c.make_own_room.ensures.seats c.make_own_room.ensures.users)

pub returns-in-None-clause-seats : goal.returns-in-None-clause-seats
returns-in-None-clause-seats c =
    opened_seats (λ n. get nat_cmp c.args.numbers.now n) (λ n. get nat_cmp c.open.new.numbers n) c.args.user c.make_room.new.self c.open.new.rows c.make_room.ensures.kept
    (users_moved (λ n. get nat_cmp c.args.numbers.now n) c.args.rows.now c.make_room.new.self c.requires.users c.make_room.ensures.seats (shows_itself c.args.rows.now.users.entries c.make_room.new.self.users.entries (ap (λ s. s.entries) c.make_room.ensures.users)))
    c.open.ensures.seats c.open.ensures.keyed c.open.result c.open.ensures.ok c.open.ensures.err
    ∙ seats_moved c.args.rows.now c.make_room.new.self c.make_room.ensures.seats (shows_itself c.args.rows.now.users.entries c.make_room.new.self.users.entries (ap (λ s. s.entries) c.make_room.ensures.users))

pub returns-in-None-clause-users : goal.returns-in-None-clause-users
returns-in-None-clause-users c =
    opened_users (λ n. get nat_cmp c.args.numbers.now n) (λ n. get nat_cmp c.open.new.numbers n) c.args.user c.make_room.new.self c.open.new.rows c.make_room.ensures.kept
    (users_moved (λ n. get nat_cmp c.args.numbers.now n) c.args.rows.now c.make_room.new.self c.requires.users c.make_room.ensures.seats (shows_itself c.args.rows.now.users.entries c.make_room.new.self.users.entries (ap (λ s. s.entries) c.make_room.ensures.users)))
    c.open.ensures.seats c.open.ensures.keyed c.open.result c.open.ensures.ok c.open.ensures.err

pub returns-in-None-clause-ready : goal.returns-in-None-clause-ready
returns-in-None-clause-ready c =
    opened_ready (λ n. get nat_cmp c.args.numbers.now n) (λ n. get nat_cmp c.open.new.numbers n) c.args.user c.make_room.new.self c.open.new.rows c.make_room.ensures.kept
    (users_moved (λ n. get nat_cmp c.args.numbers.now n) c.args.rows.now c.make_room.new.self c.requires.users c.make_room.ensures.seats (shows_itself c.args.rows.now.users.entries c.make_room.new.self.users.entries (ap (λ s. s.entries) c.make_room.ensures.users)))
    c.open.ensures.seats c.open.ensures.keyed c.open.result c.open.ensures.ok c.in-Ok.ensures.seat_room c.in-Ok.ensures.room c.open.ensures.line

pub returns-in-None-clause-user : goal.returns-in-None-clause-user
returns-in-None-clause-user c =
    opened_are (λ n. get nat_cmp c.args.numbers.now n) (λ n. get nat_cmp c.open.new.numbers n) c.args.user c.make_room.new.self c.open.new.rows c.make_room.ensures.kept
    (users_moved (λ n. get nat_cmp c.args.numbers.now n) c.args.rows.now c.make_room.new.self c.requires.users c.make_room.ensures.seats (shows_itself c.args.rows.now.users.entries c.make_room.new.self.users.entries (ap (λ s. s.entries) c.make_room.ensures.users)))
    c.open.ensures.seats c.open.ensures.keyed c.open.result c.open.ensures.ok
