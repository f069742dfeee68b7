use Rattle.std.proofs.Common.{◌∙◌, ◌<◌, ◌^◌, ◌-◌, Result, Ok, Err, OnOk, refl, sym, subst, arith}
use Rattle.std.proofs.lemmas.Option.{same_Some}
use Rattle.ynl_slots.specs.Slots.{with_row}
use Rattle.ynl_lanes.specs.declared.lane.rows.UserRow.{UserRow}
use Rattle.ynl_lanes.specs.lane.Lines.{HasRoom}
use Rattle.ynl_lanes.proofs.lane.Lists.{found_written}
use Rattle.ynl_lanes.proofs.lane.Searching.{own_line}
use Rattle.ynl_lanes.proofs.lane.Changing.{shown_written}
use Rattle.ynl_lanes.proofs.lane.Moving.{kept_own, seats_own, same_seats}
use Rattle.ynl_lanes.proofs.lane.rows.Rows.make_own_room.Goals as goal

pub returns-then-index-ge4294967295-clause-seats : goal.returns-then-index-ge4294967295-clause-seats
returns-then-index-ge4294967295-clause-seats c = same_seats c.args.self.now.users.entries c.args.self.now.seats.entries c.args.self.now.seats.entries refl

pub make_room-requires-clause-seats : goal.make_room-requires-clause-seats
make_room-requires-clause-seats c = (own_line c.args.self.now c.requires.kept.seated c.args.user c.index_mut-row.result.now c.index_mut-row.ensures.value).1

pub returns-clause-kept : goal.returns-clause-kept
returns-clause-kept c =
    kept_own c.args.self.now _ c.requires.kept c.args.user c.index_mut-row.result.now
    (record { user = c.index_mut-row.result.now.user; used = c.index_mut-row.result.now.used; live = c.index_mut-row.result.now.live; line = c.make_room.new.line })
    c.index_mut-row.ensures.value refl refl refl c.make_room.ensures.line c.make_room.ensures.seats c.make_room.ensures.distinct c.make_room.ensures.moved

pub returns-clause-seats : goal.returns-clause-seats
returns-clause-seats c =
    seats_own c.args.self.now
    (record c.args.self.now {
      seats = c.make_room.new.seats;
      users = record c.args.self.now.users { entries = with_row c.args.user (record { user = c.index_mut-row.result.now.user; used = c.index_mut-row.result.now.used; live = c.index_mut-row.result.now.live; line = c.make_room.new.line }) c.args.self.now.users.entries };
    })
    c.requires.kept c.args.user c.index_mut-row.result.now
    (record { user = c.index_mut-row.result.now.user; used = c.index_mut-row.result.now.used; live = c.index_mut-row.result.now.live; line = c.make_room.new.line })
    c.index_mut-row.ensures.value refl refl refl c.make_room.ensures.line c.make_room.ensures.seats c.make_room.ensures.distinct c.make_room.ensures.moved

pub returns-clause-users : goal.returns-clause-users
returns-clause-users c =
    shown_written c.args.user c.index_mut-row.result.now
    (record { user = c.index_mut-row.result.now.user; used = c.index_mut-row.result.now.used; live = c.index_mut-row.result.now.live; line = c.make_room.new.line })
    c.args.self.now.users.entries c.index_mut-row.ensures.value refl

on_ok-then : {A E : Type 0} (r : Result A E) (P Q : Type 0) → (P → Q) → OnOk r P → OnOk r Q
on_ok-then (Ok a) P Q f h = f h
on_ok-then (Err e) P Q f h = tt

pub returns-clause-room : goal.returns-clause-room
returns-clause-room c =
    let same = same_Some _ _ (sym c.index.ensures ∙ c.index_mut-row.ensures.value) in
    let few : c.index_mut-row.result.now.live < 2 ^ 32 - 1 = subst (λ (r : UserRow). r.live < 2 ^ 32 - 1) same (omega (arith, c.if-index-ge4294967295.false)) in
    on_ok-then c.make_room.result _ _
    (λ room row found.
    let is = same_Some _ _ (sym (found_written c.args.user (record { user = c.index_mut-row.result.now.user; used = c.index_mut-row.result.now.used; live = c.index_mut-row.result.now.live; line = c.make_room.new.line }) c.index_mut-row.result.now c.args.self.now.users.entries c.index_mut-row.ensures.value) ∙ found) in
    subst (λ (r : UserRow). HasRoom r.line × (r.live < 2 ^ 32 - 1)) is (room, few))
    c.make_room.ensures.room
