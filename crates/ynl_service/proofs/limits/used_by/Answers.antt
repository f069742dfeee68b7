-- An application that shares a partition has a seat there, which shows what its user uses.
use Rattle.std.proofs.Common.{◌≡◌, true, nat_eq, Option, Some, sym, ap, subst, ◌∙◌}
use Rattle.std.specs.Prelude.{IfSome}
use Rattle.std.specs.Map.{lookup}
use Rattle.std.proofs.lemmas.Option.{none-some, same_Some}
use Rattle.ynl_inventory.specs.Rows.{AppRow}
use Rattle.ynl_inventory.specs.Parts.{app_row}
use Rattle.ynl_cluster.specs.seating.Seating.{shares, user_use}
use Rattle.ynl_service.proofs.Limiting.{leaf-is, ticket-there, used-at}
use Rattle.ynl_service.proofs.limits.used_by.Goals as goal

pub lane_of-lane-requires : goal.lane_of-lane-requires
lane_of-lane-requires c = record {
  partition = c.requires.partition;
  queue = (leaf-is c.args.cluster.now c.inventory.ensures.sound c.args.app (app_row c.app-row.result.now) (rw c.inventory.ensures.value at c.app-row.ensures)).there;
}

pub unreachable-requires : goal.unreachable-requires
unreachable-requires c =
    let w = c.args.cluster.now in
    let row = app_row c.app-row.result.now in
    let found : lookup (nat_eq c.args.app) w.rows.apps ≡ Some row = rw c.inventory.ensures.value at c.app-row.ensures in
    let shared : shares c.args.p row ≡ true = subst (λ (o : Option AppRow). IfSome o (λ row. shares c.args.p row ≡ true)) found c.requires.shares in
    ticket-there w c.inventory.ensures.sound c.args.app row found c.args.p shared c.lane_of-lane.result.now.seats c.lane_of-lane.ensures.lane (sym c.ticket_of.ensures ∙ c.in_default.is)

pub unreachable-requires-in_default-find_used : goal.unreachable-requires-in_default-find_used
unreachable-requires-in_default-find_used c =
    let w = c.args.cluster.now in
    let row = app_row c.app-row.result.now in
    let found : lookup (nat_eq c.args.app) w.rows.apps ≡ Some row = rw c.inventory.ensures.value at c.app-row.ensures in
    let shared : shares c.args.p row ≡ true = subst (λ (o : Option AppRow). IfSome o (λ row. shares c.args.p row ≡ true)) found c.requires.shares in
    none-some (user_use w.rows c.args.p row.leaf row.user)
    (sym c.in_default-find_used.is ∙ c.find_used.ensures.value
    ∙ used-at w c.inventory.ensures.sound c.args.app row found c.args.p shared c.lane_of-lane.result.now.seats c.lane_of-lane.ensures.lane c.in-Some.ticket (sym c.ticket_of.ensures ∙ c.in-Some.is))

pub returns-clause-value : goal.returns-clause-value
returns-clause-value c = λ other at.
    let w = c.args.cluster.now in
    let row = app_row c.app-row.result.now in
    let found : lookup (nat_eq c.args.app) w.rows.apps ≡ Some row = rw c.inventory.ensures.value at c.app-row.ensures in
    let shared : shares c.args.p row ≡ true = subst (λ (o : Option AppRow). IfSome o (λ row. shares c.args.p row ≡ true)) found c.requires.shares in
    same_Some c.in-Some-find_used.used (user_use w.rows c.args.p row.leaf row.user)
    (sym c.in-Some-find_used.is ∙ c.find_used.ensures.value
    ∙ used-at w c.inventory.ensures.sound c.args.app row found c.args.p shared c.lane_of-lane.result.now.seats c.lane_of-lane.ensures.lane c.in-Some.ticket (sym c.ticket_of.ensures ∙ c.in-Some.is))
    ∙ ap (λ (r : AppRow). user_use w.rows c.args.p r.leaf r.user) (same_Some row other (sym found ∙ at))
