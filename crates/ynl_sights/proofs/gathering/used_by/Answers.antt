-- An application that shares a partition has a seat there, which shows what its user uses.
use Rattle.std.proofs.Common.{◌≡◌, true, nat_eq, Option, Some, sym, ap, subst, ◌∙◌}
use Rattle.std.specs.Prelude.{IfSome}
use Rattle.std.specs.Map.{lookup}
use Rattle.std.proofs.lemmas.Option.{none-some, same_Some}
use Rattle.ynl_inventory.specs.Rows.{AppRow}
use Rattle.ynl_inventory.specs.Parts.{app_row}
use Rattle.ynl_inventory.proofs.Submitted.{app-submission}
use Rattle.ynl_cluster.specs.seating.Seating.{shares, user_use}
use Rattle.ynl_sights.proofs.Gathered.{used-at}
use Rattle.ynl_sights.proofs.gathering.used_by.Goals as goal

pub lane-lane-requires : goal.lane-lane-requires
lane-lane-requires c = record {
  partition = c.requires.partition;
  queue = (app-submission c.args.cluster.now.rows c.inventory.ensures.sound c.args.app (app_row c.app-row.result.now) (rw c.inventory.ensures.value at c.app-row.ensures)).there;
}

pub unreachable-requires-in_default-find_used : goal.unreachable-requires-in_default-find_used
unreachable-requires-in_default-find_used c =
    let w = c.args.cluster.now in
    let row = app_row c.app-row.result.now in
    let found : lookup (nat_eq c.args.app) w.rows.apps ≡ Some row = rw c.inventory.ensures.value at c.app-row.ensures in
    let shared : shares c.args.p row ≡ true = subst (λ (o : Option AppRow). IfSome o (λ row. shares c.args.p row ≡ true)) found c.requires.shares in
    none-some (user_use w.rows c.args.p row.leaf row.user)
    (sym c.in_default-find_used.is ∙ c.find_used.ensures.value
    ∙ used-at w c.args.app row found c.args.p shared c.lane-lane.result.now c.lane-lane.ensures.lane c.in-Some.ticket (sym c.ticket_of.ensures ∙ c.in-Some.is))

pub returns-clause-value : goal.returns-clause-value
returns-clause-value c = λ other at.
    let w = c.args.cluster.now in
    let row = app_row c.app-row.result.now in
    let found : lookup (nat_eq c.args.app) w.rows.apps ≡ Some row = rw c.inventory.ensures.value at c.app-row.ensures in
    let shared : shares c.args.p row ≡ true = subst (λ (o : Option AppRow). IfSome o (λ row. shares c.args.p row ≡ true)) found c.requires.shares in
    same_Some c.in-Some-find_used.used (user_use w.rows c.args.p row.leaf row.user)
    (sym c.in-Some-find_used.is ∙ c.find_used.ensures.value
    ∙ used-at w c.args.app row found c.args.p shared c.lane-lane.result.now c.lane-lane.ensures.lane c.in-Some.ticket (sym c.ticket_of.ensures ∙ c.in-Some.is))
    ∙ ap (λ (r : AppRow). user_use w.rows c.args.p r.leaf r.user) (same_Some row other (sym found ∙ at))
