-- The rows have the numbers of the containers that a contract sees.
use Rattle.std.proofs.Common.{sym, subst}
use Rattle.ynl_slots.specs.Slots.{IsAfter, IsLive}
use Rattle.ynl_slots.proofs.Walks.{after_shown}
use Rattle.ynl_tables.specs.declared.containers.row.Row.{Row}
use Rattle.ynl_tables.specs.containers.Table.{Table}
use Rattle.ynl_tables.proofs.containers.Removing.{live_row}
use Rattle.ynl_tables.proofs.containers.containers.Containers.next.Goals as goal

pub next-requires : goal.next-requires
next-requires c = live_row c.args.number c.self.inside.rows.entries (subst (λ (t : Table). IsLive c.args.number t.entries) (sym c.self.view_is) c.requires)

pub returns : goal.returns
returns c =
    subst (λ (t : Table). IsAfter c.args.number t.entries c.next.result) c.self.view_is
    (after_shown (λ (row : Row). row.container) c.self.inside.rows.entries c.args.number c.next.result c.next.ensures)
