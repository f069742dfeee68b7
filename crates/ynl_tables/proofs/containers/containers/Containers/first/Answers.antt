-- The rows have the numbers of the containers that a contract sees.
use Rattle.std.proofs.Common.{sym, ap, ◌∙◌}
use Rattle.ynl_slots.specs.Slots.{number_in}
use Rattle.ynl_slots.proofs.Walks.{number_shown}
use Rattle.ynl_tables.specs.declared.containers.row.Row.{Row}
use Rattle.ynl_tables.specs.containers.Table.{Table}
use Rattle.ynl_tables.proofs.containers.containers.Containers.first.Goals as goal

pub returns : goal.returns
returns c =
    c.first.ensures ∙ sym (number_shown (λ (row : Row). row.container) c.self.inside.rows.entries 0) ∙ ap (λ (t : Table). number_in t.entries 0) c.self.view_is
