use Rattle.std.proofs.Common.{subst}
use Rattle.ynl_slots.specs.Slots.{HasDistinctNumbers}
use Rattle.ynl_tables.specs.containers.Table.{Table}
use Rattle.ynl_tables.proofs.containers.Rows.{distinct_of_rows}
use Rattle.ynl_tables.proofs.containers.containers.Containers.len.Goals as goal

pub returns-clause-distinct : goal.returns-clause-distinct
returns-clause-distinct c =
    subst (λ (t : Table). HasDistinctNumbers t.entries) c.self.view_is (distinct_of_rows (λ row. row.container) c.self.inside.rows.entries c.self.invariant.distinct)
