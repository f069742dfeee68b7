-- The containers of the rows are those that a contract sees.
use Rattle.std.proofs.Common.{◌≡◌, List, map, ap, subst, ◌∙◌}
use Rattle.std.specs.Prelude.{IfOk}
use Rattle.ynl_tables.specs.declared.containers.container.Container.{Container}
use Rattle.ynl_tables.specs.declared.containers.row.Row.{Row}
use Rattle.ynl_tables.specs.containers.Table.{Table}
use Rattle.ynl_tables.proofs.containers.Rows.{rows-of_rows}
use Rattle.ynl_tables.proofs.containers.containers.Containers.copies.Goals as goal

pub returns : goal.returns
returns c =
    subst (λ (es : List Container). IfOk c.containers_of.result (λ list. list.items ≡ es))
    (ap (map (λ (row : Row). row.container)) (c.deref.ensures.value ∙ c.in_ok-rows.ensures) ∙ rows-of_rows (λ (row : Row). row.container) c.self.inside.rows.entries ∙ ap (λ (t : Table). map (λ e. e.1) t.entries) c.self.view_is)
    c.containers_of.ensures
