use Rattle.std.proofs.Common.{◌∙◌, ap, sym, nat_eq, option_map, option_copied}
use Rattle.std.specs.Map.{lookup}
use Rattle.ynl_tables.specs.declared.containers.row.Row.{Row}
use Rattle.ynl_tables.specs.containers.Table.{Table}
use Rattle.ynl_tables.proofs.containers.Rows.{lookup-of_rows}
use Rattle.ynl_tables.proofs.containers.containers.Containers.get.Goals as goal

pub returns-in-Some : goal.returns-in-Some
returns-in-Some c =
    ap (λ o. option_map (λ (r : Row). r.container) (option_copied o)) (sym c.in-Some.is)
    ∙ ap (option_map (λ (r : Row). r.container)) c.get.ensures.value
    ∙ sym (lookup-of_rows (λ (r : Row). r.container) c.args.number c.self.inside.rows.entries)
    ∙ ap (λ (t : Table). lookup (nat_eq c.args.number) t.entries) c.self.view_is

pub returns-in-None : goal.returns-in-None
returns-in-None c =
    ap (λ o. option_map (λ (r : Row). r.container) (option_copied o)) (sym c.in-None.is)
    ∙ ap (option_map (λ (r : Row). r.container)) c.get.ensures.value
    ∙ sym (lookup-of_rows (λ (r : Row). r.container) c.args.number c.self.inside.rows.entries)
    ∙ ap (λ (t : Table). lookup (nat_eq c.args.number) t.entries) c.self.view_is
