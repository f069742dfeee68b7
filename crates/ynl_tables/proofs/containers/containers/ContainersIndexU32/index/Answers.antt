use Rattle.std.proofs.Common.{◌∙◌, ap, sym, subst, nat_eq, option_map}
use Rattle.std.specs.Map.{lookup}
use Rattle.ynl_slots.specs.Slots.{IsLive}
use Rattle.ynl_tables.specs.declared.containers.row.Row.{Row}
use Rattle.ynl_tables.specs.containers.Table.{Table}
use Rattle.ynl_tables.proofs.containers.Rows.{lookup-of_rows}
use Rattle.ynl_tables.proofs.containers.Removing.{live_row}
use Rattle.ynl_tables.proofs.containers.containers.ContainersIndexU32.index.Goals as goal

pub index-requires : goal.index-requires
index-requires c = live_row c.args.number c.self.inside.rows.entries (subst (λ (t : Table). IsLive c.args.number t.entries) (sym c.self.view_is) c.requires)

pub returns : goal.returns
returns c =
    ap (λ (t : Table). lookup (nat_eq c.args.number) t.entries) (sym c.self.view_is)
    ∙ lookup-of_rows (λ (r : Row). r.container) c.args.number c.self.inside.rows.entries
    ∙ ap (option_map (λ (r : Row). r.container)) c.index.ensures
