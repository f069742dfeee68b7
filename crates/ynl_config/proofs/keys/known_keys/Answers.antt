use Rattle.std.proofs.Common.{Some, None, sym}
use Rattle.toml.specs.View.{table_view}
use Rattle.ynl_config.proofs.PlaceViews.{known-where}
use Rattle.ynl_config.proofs.keys.known_keys.Goals as goal

pub returns-in-Some : goal.returns-in-Some
returns-in-Some c = sym (known-where c.args.kind (table_view c.args.table.now) (Some c.in-Some.field-0) c.in-Some.ensures)

pub returns-in-None : goal.returns-in-None
returns-in-None c = sym (known-where c.args.kind (table_view c.args.table.now) None c.in-None.ensures)
