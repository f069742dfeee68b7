use Rattle.std.proofs.Common.{Some, None}
use Rattle.toml.specs.View.{table_view}
use Rattle.ynl_config.specs.Places.{is_name, keys_in}
use Rattle.ynl_config.proofs.PlaceViews.{all-pass}
use Rattle.ynl_config.proofs.faulty_keys.are_names.Goals as goal

pub returns-in-Some : goal.returns-in-Some
returns-in-Some c = all-pass is_name (keys_in (table_view c.args.table.now)) (Some c.in-Some.field-0) c.in-Some.ensures

pub returns-in-None : goal.returns-in-None
returns-in-None c = all-pass is_name (keys_in (table_view c.args.table.now)) None c.in-None.ensures
