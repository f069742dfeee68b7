use Rattle.std.proofs.Common.{◌∙◌, codes, refl}
use Rattle.toml.specs.View.{table_view}
use Rattle.ynl_config.specs.Places.{top_keys}
use Rattle.ynl_config.proofs.KeyTables.{any_number}
use Rattle.ynl_config.proofs.faulty_keys.top_key.Goals as goal

pub returns : goal.returns
unfolding top_keys
returns c = c.key_with.ensures ∙ rw (any_number c.args.fault (codes "containers-per-heartbeat") 1 1000 1000 1 (table_view c.args.table.now)) refl
