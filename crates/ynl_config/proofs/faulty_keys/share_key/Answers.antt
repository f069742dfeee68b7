use Rattle.std.proofs.Common.{◌∙◌, codes, refl}
use Rattle.toml.specs.View.{table_view}
use Rattle.ynl_resource.specs.Ranges.{whole}
use Rattle.ynl_config.specs.Places.{share_keys}
use Rattle.ynl_config.proofs.KeyTables.{any_percent}
use Rattle.ynl_config.proofs.faulty_keys.share_key.Goals as goal

pub returns : goal.returns
unfolding share_keys
returns c = c.key_with.ensures ∙ rw (any_percent c.args.fault (codes "maximum-capacity") c.args.version 0 0 whole (table_view c.args.table.now)) refl
