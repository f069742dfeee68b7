use Rattle.std.proofs.Common.{refl}
use Rattle.std.specs.Str.{chars, is_utf8}
use Rattle.toml.proofs.OnLiterals.{toml_on_literals}
use Rattle.ynl_resource.specs.Texts.{read_name, read_label, read_path}
use Rattle.ynl_model.specs.Queues.{is_leaf, accessible, may_use, capacity_on, configured_maximum}
use Rattle.ynl_model.specs.Accepted.{label_faults, tree_faults}
use Rattle.ynl_queues.specs.labels.Built.{labels_of}
use Rattle.ynl_queues.specs.Written.{row_of, written_faults, built_of}
use Rattle.ynl_config.specs.Access.{access_of}
use Rattle.ynl_config.specs.Known.{is_known, known_keys}
use Rattle.ynl_config.specs.Readings.{text_of, flag_of, number_of, percent_of, name_of, label_of, stopped_of, text_at, flag_at, number_at, percent_at, name_at, label_at, stopped_at, version_at, size_at}
use Rattle.ynl_config.specs.Tables.{label_in, labels_at, share_in, share_of, shares_at, bounds_in, leaf_in, access_at, queue_in, queues_at, numbers_in, written_in}
use Rattle.ynl_config.specs.Meaning.{built, config_of}
use Rattle.ynl_config.proofs.built_in_text.built_in_text_is_read.Goals as goal

pub returns : goal.returns
unfolding chars is_utf8 toml_on_literals read_name read_label read_path is_leaf accessible may_use capacity_on configured_maximum label_faults tree_faults labels_of row_of written_faults built_of access_of is_known known_keys text_of flag_of number_of percent_of name_of label_of stopped_of text_at flag_at number_at percent_at name_at label_at stopped_at version_at size_at label_in labels_at share_in share_of shares_at bounds_in leaf_in access_at queue_in queues_at numbers_in written_in built config_of
returns c = refl
