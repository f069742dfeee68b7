-- What is wrong with a key of a table, and with the value there.
use Rattle.std.specs.Prelude.{ℕ, List, Bool, true, not, is_none}
use Rattle.toml.specs.Data.{Members}
use Rattle.ynl_config.specs.declared.faulty_keys.Reading.{Reading}
use Rattle.ynl_config.specs.declared.faulty_keys.Reading.TheVariants as read
use Rattle.ynl_config.specs.declared.keys.KeyFault.{KeyFault}
use Rattle.ynl_config.specs.declared.keys.KeyFault.TheVariants.{Unknown, NoName, NoTable}
use Rattle.ynl_config.specs.declared.values.Version.{Version}
use Rattle.ynl_config.specs.Earliest.{ConfigFault}
use Rattle.ynl_config.specs.Known.{is_known}
use Rattle.ynl_config.specs.Readings.{text_at, flag_at, number_at, percent_at, name_at, label_at, stopped_at, version_at}
use Rattle.ynl_config.specs.Places.{has, rows_at, names_at, is_name, share_table}

-- whether the value at a key has the fault; what is taken where nothing stands there has none
abbrev pub has_at : ConfigFault → Version → Members → List ℕ → Reading → Bool
has_at fault version ms key read.Version = has fault (version_at ms)
has_at fault version ms key read.Rows = has fault (rows_at key ms)
has_at fault version ms key read.Shares = has fault (names_at ms)
has_at fault version ms key read.Text = has fault (text_at key ms)
has_at fault version ms key read.Name = has fault (name_at key ms)
has_at fault version ms key read.Flag = has fault (flag_at key true ms)
has_at fault version ms key read.State = has fault (stopped_at key ms)
has_at fault version ms key read.Label = has fault (label_at key ms)
has_at fault version ms key (read.Number high) = has fault (number_at key 1 high high ms)
has_at fault version ms key (read.Percent low) = has fault (percent_at key version low 0 ms)

-- whether a key of a table has the fault
abbrev pub is_faulty : KeyFault → Members → List ℕ → Bool
is_faulty (Unknown kind) ms key = not (is_known kind key)
is_faulty NoName ms key = not (is_name key)
is_faulty NoTable ms key = is_none (share_table ms key)
