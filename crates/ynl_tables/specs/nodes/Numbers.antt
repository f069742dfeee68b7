-- Numbers under names, of which the short ones are looked up as one number each.
use Rattle.std.specs.Prelude.{ℕ, nat_eq, Option, Some, None}
use Rattle.std.specs.BTreeMap.{get}
use Rattle.std.specs.HashMap.{get as hashed}
use Rattle.ynl_resource.specs.declared.names.Name.{Name}
use Rattle.ynl_resource.specs.Heads.{code_of}
use Rattle.ynl_resource.specs.Names.{name_order}
use Rattle.ynl_tables.specs.declared.nodes.numbers.Numbers.{Numbers}

-- the number under a name that has this code, or none
abbrev pub number_by : Option ℕ → Numbers → Name → Option ℕ
number_by (Some code) numbers name = hashed nat_eq numbers.short code
number_by None numbers name = get name_order numbers.long name

-- the number under a name, which is short or long
abbrev pub number_in : Numbers → Name → Option ℕ
number_in numbers name = number_by (code_of name) numbers name
