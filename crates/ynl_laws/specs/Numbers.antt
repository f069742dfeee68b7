-- The order of submission by numbers: how many applications were submitted to the leaf before. No event changes such a number.
use Rattle.std.specs.Prelude.{IsFalse, List}
use Rattle.ynl_resource.specs.Names.{same_name}
use Rattle.ynl_resource.specs.declared.names.Name.{Name}
use Rattle.ynl_laws.specs.Working.{Pairs}

-- no two of some names are the same
abbrev pub Differ : List Name → Type 0
Differ names = Pairs (λ a b. IsFalse (same_name a b)) names
