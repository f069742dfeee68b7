-- Of which node something was seen.
use Rattle.std.specs.Prelude.{◌≡◌}
use Rattle.ynl_resource.specs.declared.names.Name.{Name}
use Rattle.ynl_core.specs.declared.sightings.Sighted.{Sighted}
use Rattle.ynl_core.specs.declared.sightings.Sighted.TheVariants.{Refused, Seen}

-- what was seen, if anything was, is of the node of this name
abbrev pub IsOfNode : Name → Sighted → Type 0
IsOfNode name (Refused refusal) = Unit {0}
IsOfNode name (Seen seen) = seen.node.name ≡ name
