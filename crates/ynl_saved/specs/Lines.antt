-- Which numbers a line of a saved state may tell.
use Rattle.std.specs.Prelude.{⊤}
use Rattle.ynl_resource.specs.Amounts.{IsSize}
use Rattle.ynl_saved.specs.declared.lines.StateLine.{StateLine}
use Rattle.ynl_saved.specs.declared.lines.StateLine.TheVariants.{Node, Ask}
use Rattle.ynl_saved.specs.Asks.{IsWithin}

-- the size of a node that a line tells is that of a node or a request
abbrev pub IsSizedLine : StateLine → Type 0
IsSizedLine (Node node) = IsSize node.size
IsSizedLine _ = ⊤

-- an ask that it tells counts no more than an ask may
abbrev pub IsCountedLine : StateLine → Type 0
IsCountedLine (Ask tenant app ask) = IsWithin ask
IsCountedLine _ = ⊤
