-- What holds of every line that is written: its names are names, its labels labels, its paths paths, its sizes sizes, and its priorities priorities.
use Rattle.std.specs.Prelude.{◌≤◌, ◌<◌, ◌^◌}
use Rattle.ynl_resource.specs.Amounts.{IsSize}
use Rattle.ynl_resource.specs.Ranges.{whole, most_priority}
use Rattle.ynl_model.specs.declared.proposals.What.{What}
use Rattle.ynl_model.specs.declared.proposals.What.TheVariants.{Master, Ask as Asked}
use Rattle.ynl_model.specs.declared.containers.Placed.{Placed as Container}
use Rattle.ynl_fields.specs.Sound.{IsName, IsLabel, IsPath}
use Rattle.ynl_saved.specs.declared.lines.StateLine.{StateLine}
use Rattle.ynl_saved.specs.declared.lines.StateLine.TheVariants.{Begin, Partition, Node, Live, Ask, Finished, Container as Holds, Stopped, Maximum, End}

-- what a container is for has a label and a priority, or is a master
abbrev pub IsWanted : What → Type 0
IsWanted Master = Unit {0}
IsWanted (Asked label priority) = IsLabel label × (priority ≤ most_priority)

-- a container but for what it is for
abbrev pub HasParts : Container → Type 0
HasParts p = IsLabel p.id.label × IsName p.node × IsName p.tenant × IsName p.app × IsSize p.size

abbrev pub IsLine : StateLine → Type 0
IsLine Begin = Unit {0}
IsLine (Partition label clock) = IsLabel label
IsLine (Node n) = IsName n.name × IsLabel n.label × IsSize n.size
IsLine (Live queue app user label master) = IsPath queue × IsName app × IsName user × IsLabel label × IsSize master
IsLine (Ask tenant app ask) = IsName tenant × IsName app × IsLabel ask.label × IsSize ask.size × (ask.priority ≤ most_priority)
IsLine (Finished queue app) = IsPath queue × IsName app
IsLine (Holds p) = HasParts p × IsWanted p.what
IsLine (Stopped queue) = IsPath queue
IsLine (Maximum queue label maximum) = IsPath queue × IsLabel label × (maximum ≤ whole)
IsLine (End lines) = lines < 2 ^ 64
