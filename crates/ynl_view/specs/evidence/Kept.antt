-- What stands in evidence as it stands in the journal.
use Rattle.std.specs.Prelude.{Bool, true, false, ◌&&◌, not, is_some, List}
use Rattle.ynl_resource.specs.declared.names.Name.{Name}
use Rattle.ynl_resource.specs.declared.labels.Label.{Label}
use Rattle.ynl_model.specs.Queues.{Config}
use Rattle.ynl_model.specs.declared.nodes.Tracked.{Tracked}
use Rattle.ynl_model.specs.declared.events.Event.{Event}
use Rattle.ynl_model.specs.declared.events.Event.TheVariants.{Relabel}
use Rattle.ynl_model.specs.View.{seen_of}

-- whether an event is a Relabel, of which a view keeps a Register or a Lost
abbrev pub is_relabel : Event → Bool
is_relabel (Relabel node label) = true
is_relabel _ = false

-- whether the view keeps an event as it is, by the track before it
abbrev pub is_kept : Config → Name → Label → List Tracked → Event → Bool
is_kept c t p nodes event = is_some (seen_of t p c nodes event) && not (is_relabel event)
