-- What the fields of a list of events mean.
use Rattle.std.specs.Prelude.{List}
use Rattle.ynl_model.specs.declared.events.Event.{Event}
use Rattle.ynl_packed.specs.declared.events.Events.TheInside.{Inside}
use Rattle.ynl_packed.specs.Lists.{events_in, AreEvents}

abbrev pub events_of : Inside → List Event
events_of e = events_in e.pieces

abbrev pub HasEvents : Inside → Type 0
HasEvents e = AreEvents e.pieces
