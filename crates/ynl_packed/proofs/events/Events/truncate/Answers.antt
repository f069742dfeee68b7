use Rattle.std.proofs.Common.{◌≡◌, take, map, sym, ap, ◌∙◌}
use Rattle.std.proofs.lemmas.List.{take-map}
use Rattle.ynl_packed.specs.Lists.{event_in, events_in}
use Rattle.ynl_packed.proofs.events.Events.truncate.Goals as goal

pub returns : goal.returns
returns c = rw (c.truncate.ensures, ← c.self.view_is) (sym (take-map event_in c.args.len c.self.inside.pieces))
