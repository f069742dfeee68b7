use Rattle.std.proofs.Common.{get_or, ◌∙◌}
use Rattle.ynl_model.specs.declared.events.Event.{Event}
use Rattle.ynl_packed.proofs.Listed.{event_not_none, read_is}
use Rattle.ynl_packed.proofs.events.Events.read.Goals as goal

pub unreachable-requires : goal.unreachable-requires
unreachable-requires c =
    let e : Event = get_or c.args.self.now c.args.i c.args.into.now in
    event_not_none c.new-c.result.rest.now e (c.new-c.ensures ∙ c.bytes.ensures.bytes c.args.into.now) (c.bytes.ensures.fits c.args.into.now) c.in-None.ensures

pub returns : goal.returns
returns c d =
    read_is c.new-c.result.rest.now (get_or c.args.self.now c.args.i d) _ _ (c.new-c.ensures ∙ c.bytes.ensures.bytes d) (c.bytes.ensures.fits d) c.in-Some.ensures
