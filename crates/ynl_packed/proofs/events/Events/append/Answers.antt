use Rattle.std.proofs.Common.{◌++◌, ap, ◌∙◌}
use Rattle.std.proofs.lemmas.List.{map-append}
use Rattle.std.proofs.lemmas.Result.{on_ok_weaker}
use Rattle.ynl_packed.specs.Lists.{event_in, events_in, IsEvent}
use Rattle.ynl_packed.proofs.Listed.{pieces_appended}
use Rattle.ynl_packed.proofs.events.Events.append.Goals as goal

pub invariant_of-self : goal.invariant_of-self
invariant_of-self c =
    pieces_appended IsEvent c.append.result c.self.inside.pieces c.others.inside.pieces c.append.new.self c.others.invariant c.append.ensures.ok c.append.ensures.err c.self.invariant

pub returns-clause-ok : goal.returns-clause-ok
returns-clause-ok c =
    on_ok_weaker c.append.result
    (λ e. ap events_in e ∙ map-append event_in c.self.inside.pieces c.others.inside.pieces ∙ (λ i. c.self.view_is i ++ c.others.view_is i))
    c.append.ensures.ok
