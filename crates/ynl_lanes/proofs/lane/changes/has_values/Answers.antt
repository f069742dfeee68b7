use Rattle.std.proofs.Common.{sym, ◌∙◌}
use Rattle.ynl_lanes.proofs.lane.Changing.{same_values_at}
use Rattle.ynl_lanes.proofs.lane.changes.has_values.Goals as goal

pub returns-then-eq : goal.returns-then-eq
returns-then-eq c = λ is. same_values_at c.args.user c.args.slot c.index.result.now c.args.users.now.entries c.at-before.result c.args.waits.now c.index.ensures c.at-before.ensures.master c.at-before.ensures.ask (sym c.eq.ensures ∙ c.if-eq.true) (sym c.eq-then-eq.ensures ∙ is)
