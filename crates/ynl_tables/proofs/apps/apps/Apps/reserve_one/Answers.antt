use Rattle.std.proofs.Common.{sym, subst}
use Rattle.ynl_slots.specs.Slots.{HasDistinctNumbers}
use Rattle.ynl_tables.proofs.apps.apps.Apps.reserve_one.Goals as goal

pub invariant_of-self : goal.invariant_of-self
invariant_of-self c = subst HasDistinctNumbers (sym c.reserve_one.ensures.entries) c.self.invariant
