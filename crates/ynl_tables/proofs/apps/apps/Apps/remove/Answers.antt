use Rattle.std.proofs.Common.{sym, subst}
use Rattle.ynl_slots.specs.Slots.{HasDistinctNumbers}
use Rattle.ynl_slots.proofs.Entries.{distinct_without}
use Rattle.ynl_tables.proofs.apps.apps.Apps.remove.Goals as goal

pub invariant_of-self : goal.invariant_of-self
invariant_of-self c = subst HasDistinctNumbers (sym c.remove.ensures.entries) (distinct_without c.args.number c.self.inside.rows.entries c.self.invariant)
