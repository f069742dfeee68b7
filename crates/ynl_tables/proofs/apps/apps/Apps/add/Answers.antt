use Rattle.std.proofs.Common.{sym, subst}
use Rattle.ynl_slots.specs.Slots.{HasDistinctNumbers}
use Rattle.ynl_slots.proofs.Entries.{distinct_push}
use Rattle.ynl_tables.proofs.apps.apps.Apps.add.Goals as goal

pub invariant_of-self : goal.invariant_of-self
invariant_of-self c = subst HasDistinctNumbers (sym c.push.ensures.entries) (distinct_push c.push.result c.args.app c.self.inside.rows.entries c.push.ensures.unused c.self.invariant)
