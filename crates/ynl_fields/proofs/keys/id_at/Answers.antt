use Rattle.std.proofs.Common.{sym, ◌∙◌}
use Rattle.ynl_fields.proofs.Ids.{id_ranged}
use Rattle.ynl_fields.proofs.keys.id_at.Goals as goal

pub returns-in-Ok-clause-ranged : goal.returns-in-Ok-clause-ranged
returns-in-Ok-clause-ranged g c = id_ranged c.args.text.now c.in-Ok.id (sym c.in-Ok.is ∙ c.parse.ensures)
