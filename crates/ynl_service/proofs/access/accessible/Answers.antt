-- Nobody may place what was asked for on a label of no partition.
use Rattle.std.proofs.Common.{sym, ap, is_some, ◌∙◌}
use Rattle.ynl_service.proofs.Accessing.{unknown-closed}
use Rattle.ynl_service.proofs.access.accessible.Goals as goal

pub returns-in_default-clause-access : goal.returns-in_default-clause-access
returns-in_default-clause-access c =
    sym (unknown-closed c.args.cluster.now c.inventory.ensures.sound c.inventory.ensures.configured c.args.p c.requires c.args.tenant.now c.args.what.now (sym c.role_of.ensures.known ∙ ap is_some c.in_default.is))
