use Rattle.ynl_laws.proofs.Lives.Entitled.{are_apps_in_their_leaves}
use Rattle.ynl_laws.proofs.entitlement.applications_stand_in_their_leaves.Goals as goal

pub returns : goal.returns
returns c = are_apps_in_their_leaves
