-- As what a line's container is placed.
use Rattle.std.proofs.Common.{◌∙◌, true, false, refl, sym, ap, subst}
use Rattle.std.specs.Option.{option_map_or}
use Rattle.std.proofs.lemmas.Option.{same_Some}
use Rattle.ynl_model.specs.Applications.{find_app}
use Rattle.ynl_inventory.specs.Parts.{node_row}
use Rattle.ynl_inventory.specs.Rows.{NodeRow}
use Rattle.ynl_cluster.specs.Cluster.{state_in}
use Rattle.ynl_saved.specs.Restoring.{may_have}
use Rattle.ynl_snapshots.specs.restoring.Placing.{IsRoleOf}
use Rattle.ynl_snapshots.proofs.restoring.Placed.{container-sound, placed-as}
use Rattle.ynl_snapshots.proofs.restoring.placements.placement_of.Goals as goal

pub returns-in_default-clause-sound : goal.returns-in_default-clause-sound
returns-in_default-clause-sound c r is =
    container-sound c.args.cluster.now.config r (state_in c.args.cluster.now) is c.args.placed.now false (option_map_or (may_have c.args.cluster.now.config (state_in c.args.cluster.now) c.args.placed.now c.args.placed.now.what) (find_app (state_in c.args.cluster.now).leaves c.args.placed.now.tenant c.args.placed.now.app) false)
    c.in_default.ensures.sound refl

pub returns-in_default-app_named-clause-sound : goal.returns-in_default-app_named-clause-sound
returns-in_default-app_named-clause-sound c r is =
    container-sound c.args.cluster.now.config r (state_in c.args.cluster.now) is c.args.placed.now true false c.in-Some.ensures.sound
    (ap (λ o. option_map_or (may_have c.args.cluster.now.config (state_in c.args.cluster.now) c.args.placed.now c.args.placed.now.what) o false) c.in_default-app_named.ensures.none)

pub returns-in_default-role_on-clause-sound : goal.returns-in_default-role_on-clause-sound
returns-in_default-role_on-clause-sound c r is =
    let its = c.in-Some-app_named.ensures.some in
    container-sound c.args.cluster.now.config r (state_in c.args.cluster.now) is c.args.placed.now true false c.in-Some.ensures.sound
    (ap (λ o. option_map_or (may_have c.args.cluster.now.config (state_in c.args.cluster.now) c.args.placed.now c.args.placed.now.what) o false) its.named ∙ c.in_default-role_on.ensures.may its.row its.found)

pub returns-clause-sound : goal.returns-clause-sound
returns-clause-sound c r is =
    let its = c.in-Some-app_named.ensures.some in
    container-sound c.args.cluster.now.config r (state_in c.args.cluster.now) is c.args.placed.now true true c.in-Some.ensures.sound
    (ap (λ o. option_map_or (may_have c.args.cluster.now.config (state_in c.args.cluster.now) c.args.placed.now c.args.placed.now.what) o false) its.named ∙ c.in-Some-role_on.ensures.may its.row its.found)

pub returns-clause-placed : goal.returns-clause-placed
returns-clause-placed c =
    let stands = c.in-Some.ensures.stands in
    let is = same_Some (node_row c.node.result.now) stands.named.row (sym (rw c.inventory.ensures.value at c.node.ensures) ∙ stands.named.found) in
    placed-as c.args.cluster.now c.inventory.ensures.sound c.inventory.ensures.configured c.requires.steady c.args.placed.now c.in-Some.node stands c.in-Some-app_named.app c.in-Some-app_named.ensures.some c.in-Some-role_on.role
    (subst (λ (r : NodeRow). IsRoleOf c.args.cluster.now c.in-Some-app_named.app r.partition c.args.placed.now.what c.in-Some-role_on.role) is c.in-Some-role_on.ensures.role)
