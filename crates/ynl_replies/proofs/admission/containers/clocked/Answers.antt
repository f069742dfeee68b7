use Rattle.std.proofs.Common.{sym, subst}
use Rattle.std.specs.Option.{IsSome}
use Rattle.ynl_inventory.specs.Parts.{Held, held_at}
use Rattle.ynl_replies.proofs.admission.ContainersNamed.{held-there}
use Rattle.ynl_replies.proofs.admission.containers.clocked.Goals as goal

pub container-requires : goal.container-requires
container-requires c =
    subst (λ (h : Held). IsSome (held_at h.rows c.args.p c.in-Some.number)) (sym c.inventory-inventory.ensures.value)
    (held-there c.args.cluster.now c.inventory-inventory.ensures.sound c.args.p c.requires c.args.clock c.find_container.result
    (rw c.inventory-inventory.ensures.value at c.find_container.ensures) c.in-Some.number c.in-Some.is)
