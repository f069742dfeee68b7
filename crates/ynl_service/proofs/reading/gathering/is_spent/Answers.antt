use Rattle.std.proofs.Common.{◌≡◌, nat_le, slice_get, subst, sym}
use Rattle.std.specs.Prelude.{IfSome}
use Rattle.ynl_inventory.specs.Parts.{Held}
use Rattle.ynl_service.proofs.reading.Nodes.{spent-told}
use Rattle.ynl_service.proofs.reading.Unknown.{unknown-spent}
use Rattle.ynl_service.proofs.reading.gathering.is_spent.Goals as goal

pub returns-in-Some : goal.returns-in-Some
returns-in-Some c =
    spent-told c.args.cluster.now c.inventory-inventory.ensures.sound c.inventory-inventory.ensures.configured c.args.label.now c.in-Some.p c.in-Some.ensures.some c.is_spent.result
    (subst (λ (h : Held). IfSome (slice_get h.rows.partitions c.in-Some.p) (λ part. c.is_spent.result ≡ nat_le part.limit part.clock)) c.inventory-inventory.ensures.value c.is_spent.ensures)

pub returns-in-None : goal.returns-in-None
returns-in-None c = unknown-spent c.args.cluster.now c.inventory-inventory.ensures.sound c.inventory-inventory.ensures.configured c.args.label.now (sym c.in-None.ensures.known)
