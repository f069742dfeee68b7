-- A container's links lead to the next one of its node.
use Rattle.std.proofs.Common.{◌<◌, length, refl, sym, subst}
use Rattle.std.proofs.lemmas.Option.{slice_get_read}
use Rattle.ynl_inventory.proofs.ChainsFollowed.{partition-inside, number-live, node-next}
use Rattle.ynl_inventory.proofs.inventory.Inventory.next_of_node.Goals as goal

pub index-part-requires : goal.index-part-requires
index-part-requires c =
    subst (λ n. c.args.p < n) (sym c.self.inside.partitions.ok.0) (partition-inside c.self.inside c.args.self.now c.args.p c.args.number c.self.view_is c.requires)

pub next_of_node-requires : goal.next_of_node-requires
next_of_node-requires c =
    number-live c.self.inside c.args.self.now c.args.p c.args.number c.self.view_is c.requires c.index-part.result.now
    (slice_get_read c.self.inside.partitions.items (length c.self.inside.partitions.items) c.args.p c.index-part.result.now refl
    (partition-inside c.self.inside c.args.self.now c.args.p c.args.number c.self.view_is c.requires) c.index-part.ensures)

pub returns : goal.returns
returns c =
    node-next c.self.inside c.args.self.now c.args.p c.args.number c.self.view_is c.requires c.index-part.result.now
    (slice_get_read c.self.inside.partitions.items (length c.self.inside.partitions.items) c.args.p c.index-part.result.now refl
    (partition-inside c.self.inside c.args.self.now c.args.p c.args.number c.self.view_is c.requires) c.index-part.ensures)
    c.self.invariant c.next_of_node.result c.next_of_node.ensures
