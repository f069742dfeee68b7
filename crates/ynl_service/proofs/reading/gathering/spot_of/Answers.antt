use Rattle.std.proofs.Common.{◌≡◌, nat_eq, Some, ap, sym, ◌∙◌}
use Rattle.std.specs.Map.{lookup}
use Rattle.std.proofs.lemmas.Option.{same_Some}
use Rattle.ynl_inventory.specs.Rows.{NodeRow}
use Rattle.ynl_inventory.specs.Meaning.{label_at, node_of}
use Rattle.ynl_inventory.specs.Parts.{Held, free_of, node_row}
use Rattle.ynl_cluster.specs.Cluster.{state_in}
use Rattle.ynl_waits.specs.Grounds.{spot}
use Rattle.ynl_service.proofs.reading.Nodes.{spot-told}
use Rattle.ynl_service.proofs.reading.gathering.spot_of.Goals as goal

pub returns : goal.returns
returns c row found =
    let w = c.args.cluster.now in
    let own = node_row c.node-row.result.now in
    let own-found : lookup (nat_eq c.args.node) w.rows.nodes ≡ Some own = ap (λ (h : Held). lookup (nat_eq c.args.node) h.rows.nodes) (sym c.inventory-inventory.ensures.value) ∙ c.node-row.ensures in
    spot-told w c.inventory-inventory.ensures.sound c.args.node own own-found c.label.result.now c.free.result
    (c.label.ensures ∙ ap (λ (h : Held). label_at h.rows.partitions own.partition) c.inventory-inventory.ensures.value)
    (c.free.ensures ∙ ap (λ (h : Held). free_of h.rows c.args.node) c.inventory-inventory.ensures.value)
    ∙ ap (λ (row : NodeRow). spot (state_in w) (node_of w.rows.partitions row)) (same_Some own row (sym own-found ∙ found))
