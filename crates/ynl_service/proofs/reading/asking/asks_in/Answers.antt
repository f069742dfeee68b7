-- Nothing is asked for under an unknown label.
use Rattle.std.proofs.Common.{ap, sym, ◌∙◌}
use Rattle.std.proofs.lemmas.Option.{same_Some}
use Rattle.ynl_inventory.specs.Meaning.{app_of}
use Rattle.ynl_model.specs.Events.{pending_on}
use Rattle.ynl_service.proofs.reading.Unknown.{no-asks}
use Rattle.ynl_service.proofs.reading.asking.asks_in.Goals as goal

pub returns-in_default-partition_of : goal.returns-in_default-partition_of
returns-in_default-partition_of c app found =
    let its = c.in-Some.ensures.some in
    c.new-in_default-partition_of.ensures.items
    ∙ sym (no-asks c.args.cluster.now c.inventory.ensures.sound c.inventory.ensures.configured c.args.label.now (sym c.in_default-partition_of.ensures.known) c.in-Some.app its.row its.found)
    ∙ ap (pending_on c.args.label.now) (same_Some (app_of c.args.cluster.now.rows (c.in-Some.app, its.row)) app (sym its.named ∙ found))
