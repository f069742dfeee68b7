use Rattle.std.proofs.Common.{cond, Some, None, ap, ◌∙◌}
use Rattle.std.specs.Option.{option_or}
use Rattle.ynl_resource.specs.Names.{same_path}
use Rattle.ynl_model.specs.Queues.{QueueRow}
use Rattle.ynl_queues.specs.Index.{place_in}
use Rattle.ynl_queues.proofs.PlaceMaps.{places_more}
use Rattle.ynl_queues.proofs.index.all_places.Goals as goal

pub loop-i-preserved : goal.loop-i-preserved
loop-i-preserved c =
    let old = c.loop-i.places in
    let i = c.loop-i.i in
    let row = c.index-rows-i.result in
    places_more c.args.rows.now i row old c.add_place.new.places c.loop-i-test.true c.index-rows-i.is c.loop-i.invariant
    (λ other. c.in_ok-add_place.ensures other ∙ ap (λ (r : QueueRow). option_or (place_in old other) (cond (same_path r.path other) (Some i) None)) c.row.view_is)
