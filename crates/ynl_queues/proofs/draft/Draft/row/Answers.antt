use Rattle.std.proofs.Common.{Some, sym, ap, ◌∙◌}
use Rattle.ynl_model.specs.Queues.{QueueRow}
use Rattle.ynl_queues.proofs.Places.{place_found, place_row, no_row}
use Rattle.ynl_queues.proofs.draft.Draft.row.Goals as goal

pub row_at-requires : goal.row_at-requires
row_at-requires c =
    let config = c.args.self.now in
    (place_found config.queues c.args.queue.now c.in-Some.place (sym (c.place.ensures config.queues c.index.ensures.places) ∙ c.in-Some.is)).inside

pub returns-in-Some : goal.returns-in-Some
returns-in-Some c =
    let config = c.args.self.now in
    let place = c.in-Some.place in
    let row : QueueRow = c.row_at.result.now in
    let stands = place_found config.queues c.args.queue.now place (sym (c.place.ensures config.queues c.index.ensures.places) ∙ c.in-Some.is) in
    ap (λ (r : QueueRow). Some r) (c.row_at.ensures row) ∙ sym (place_row config c.args.queue.now place stands row)

pub returns-in-None : goal.returns-in-None
returns-in-None c =
    let config = c.args.self.now in
    sym (no_row config c.args.queue.now (sym (c.place.ensures config.queues c.index.ensures.places) ∙ c.in-None.is))
