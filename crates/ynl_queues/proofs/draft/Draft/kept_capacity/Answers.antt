use Rattle.std.proofs.Common.{List, ℕ, get_or, sym, ap, ◌∙◌}
use Rattle.ynl_queues.proofs.Places.{place_found, place_share}
use Rattle.ynl_queues.proofs.draft.Draft.kept_capacity.Goals as goal

pub returns : goal.returns
returns c =
    let config = c.args.self.now in
    let queue = c.args.queue.now in
    let place = c.in_ok-place.place in
    let stands = place_found config.queues queue place (sym (c.in_ok-place.ensures config.queues c.index.ensures.places)) in
    c.in_ok-share.ensures.lookup.3.1 0
    ∙ ap (λ (shares : List ℕ). get_or shares place 0) c.in_ok-capacities.ensures
    ∙ place_share config queue c.args.label.now place stands 0
