use Rattle.std.proofs.Common.{◌≡◌, [], true, false, cond, map, sym, ap, ◌∙◌}
use Rattle.ynl_resource.specs.declared.labels.Label.{Label}
use Rattle.ynl_resource.specs.declared.labels.Label.TheVariants.{Unlabelled}
use Rattle.ynl_model.specs.Service.{asks_for, takes_guests}
use Rattle.ynl_laws.proofs.Lists.{map-map}
use Rattle.ynl_cluster.specs.Cluster.{label_of, state_in}
use Rattle.ynl_sights.specs.Rows.{asks_in, bids_of}
use Rattle.ynl_sights.specs.Sights.{Offer, bid_of, offer_of}
use Rattle.ynl_sights.proofs.Leaves.{takes-told}
use Rattle.ynl_sights.proofs.copying.guest_sights.Goals as goal

pub returns-in_ok-leaf_sights-clause-bids : goal.returns-in_ok-leaf_sights-clause-bids
returns-in_ok-leaf_sights-clause-bids c =
    let w = c.args.cluster.now in
    let s = state_in w in
    let is = c.inventory.ensures in
    let own = c.in_ok-leaf_sights.field-0 in
    let takes : takes_guests w.config (label_of w c.args.p) ≡ true =
    sym (takes-told w.config w.rows.partitions is.configured.guests c.args.p c.requires.partition c.takes_guests.result (rw is.value at c.takes_guests.ensures)) ∙ c.if-takes_guests.true in
    ap (λ (l : Label). bids_of (asks_in l own)) (sym is.sound.default)
    ∙ ap bids_of c.in_ok-leaf_sights.ensures.asks
    ∙ map-map (λ (offer : Offer). offer.bid) (offer_of w.config s (label_of w 0)) (asks_for s (label_of w 0))
    ∙ (λ i. cond (sym takes i) (map (bid_of w.config s (is.sound.default i)) (asks_for s (is.sound.default i))) [])

pub returns-else-takes_guests-clause-bids : goal.returns-else-takes_guests-clause-bids
returns-else-takes_guests-clause-bids c =
    let w = c.args.cluster.now in
    let is = c.inventory.ensures in
    let takes : takes_guests w.config (label_of w c.args.p) ≡ false =
    sym (takes-told w.config w.rows.partitions is.configured.guests c.args.p c.requires.partition c.takes_guests.result (rw is.value at c.takes_guests.ensures)) ∙ c.if-takes_guests.false in
    λ i. cond (sym takes i) (map (bid_of w.config (state_in w) Unlabelled) (asks_for (state_in w) Unlabelled)) []
