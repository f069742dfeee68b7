use Rattle.std.proofs.Common.{◌≡◌, List, ◌++◌, nat_eq, map, Some, sym, ap, ◌∙◌}
use Rattle.std.proofs.lemmas.List.{map-append}
use Rattle.std.specs.Map.{lookup}
use Rattle.std.proofs.lemmas.Option.{same_Some}
use Rattle.ynl_resource.specs.declared.labels.Label.{Label}
use Rattle.ynl_model.specs.declared.nodes.Node.{Node}
use Rattle.ynl_model.specs.Cluster.{State}
use Rattle.ynl_model.specs.Service.{Item, asks_for, items_for, masters_for}
use Rattle.ynl_inventory.specs.Rows.{NodeRow}
use Rattle.ynl_inventory.specs.Meaning.{node_of}
use Rattle.ynl_inventory.specs.Parts.{Held, free_of, node_row}
use Rattle.ynl_cluster.specs.Cluster.{label_of, maxima_in, state_in, stops_in}
use Rattle.ynl_search.proofs.FreeMeans.{free-means}
use Rattle.ynl_sights.specs.Rows.{asks_in, masters_in, offers_in}
use Rattle.ynl_sights.specs.Sights.{Offer, guests_in, offer_of}
use Rattle.ynl_sights.proofs.sights.Sight.copy.Goals as goal

-- masters and asks are all requests
all-offers : (see : Item → Offer) (s : State) (label : Label) (masters asks : List Offer) → masters ≡ map see (masters_for s label) → asks ≡ map see (asks_for s label) → masters ++ asks ≡ map see (items_for s label)
unfolding items_for
all-offers see s label masters asks own more = (λ i. own i ++ more i) ∙ sym (map-append see (masters_for s label) (asks_for s label))

pub returns-clause-sight : goal.returns-clause-sight
returns-clause-sight c = λ row at.
    let w = c.args.cluster.now in
    let s = state_in w in
    let is = c.inventory-inventory.ensures in
    let mine = node_row c.node.result.now in
    let found : lookup (nat_eq c.args.node) w.rows.nodes ≡ Some mine = rw is.value at c.node.ensures in
    let same : mine ≡ row = same_Some mine row (sym found ∙ at) in
    let label : label_of w c.node.result.now.partition ≡ label_of w row.partition = ap (λ (r : NodeRow). label_of w r.partition) same in
    let node : c.node_at.result ≡ node_of w.rows.partitions row = c.node_at.ensures row at in
    let room = c.free.ensures ∙ ap (λ (h : Held). free_of h.rows c.args.node) is.value ∙ sym (free-means w.rows is.sound c.args.node row at (stops_in w) (maxima_in w)) in
    let own = c.in_ok-leaves.leaves in
    let offers =
    ap (λ (l : Label). offers_in l own) (ap (λ (n : Node). n.label) node ∙ sym label)
    ∙ all-offers (offer_of w.config s (label_of w c.node.result.now.partition)) s (label_of w c.node.result.now.partition) (masters_in own) (asks_in (label_of w c.node.result.now.partition) own) c.in_ok-leaves.ensures.masters c.in_ok-leaves.ensures.asks
    ∙ ap (λ (l : Label). map (offer_of w.config s l) (items_for s l)) label in
    let guests = c.in_ok-guests.ensures.bids ∙ ap (guests_in w.config s) label in
    λ i. record { node = node i; free = room i; offers = offers i; guests = guests i }
