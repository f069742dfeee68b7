use Rattle.std.proofs.Common.{sym, ◌∙◌}
use Rattle.ynl_inventory.specs.Parts.{node_row}
use Rattle.ynl_inventory.proofs.Lookups.{live-found}
use Rattle.ynl_search.proofs.Chosen.{guest-choice, guest-may, no-choice, own-choice, own-may}
use Rattle.ynl_search.proofs.NodeIs.{read-there}
use Rattle.ynl_search.proofs.choosing.choose.Goals as goal

pub returns-then-is_some-clause-choice : goal.returns-then-is_some-clause-choice
returns-then-is_some-clause-choice c = λ row at.
    let own = c.first_own_on-own in
    own-choice c.args.cluster.now own.ensures.sound c.args.node row at own.result (sym c.is_some.ensures ∙ c.if-is_some.true) (own.ensures.first row at)

pub returns-then-is_some-clause-placed : goal.returns-then-is_some-clause-placed
returns-then-is_some-clause-placed c =
    let w = c.args.cluster.now in
    let own = c.first_own_on-own in
    let live = live-found c.args.node w.rows.nodes c.requires.node in
    own-may w own.ensures.sound c.args.node live.0 live.1 own.result (own.ensures.first live.0 live.1)

pub returns-then-not-takes_guests-clause-choice : goal.returns-then-not-takes_guests-clause-choice
returns-then-not-takes_guests-clause-choice c = λ row at.
    let w = c.args.cluster.now in
    let own = c.first_own_on-own in
    let h = c.inventory-inventory.ensures in
    no-choice w own.ensures.sound c.args.node row at h.configured c.takes_guests.result
    (read-there w c.args.node c.inventory-inventory.result.now h.value (node_row c.node.result.now) c.node.ensures c.takes_guests.result c.takes_guests.ensures row at)
    own.result (sym c.is_some.ensures ∙ c.if-is_some.false) (own.ensures.first row at) c.if-not-takes_guests.true

pub returns-clause-choice : goal.returns-clause-choice
returns-clause-choice c = λ row at.
    let w = c.args.cluster.now in
    let own = c.first_own_on-own in
    let h = c.inventory-inventory.ensures in
    guest-choice w own.ensures.sound c.args.node row at h.configured c.takes_guests.result
    (read-there w c.args.node c.inventory-inventory.result.now h.value (node_row c.node.result.now) c.node.ensures c.takes_guests.result c.takes_guests.ensures row at)
    own.result (sym c.is_some.ensures ∙ c.if-is_some.false) (own.ensures.first row at) c.if-not-takes_guests.false c.first_guest_on.result (c.first_guest_on.ensures.first row at)

pub returns-clause-placed : goal.returns-clause-placed
returns-clause-placed c =
    let w = c.args.cluster.now in
    let own = c.first_own_on-own in
    let h = c.inventory-inventory.ensures in
    let live = live-found c.args.node w.rows.nodes c.requires.node in
    guest-may w own.ensures.sound c.args.node live.0 live.1 h.configured c.takes_guests.result
    (read-there w c.args.node c.inventory-inventory.result.now h.value (node_row c.node.result.now) c.node.ensures c.takes_guests.result c.takes_guests.ensures live.0 live.1)
    own.result (sym c.is_some.ensures ∙ c.if-is_some.false) (own.ensures.first live.0 live.1) c.if-not-takes_guests.false c.first_guest_on.result (c.first_guest_on.ensures.first live.0 live.1)
