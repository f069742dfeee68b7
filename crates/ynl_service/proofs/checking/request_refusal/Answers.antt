-- What is told of a request by numbers is what the model tests.
use Rattle.std.proofs.Common.{◌≡◌, true, false, sym, ap, ◌∙◌}
use Rattle.ynl_resource.specs.Amounts.{fits_in}
use Rattle.ynl_inventory.specs.Parts.{Held, free_of, node_row}
use Rattle.ynl_service.proofs.Requested.{as-guest, as-own, shares-read, without-room}
use Rattle.ynl_service.proofs.checking.request_refusal.Goals as goal

pub returns-then-not-fits_in-clause-reasons : goal.returns-then-not-fits_in-clause-reasons
returns-then-not-fits_in-clause-reasons c =
    let w = c.args.cluster.now in
    let placed = c.args.placed.now in
    let is : c.free-room.result ≡ free_of w.rows placed.node = c.free-room.ensures ∙ ap (λ (h : Held). free_of h.rows placed.node) c.inventory-inventory.ensures.value in
    without-room w c.inventory-inventory.ensures.sound placed.node placed.app placed.role placed.size c.requires.placeable.node_row c.requires.placeable.node_found
    (sym (λ i. fits_in (c.amount.ensures.value i) (is i)) ∙ sym c.fits_in.ensures ∙ c.if-not-fits_in.true)

pub limit_refusal-requires-clause-shares : goal.limit_refusal-requires-clause-shares
limit_refusal-requires-clause-shares c =
    let w = c.args.cluster.now in
    let placed = c.args.placed.now in
    shares-read w c.inventory-inventory.ensures.sound placed.node placed.app placed.role placed.size (node_row c.node.result.now) (rw c.inventory-inventory.ensures.value at c.node.ensures) c.requires.placeable
    c.inventory-inventory.ensures.configured c.comes_as_guest.result c.comes_as_guest.ensures c.if-not-comes_as_guest.true

pub returns-then-not-comes_as_guest-clause-reasons : goal.returns-then-not-comes_as_guest-clause-reasons
returns-then-not-comes_as_guest-clause-reasons c =
    let w = c.args.cluster.now in
    let placed = c.args.placed.now in
    let is : c.free-room.result ≡ free_of w.rows placed.node = c.free-room.ensures ∙ ap (λ (h : Held). free_of h.rows placed.node) c.inventory-inventory.ensures.value in
    as-own w c.inventory-inventory.ensures.sound placed.node placed.app placed.role placed.size (node_row c.node.result.now) (rw c.inventory-inventory.ensures.value at c.node.ensures)
    (sym (λ i. fits_in (c.amount.ensures.value i) (is i)) ∙ sym c.fits_in.ensures ∙ c.if-not-fits_in.false) c.comes_as_guest.result c.comes_as_guest.ensures c.if-not-comes_as_guest.true
    c.limit_refusal.result (λ node row on there at. c.limit_refusal.ensures node row on (is ∙ there) at)

pub returns-then-some_own-clause-reasons : goal.returns-then-some_own-clause-reasons
returns-then-some_own-clause-reasons c =
    let w = c.args.cluster.now in
    let placed = c.args.placed.now in
    let is : c.free-room.result ≡ free_of w.rows placed.node = c.free-room.ensures ∙ ap (λ (h : Held). free_of h.rows placed.node) c.inventory-inventory.ensures.value in
    as-guest w c.inventory-inventory.ensures.sound placed.node placed.app placed.role placed.size (node_row c.node.result.now) (rw c.inventory-inventory.ensures.value at c.node.ensures)
    (sym (λ i. fits_in (c.amount.ensures.value i) (is i)) ∙ sym c.fits_in.ensures ∙ c.if-not-fits_in.false) c.comes_as_guest.result c.comes_as_guest.ensures c.if-not-comes_as_guest.false
    c.some_own.result c.some_own.ensures.some true c.if-some_own.true

pub returns-clause-reasons : goal.returns-clause-reasons
returns-clause-reasons c =
    let w = c.args.cluster.now in
    let placed = c.args.placed.now in
    let is : c.free-room.result ≡ free_of w.rows placed.node = c.free-room.ensures ∙ ap (λ (h : Held). free_of h.rows placed.node) c.inventory-inventory.ensures.value in
    as-guest w c.inventory-inventory.ensures.sound placed.node placed.app placed.role placed.size (node_row c.node.result.now) (rw c.inventory-inventory.ensures.value at c.node.ensures)
    (sym (λ i. fits_in (c.amount.ensures.value i) (is i)) ∙ sym c.fits_in.ensures ∙ c.if-not-fits_in.false) c.comes_as_guest.result c.comes_as_guest.ensures c.if-not-comes_as_guest.false
    c.some_own.result c.some_own.ensures.some false c.if-some_own.false
