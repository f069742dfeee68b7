-- On which node a line's container stands.
use Rattle.std.proofs.Common.{◌≤◌, ◌<◌, ◌∙◌, ◌&&◌, nat_le, nat_lt, false, slice_index_or, sym, ap, subst, arith}
use Rattle.std.specs.Option.{option_map_or}
use Rattle.std.proofs.lemmas.Option.{same_Some}
use Rattle.ynl_resource.specs.Amounts.{fits_in}
use Rattle.ynl_resource.specs.Names.{same_label}
use Rattle.ynl_model.specs.Cluster.{node_of}
use Rattle.ynl_laws.proofs.Logic.{and-false, not-false}
use Rattle.ynl_laws.proofs.Names.{same-label_path}
use Rattle.ynl_inventory.specs.Parts.{node_row}
use Rattle.ynl_inventory.specs.Rows.{NodeRow}
use Rattle.ynl_cluster.specs.Cluster.{label_of, state_in}
use Rattle.ynl_saved.specs.Restoring.{is_given, last_clock, may_stand}
use Rattle.ynl_snapshots.proofs.restoring.Room.{last-read, not-behind, room-told, stands-told}
use Rattle.ynl_snapshots.proofs.restoring.placements.standing_on.Goals as goal

pub returns-then-not-fits_in-clause-sound : goal.returns-then-not-fits_in-clause-sound
returns-then-not-fits_in-clause-sound c =
    let named = c.in-Some.ensures.some in
    ap (λ b. b && nat_lt (last_clock (state_in c.args.cluster.now) c.args.placed.now.id.label) c.args.placed.now.id.clock && is_given c.args.cluster.now.config c.args.placed.now.size)
    (room-told c.args.cluster.now c.inventory-inventory.ensures.sound c.args.placed.now c.in-Some.node named
    ∙ ap (λ b. same_label (label_of c.args.cluster.now named.row.partition) c.args.placed.now.id.label && nat_le c.args.placed.now.id.clock named.row.stamp && b)
    ((λ i. fits_in (sym c.amount.ensures.value i) (sym (rw c.inventory-inventory.ensures.value at c.free.ensures) i)) ∙ sym c.fits_in.ensures ∙ c.if-not-fits_in.true)
    ∙ and-false (same_label (label_of c.args.cluster.now named.row.partition) c.args.placed.now.id.label && nat_le c.args.placed.now.id.clock named.row.stamp))

pub returns-then-placed-lasts-clause-sound : goal.returns-then-placed-lasts-clause-sound
returns-then-placed-lasts-clause-sound c =
    let named = c.in-Some.ensures.some in
    let is = same_Some (node_row c.node-row.result.now) named.row (sym (rw c.inventory-inventory.ensures.value at c.node-row.ensures) ∙ named.found) in
    let own =
    ap (λ (r : NodeRow). label_of c.args.cluster.now r.partition) (sym is)
    ∙ same-label_path (label_of c.args.cluster.now c.node-row.result.now.partition) c.args.placed.now.id.label (sym (rw c.inventory-inventory.ensures.value at c.is_labelled.ensures) ∙ c.if-not-is_labelled.false)
    in
    let read = ap (λ (r : NodeRow). slice_index_or c.args.lasts.now r.partition 0) is ∙ last-read c.args.cluster.now c.inventory-inventory.ensures.sound c.args.placed.now c.in-Some.node named c.args.lasts.now c.requires own in
    ap (λ b. b && is_given c.args.cluster.now.config c.args.placed.now.size)
    (ap (λ b. option_map_or (may_stand (state_in c.args.cluster.now) c.args.placed.now) (node_of (state_in c.args.cluster.now) c.args.placed.now.node) false && b)
    (not-behind (last_clock (state_in c.args.cluster.now) c.args.placed.now.id.label) c.args.placed.now.id.clock (subst (λ n. c.args.placed.now.id.clock ≤ n) read c.if-placed-lasts.true))
    ∙ and-false (option_map_or (may_stand (state_in c.args.cluster.now) c.args.placed.now) (node_of (state_in c.args.cluster.now) c.args.placed.now.node) false))

pub returns-clause-stands : goal.returns-clause-stands
returns-clause-stands c =
    let named = c.in-Some.ensures.some in
    let is = same_Some (node_row c.node-row.result.now) named.row (sym (rw c.inventory-inventory.ensures.value at c.node-row.ensures) ∙ named.found) in
    let own =
    ap (λ (r : NodeRow). label_of c.args.cluster.now r.partition) (sym is)
    ∙ same-label_path (label_of c.args.cluster.now c.node-row.result.now.partition) c.args.placed.now.id.label (sym (rw c.inventory-inventory.ensures.value at c.is_labelled.ensures) ∙ c.if-not-is_labelled.false)
    in
    let read = ap (λ (r : NodeRow). slice_index_or c.args.lasts.now r.partition 0) is ∙ last-read c.args.cluster.now c.inventory-inventory.ensures.sound c.args.placed.now c.in-Some.node named c.args.lasts.now c.requires own in
    record {
      named = named;
      own = own;
      stamped = let stamp = ap (λ (r : NodeRow). r.stamp) is in omega (arith, stamp, c.if-row-placed.false);
      fits = (λ i. fits_in (sym c.amount.ensures.value i) (sym (rw c.inventory-inventory.ensures.value at c.free.ensures) i)) ∙ sym c.fits_in.ensures ∙ c.if-not-fits_in.false;
      later = subst (λ n. n < c.args.placed.now.id.clock) read c.if-placed-lasts.false;
    }

pub returns-clause-sound : goal.returns-clause-sound
returns-clause-sound c =
    let stands = returns-clause-stands c in
    stands-told c.args.cluster.now c.inventory-inventory.ensures.sound c.args.placed.now c.in-Some.node stands (not-false _ (sym c.is_too_large.ensures ∙ c.if-is_too_large.false))
