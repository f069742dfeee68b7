-- Each node of the rows has its spot, one after another.
use Rattle.std.proofs.Common.{ℕ, sym, subst, ◌∙◌}
use Rattle.ynl_laws.proofs.Lists.{map-map}
use Rattle.ynl_waits.specs.Grounds.{spot}
use Rattle.ynl_slots.specs.Slots.{IsAfter, IsLive}
use Rattle.ynl_slots.proofs.Walks.{here, here_found, here_live, left_less, walk_at, walk_end, walk_step}
use Rattle.ynl_inventory.specs.Meaning.{node_of}
use Rattle.ynl_inventory.specs.Parts.{Held}
use Rattle.ynl_inventory.specs.Rows.{NodeRow}
use Rattle.ynl_cluster.specs.Cluster.{state_in}
use Rattle.ynl_service.proofs.reading.gathering.spots_of.Goals as goal

pub spot_of-requires : goal.spot_of-requires
spot_of-requires c = here_live c.args.cluster.now.rows.nodes c.loop-next.invariant.place c.in-Some.number (walk_at _ _ _ _ _ c.loop-next.invariant c.in-Some.is)

pub next_node-next-requires : goal.next_node-next-requires
next_node-next-requires c =
    subst (λ (h : Held). IsLive c.in-Some.number h.rows.nodes) (sym c.inventory-inventory.ensures.value) (here_live c.args.cluster.now.rows.nodes c.loop-next.invariant.place c.in-Some.number (walk_at _ _ _ _ _ c.loop-next.invariant c.in-Some.is))

pub loop-next-smaller : goal.loop-next-smaller
loop-next-smaller c =
    let after = subst (λ (h : Held). IsAfter c.in-Some.number h.rows.nodes c.next_node-next.result) c.inventory-inventory.ensures.value c.next_node-next.ensures in
    rw c.in-Some.is (left_less c.args.cluster.now.rows.nodes c.loop-next.invariant.place c.in-Some.number c.next_node-next.result c.inventory-inventory.ensures.sound.node_numbers (walk_at _ _ _ _ _ c.loop-next.invariant c.in-Some.is) after)

pub loop-next-preserved : goal.loop-next-preserved
loop-next-preserved c =
    let after = subst (λ (h : Held). IsAfter c.in-Some.number h.rows.nodes c.next_node-next.result) c.inventory-inventory.ensures.value c.next_node-next.ensures in
    let there = here c.args.cluster.now.rows.nodes c.loop-next.invariant.place c.in-Some.number (walk_at _ _ _ _ _ c.loop-next.invariant c.in-Some.is) in
    let found = here_found c.args.cluster.now.rows.nodes c.loop-next.invariant.place c.in-Some.number there.row c.inventory-inventory.ensures.sound.node_numbers there.at in
    rw c.in_ok-add.ensures (walk_step _ c.args.cluster.now.rows.nodes _ _ _ c.loop-next.invariant c.in-Some.is there.row there.at _ after _ (c.spot_of.ensures there.row found))

pub returns : goal.returns
returns c =
    walk_end _ _ _ _ c.loop-next.invariant c.in_default.is
    ∙ sym (map-map (spot (state_in c.args.cluster.now)) (λ (e : ℕ × NodeRow). node_of c.args.cluster.now.rows.partitions e.1) c.args.cluster.now.rows.nodes)
