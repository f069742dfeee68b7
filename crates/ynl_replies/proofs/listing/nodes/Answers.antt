-- The nodes are told one after another.
use Rattle.std.proofs.Common.{sym, subst}
use Rattle.ynl_slots.specs.Slots.{IsAfter, IsLive}
use Rattle.ynl_slots.proofs.Walks.{here, here_found, here_live, left_less, walk_at, walk_end, walk_step}
use Rattle.ynl_inventory.specs.Parts.{Held}
use Rattle.ynl_replies.proofs.listing.nodes.Goals as goal

pub node_at-requires : goal.node_at-requires
node_at-requires c = here_live c.args.cluster.now.rows.nodes c.loop-next.invariant.place c.in-Some.number (walk_at _ _ _ _ _ c.loop-next.invariant c.in-Some.is)

pub next_node-next-requires : goal.next_node-next-requires
next_node-next-requires c =
    subst (λ (h : Held). IsLive c.in-Some.number h.rows.nodes) (sym c.inventory-inventory.ensures.value) (here_live c.args.cluster.now.rows.nodes c.loop-next.invariant.place c.in-Some.number (walk_at _ _ _ _ _ c.loop-next.invariant c.in-Some.is))

pub loop-next-smaller : goal.loop-next-smaller
loop-next-smaller c =
    let after = subst (λ (h : Held). IsAfter c.in-Some.number h.rows.nodes c.next_node-next.result) c.inventory-inventory.ensures.value c.next_node-next.ensures in
    rw c.in-Some.is (left_less c.args.cluster.now.rows.nodes c.loop-next.invariant.place c.in-Some.number c.next_node-next.result c.inventory-inventory.ensures.sound.node_numbers (walk_at _ _ _ _ _ c.loop-next.invariant c.in-Some.is) after)

pub loop-next-preserved : goal.loop-next-preserved
loop-next-preserved c =
    let after = subst (λ (h : Held). IsAfter c.in-Some.number h.rows.nodes c.next_node-next.result) c.inventory-inventory.ensures.value c.next_node-next.ensures in
    let there = here c.args.cluster.now.rows.nodes c.loop-next.invariant.place c.in-Some.number (walk_at _ _ _ _ _ c.loop-next.invariant c.in-Some.is) in
    let found = here_found c.args.cluster.now.rows.nodes c.loop-next.invariant.place c.in-Some.number there.row c.inventory-inventory.ensures.sound.node_numbers there.at in
    rw c.in_ok-add_node.ensures (walk_step _ c.args.cluster.now.rows.nodes _ _ _ c.loop-next.invariant c.in-Some.is there.row there.at _ after _ (c.node_at.ensures there.row found))

pub returns : goal.returns
returns c = walk_end _ _ _ _ c.loop-next.invariant c.in_default.is
