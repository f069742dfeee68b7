use Rattle.std.proofs.Common.{ap, option_map, Some, sym, ◌∙◌}
use Rattle.ynl_slots.proofs.Chaining.{middle_live, prev_live, next_live, stays_live, removed}
use Rattle.ynl_slots.specs.Chain.{next_set}
use Rattle.ynl_slots.proofs.chain.Chain.remove.Goals as goal

pub index-requires : goal.index-requires
index-requires g c = middle_live g.T.Linked.links c.args.rows.now.entries c.args.self.now c.requires.0 c.args.number c.requires.1 c.requires.2

pub set_next-requires : goal.set_next-requires
set_next-requires g c n is =
    let read = ap (option_map g.T.Linked.links) c.index.ensures ∙ ap (λ l. Some l) (sym c.links-links.ensures) in
    prev_live g.T.Linked.links c.args.rows.now.entries c.args.self.now c.requires.0 c.args.number c.requires.1 c.requires.2 c.links-links.result n read is

pub set_prev-requires : goal.set_prev-requires
set_prev-requires g c n is =
    let read = ap (option_map g.T.Linked.links) c.index.ensures ∙ ap (λ l. Some l) (sym c.links-links.ensures) in
    stays_live g.T.Linked.with_links c.links-links.result.prev (λ r. next_set c.links-links.result.next (g.T.Linked.links r)) c.args.rows.now.entries c.set_next.new.rows.entries n c.set_next.ensures.links
    (next_live g.T.Linked.links c.args.rows.now.entries c.args.self.now c.requires.0 c.args.number c.requires.1 c.requires.2 c.links-links.result n read is)

pub returns-clause-chain : goal.returns-clause-chain
returns-clause-chain g c =
    let read = ap (option_map g.T.Linked.links) c.index.ensures ∙ ap (λ l. Some l) (sym c.links-links.ensures) in
    removed g.T.Linked.links g.T.Linked.with_links g.met.T.Linked.relinked c.args.rows.now.entries c.set_next.new.rows.entries c.set_prev.new.rows.entries c.args.self.now c.args.number c.links-links.result c.end_of-self.result c.end_of-self-2.result read c.set_next.ensures.links c.set_prev.ensures.links c.end_of-self.ensures c.end_of-self-2.ensures

pub returns-clause-rows : goal.returns-clause-rows
returns-clause-rows g c =
    (c.set_next.new.rows.entries, c.index.result.now, c.index.ensures, rw c.links-links.ensures at c.set_next.ensures.links, rw c.links-links.ensures at c.set_prev.ensures.links)
