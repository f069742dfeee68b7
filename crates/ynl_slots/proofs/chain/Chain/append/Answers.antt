use Rattle.ynl_slots.specs.Chain.{next_set}
use Rattle.ynl_slots.proofs.Chaining.{last_live, stays_live, appended}
use Rattle.ynl_slots.proofs.chain.Chain.append.Goals as goal

pub set_next-requires : goal.set_next-requires
set_next-requires g c n is = last_live g.T.Linked.links c.args.rows.now.entries c.args.self.now c.requires.linked.0 n c.requires.linked.1 is

pub relink-requires : goal.relink-requires
relink-requires g c =
    stays_live g.T.Linked.with_links c.args.self.now.last (λ r. next_set c.number-last.result (g.T.Linked.links r)) c.args.rows.now.entries c.set_next.new.rows.entries c.args.number c.set_next.ensures.links c.requires.live

pub returns-clause-chain : goal.returns-clause-chain
returns-clause-chain g c =
    rw c.number-last.ensures (appended g.T.Linked.links g.T.Linked.with_links g.met.T.Linked.relinked c.args.rows.now.entries c.set_next.new.rows.entries c.relink.new.rows.entries c.args.self.now c.args.number c.or-self.result c.requires.live (rw c.number-last.ensures at c.set_next.ensures.links) c.relink.ensures.links (rw c.number-last.ensures at c.or-self.ensures))
