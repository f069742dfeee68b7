use Rattle.ynl_slots.proofs.Chaining.{sets_links}
use Rattle.ynl_slots.proofs.chain.relink.Goals as goal

pub returns-clause-links : goal.returns-clause-links
returns-clause-links g c =
    sets_links g.T.Linked.with_links c.args.number (λ _. c.args.links) c.args.rows.now.entries c.index_mut.result.now c.set_links.new.self c.index_mut.ensures.value c.set_links.ensures
