use Rattle.std.proofs.Common.{sym, ap, ◌∙◌}
use Rattle.ynl_slots.specs.declared.chain.Links.{Links}
use Rattle.ynl_slots.specs.Chain.{next_set}
use Rattle.ynl_slots.proofs.Chaining.{sets_links}
use Rattle.ynl_slots.proofs.chain.set_next.Goals as goal

pub returns-in-Some-clause-links : goal.returns-in-Some-clause-links
returns-in-Some-clause-links g c =
    let is = c.set_links.ensures ∙ ap (λ (l : Links). g.T.Linked.with_links c.index_mut-row.result.now (next_set c.args.next l)) c.links-prev.ensures in
    rw (sym c.get.ensures ∙ c.in-Some.is) (sets_links g.T.Linked.with_links c.in-Some.number (λ r. next_set c.args.next (g.T.Linked.links r)) c.args.rows.now.entries c.index_mut-row.result.now c.set_links.new.self c.index_mut-row.ensures.value is)
