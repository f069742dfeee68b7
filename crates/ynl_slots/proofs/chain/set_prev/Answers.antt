use Rattle.std.proofs.Common.{sym, ap, ◌∙◌}
use Rattle.ynl_slots.specs.declared.chain.Links.{Links}
use Rattle.ynl_slots.specs.Chain.{prev_set}
use Rattle.ynl_slots.proofs.Chaining.{sets_links}
use Rattle.ynl_slots.proofs.chain.set_prev.Goals as goal

pub returns-in-Some-clause-links : goal.returns-in-Some-clause-links
returns-in-Some-clause-links g c =
    let is = c.set_links.ensures ∙ ap (λ (l : Links). g.T.Linked.with_links c.index_mut-row.result.now (prev_set c.args.prev l)) c.links-next.ensures in
    rw (sym c.get.ensures ∙ c.in-Some.is) (sets_links g.T.Linked.with_links c.in-Some.number (λ r. prev_set c.args.prev (g.T.Linked.links r)) c.args.rows.now.entries c.index_mut-row.result.now c.set_links.new.self c.index_mut-row.ensures.value is)
