use Rattle.std.proofs.Common.{Option, Some, option_map, sym, ap, ◌∙◌}
use Rattle.ynl_model.specs.Check.{proposal_of, proposed}
use Rattle.ynl_inventory.specs.Meaning.{node_of}
use Rattle.ynl_search.specs.declared.found.Found.{Found}
use Rattle.ynl_search.specs.Laws.{item_found}
use Rattle.ynl_service.proofs.proposing.proposed.Goals as goal

pub returns-in_err-found-clause-value : goal.returns-in_err-found-clause-value
unfolding proposed
returns-in_err-found-clause-value c = λ row at.
    let w = c.args.cluster.now in
    c.from_residual.ensures
    ∙ sym (ap (option_map (proposal_of (node_of w.rows.partitions row))) (c.choose.ensures.choice row at ∙ ap (λ (o : Option Found). option_map (item_found w.rows) o) c.in_err-found.was))

pub returns-clause-value : goal.returns-clause-value
unfolding proposed
returns-clause-value c = λ row at.
    let w = c.args.cluster.now in
    ap (λ p. Some p) (c.proposal.ensures row at)
    ∙ sym (ap (option_map (proposal_of (node_of w.rows.partitions row))) (c.choose.ensures.choice row at ∙ ap (λ (o : Option Found). option_map (item_found w.rows) o) c.in_ok-found.was))
