use Rattle.std.proofs.lemmas.Result.{on_ok_weaker}
use Rattle.ynl_lines.proofs.Added.{found_added}
use Rattle.ynl_lines.proofs.write_replies.add_found.Goals as goal

pub returns-clause-added : goal.returns-clause-added
returns-clause-added c = on_ok_weaker c.add-2.result (λ e. found_added c.args.proposal.now c.args.text.now.items _ _ _ c.in_ok-add.ensures.added c.in_ok-add_proposal.ensures.added e) c.add-2.ensures.added
