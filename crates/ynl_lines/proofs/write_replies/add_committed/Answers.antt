use Rattle.std.proofs.lemmas.Result.{on_ok_weaker}
use Rattle.ynl_lines.proofs.Added.{committed_added}
use Rattle.ynl_lines.proofs.write_replies.add_committed.Goals as goal

pub returns-clause-added : goal.returns-clause-added
returns-clause-added c = on_ok_weaker c.add-2.result (λ e. committed_added c.args.placed.now c.args.text.now.items _ _ _ c.in_ok-add.ensures.added c.in_ok-add_placed.ensures.added e) c.add-2.ensures.added
