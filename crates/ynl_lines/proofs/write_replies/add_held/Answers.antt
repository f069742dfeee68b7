use Rattle.std.proofs.lemmas.Result.{on_ok_weaker}
use Rattle.ynl_lines.proofs.Added.{held_added}
use Rattle.ynl_lines.proofs.write_replies.add_held.Goals as goal

pub returns-clause-added : goal.returns-clause-added
returns-clause-added c =
    on_ok_weaker c.add-3.result
    (λ e. held_added c.args.containers.now c.args.asks.now c.args.text.now.items _ _ _ _ _ c.in_ok-add.ensures.added c.in_ok-add_list.ensures.added c.in_ok-add-2.ensures.added c.in_ok-add_list-2.ensures.added e)
    c.add-3.ensures.added
