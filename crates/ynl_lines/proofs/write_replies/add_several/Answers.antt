use Rattle.std.proofs.lemmas.Result.{on_ok_weaker}
use Rattle.ynl_lines.proofs.Added.{several_added}
use Rattle.ynl_lines.proofs.write_replies.add_several.Goals as goal

pub returns-clause-added : goal.returns-clause-added
returns-clause-added c = on_ok_weaker c.add-2.result (λ e. several_added c.args.list.now c.args.text.now.items _ _ _ c.in_ok-add.ensures.added c.in_ok-add_list.ensures.added e) c.add-2.ensures.added
