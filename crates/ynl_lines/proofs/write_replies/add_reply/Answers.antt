use Rattle.std.proofs.Common.{◌++◌, ap, sym, ◌∙◌}
use Rattle.std.proofs.lemmas.Result.{on_ok_weaker}
use Rattle.json.specs.Print.{escape_byte}
use Rattle.ynl_lines.specs.Writing.{reply_text}
use Rattle.ynl_lines.proofs.write_replies.add_reply.Goals as goal

pub returns-in-Done-clause-added : goal.returns-in-Done-clause-added
unfolding escape_byte
returns-in-Done-clause-added c = on_ok_weaker c.add.result (λ e. e ∙ ap (λ r. c.args.text.now.items ++ reply_text r) (sym c.in-Done.is)) c.add.ensures.added
