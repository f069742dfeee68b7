use Rattle.std.proofs.Common.{◌∙◌}
use Rattle.std.proofs.lemmas.Result.{on_ok_weaker}
use Rattle.ynl_lines.proofs.Added.{refused_added}
use Rattle.ynl_lines.proofs.write_replies.add_refused.Goals as goal

pub returns : goal.returns
returns c = on_ok_weaker c.add.result (λ e. refused_added c.args.refusal c.as_bytes.result.now c.args.text.now.items _ _ (c.as_bytes.ensures.value ∙ c.word.ensures) c.in_ok-add_text.ensures.added e) c.add.ensures.added
