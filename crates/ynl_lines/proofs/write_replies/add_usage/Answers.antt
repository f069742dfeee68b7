use Rattle.std.proofs.lemmas.Result.{on_ok_weaker}
use Rattle.ynl_lines.proofs.Added.{usage_added}
use Rattle.ynl_lines.proofs.write_replies.add_usage.Goals as goal

pub returns : goal.returns
returns c =
    on_ok_weaker c.add.result
    (λ e. usage_added c.args.used c.args.guaranteed c.args.maximum c.args.masters c.args.guests c.args.text.now.items _ _ _ _ _ _
    c.in_ok-add_amount.ensures c.in_ok-add_amount-2.ensures c.in_ok-add_amount-3.ensures c.in_ok-add_amount-4.ensures c.in_ok-add_amount-5.ensures e)
    c.add.ensures.added
