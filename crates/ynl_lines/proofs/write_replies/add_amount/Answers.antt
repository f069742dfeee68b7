use Rattle.std.proofs.lemmas.Result.{on_ok_weaker}
use Rattle.ynl_lines.proofs.Added.{amount_added}
use Rattle.ynl_lines.proofs.write_replies.add_amount.Goals as goal

pub returns : goal.returns
returns g c =
    on_ok_weaker c.add-2.result
    (λ e. amount_added c.args.amount c.args.front.now c.args.text.now.items _ _ _ _ c.in_ok-add.ensures.added c.in_ok-add_number.ensures.added c.in_ok-add_number-2.ensures.added e)
    c.add-2.ensures.added
