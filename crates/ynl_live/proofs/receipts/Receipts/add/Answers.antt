use Rattle.std.proofs.Common.{◌++◌, ◌∷◌, [], List, ap, ◌∙◌}
use Rattle.ynl_live.specs.declared.receipts.Receipt.{Receipt}
use Rattle.ynl_live.specs.Receipts.{receipt}
use Rattle.ynl_live.proofs.Kept.{receipts_push}
use Rattle.ynl_live.proofs.receipts.Receipts.add.Goals as goal

pub returns-clause-ok : goal.returns-clause-ok
returns-clause-ok c =
    let more = receipt c.args.place c.args.event.now c.args.reply.now in
    rw (c.push_reserved.ensures.items, c.in_ok-reserve.ensures.items, c.in_ok-push.ensures.ok)
    (receipts_push c.self.inside.places.items c.self.inside.entries more c.self.invariant.counted ∙ ap (λ (rs : List Receipt). rs ++ more ∷ []) c.self.view_is)
