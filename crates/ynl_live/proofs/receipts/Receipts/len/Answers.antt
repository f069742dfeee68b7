use Rattle.std.proofs.Common.{◌≡◌, length, sym, ◌∙◌, arith}
use Rattle.ynl_live.proofs.Kept.{receipts_len}
use Rattle.ynl_live.proofs.receipts.Receipts.len.Goals as goal

pub returns : goal.returns
returns c =
    let len : c.len.result ≡ length c.self.inside.places.items = omega arith in
    rw (← c.self.view_is) (len ∙ sym (receipts_len c.self.inside.places.items c.self.inside.entries c.self.invariant.counted))
