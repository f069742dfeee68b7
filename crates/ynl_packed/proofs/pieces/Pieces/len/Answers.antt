use Rattle.std.proofs.Common.{◌≡◌, length, ap, sym, ◌∙◌, arith}
use Rattle.ynl_packed.proofs.Cut.{len_pieces}
use Rattle.ynl_packed.proofs.pieces.Pieces.len.Goals as goal

pub returns-clause-value : goal.returns-clause-value
returns-clause-value c =
    let len : c.len.result ≡ length c.self.inside.ends.items = omega arith in
    rw (← c.self.view_is) (len ∙ sym (len_pieces c.self.inside.bytes.items 0 c.self.inside.ends.items))
