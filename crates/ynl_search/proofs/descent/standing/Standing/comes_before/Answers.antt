use Rattle.std.proofs.Common.{sym, ◌∙◌}
use Rattle.ynl_search.proofs.descent.Siblings.{same-ratio}
use Rattle.ynl_search.proofs.descent.standing.Standing.comes_before.Goals as goal

pub returns-in-Equal : goal.returns-in-Equal
returns-in-Equal c b ordered first second =
    same-ratio b ordered c.args.self.now c.args.other.now first second (sym c.ratio_order.ensures ∙ c.in-Equal.is)
