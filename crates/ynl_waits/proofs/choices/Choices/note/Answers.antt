use Rattle.std.proofs.Common.{List, sym, subst}
use Rattle.std.specs.List.{AllByRecursion}
use Rattle.ynl_waits.specs.Choices.{IsChoice}
use Rattle.ynl_waits.specs.declared.choices.Choice.{Choice}
use Rattle.ynl_waits.proofs.Shared.{all_pushed, row-made}
use Rattle.ynl_waits.proofs.choices.Choices.note.Goals as goal

pub returns-in_err-insert : goal.returns-in_err-insert
returns-in_err-insert c config s known spot is =
    subst (λ (rows : List Choice). AllByRecursion (IsChoice config s) rows) (sym c.in_ok-extend_from_slice.ensures.items)
    (all_pushed (IsChoice config s) c.args.self.now.rows.items _ known (row-made config s c.args.spot.now c.args.proposal.now spot is))

pub returns : goal.returns
returns c config s known spot is =
    subst (λ (rows : List Choice). AllByRecursion (IsChoice config s) rows) (sym c.in_ok-extend_from_slice.ensures.items)
    (all_pushed (IsChoice config s) c.args.self.now.rows.items _ known (row-made config s c.args.spot.now c.args.proposal.now spot is))
