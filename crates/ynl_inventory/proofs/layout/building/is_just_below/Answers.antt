use Rattle.std.proofs.lemmas.Bool.{eqb-true, eq-eqb}
use Rattle.ynl_inventory.proofs.layout.Children.{stands-below, stood-below}
use Rattle.ynl_inventory.proofs.layout.building.is_just_below.Goals as goal

pub returns-then-line-gt1 : goal.returns-then-line-gt1
returns-then-line-gt1 c paths child tree has there is =
    (λ e. stands-below paths tree c.args.queue has child c.args.line.now there is c.if-line-gt1.true (eqb-true _ _ e), λ h. eq-eqb _ _ (stood-below paths tree c.args.queue has child c.args.line.now is h).1)
