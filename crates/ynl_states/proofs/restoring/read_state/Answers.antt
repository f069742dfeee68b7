-- The cluster of what a text told.
use Rattle.std.proofs.Common.{◌∙◌, ap, subst}
use Rattle.ynl_model.specs.Queues.{Config}
use Rattle.ynl_saved.proofs.Restored.{IsRestored}
use Rattle.ynl_states.proofs.restoring.read_state.Goals as goal

pub returns-in_ok-resume-in-Ok : goal.returns-in_ok-resume-in-Ok
returns-in_ok-resume-in-Ok c =
    let its = rw c.in-Ok.is at c.in_ok-told.ensures in
    let tells = its.3 in (
      its.0,
      its.1,
      subst (λ (configured : Config). IsRestored configured its.0) its.2 tells.known,
      c.in_ok-resume-in-Ok.ensures its.0 tells ∙ ap (λ (configured : Config). record { config = configured; state = (its.0).state }) its.2,
      its.4,
    )
