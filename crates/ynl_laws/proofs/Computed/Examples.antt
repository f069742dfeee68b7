-- The examples beside the headline, computed.
use Rattle.std.specs.Prelude.{refl}
use Rattle.ynl_laws.specs.Examples.{PremisesAreMet, ViewIsShorter, BothArePlaced, ProposalIsCommitted, RestrictionIsNotAccepted}
use Rattle.ynl_laws.proofs.Computed.Opened.{opened}

pub premises_are_met : PremisesAreMet
unfolding opened
premises_are_met = (refl, refl)

pub view_is_shorter : ViewIsShorter
unfolding opened
view_is_shorter = refl

pub both_are_placed : BothArePlaced
unfolding opened
both_are_placed = (refl, refl)

pub proposal_is_committed : ProposalIsCommitted
unfolding opened
proposal_is_committed = (refl, refl)

pub restriction_is_not_accepted : RestrictionIsNotAccepted
unfolding opened
restriction_is_not_accepted = refl
