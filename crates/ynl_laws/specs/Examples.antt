-- What one would ask to see beside the headline: that its premises can be met, and that what it speaks of is not empty.
use Rattle.std.specs.Prelude.{◌≡◌, false, IsTrue, List, [], ◌∷◌, ◌++◌, Some}
use Rattle.ynl_model.specs.declared.proposals.What.TheVariants.{Master, Ask as Asked}
use Rattle.ynl_model.specs.Accepted.{is_accepted}
use Rattle.ynl_model.specs.Events.{step, state_after}
use Rattle.ynl_model.specs.declared.events.Event.{Event}
use Rattle.ynl_model.specs.declared.replies.Reply.TheVariants.{Proposed, Committed}
use Rattle.ynl_model.specs.View.{view, places_of, is_sole, restrict, seen}
use Rattle.ynl_laws.specs.Setups.{name, gpu, ssd, ml, mkt, c1, reg, sub, ask, hb, prop, proposal, cmt, container}

-- a configuration of two tenants is accepted, and one of them alone may use an exclusive partition
abbrev pub PremisesAreMet : Type 0
PremisesAreMet = IsTrue (is_accepted c1) × IsTrue (is_sole c1 (name "eng") gpu)

-- both tenants at work: one on its partition and outside it, the other elsewhere
abbrev pub both_at_work : List Event
both_at_work =
    reg "s1" ssd 8000 8 ∷ reg "g1" gpu 10000 10 ∷ sub mkt "m1" "mia" ssd 1000 1 ∷ sub ml "j1" "ann" gpu 1000 1 ∷ hb "s1" ∷ hb "g1" ∷ ask "mkt" "m1" ssd 1 2 500 1 ∷ ask "eng" "j1" gpu 1 2 2000 2 ∷ hb "s1" ∷ hb "g1" ∷ []

-- the view leaves out what the other tenant does
abbrev pub ViewIsShorter : Type 0
ViewIsShorter = places_of (view c1 both_at_work (name "eng") gpu) ≡ 1 ∷ 3 ∷ 5 ∷ 7 ∷ 9 ∷ []

-- containers are placed on the partition, and in the other tenant's
abbrev pub BothArePlaced : Type 0
BothArePlaced =
    ((seen (state_after c1 both_at_work) gpu).containers ≡ container gpu 2 "g1" "eng" "j1" Master 1000 1 ∷ container gpu 3 "g1" "eng" "j1" (Asked gpu 1) 2000 2 ∷ [])
    × ((seen (state_after c1 both_at_work) ssd).containers ≡ container ssd 2 "s1" "mkt" "m1" Master 1000 1 ∷ container ssd 3 "s1" "mkt" "m1" (Asked ssd 1) 500 1 ∷ [])

-- a proposal is answered for a node, and placed when it comes back as the next event
abbrev pub ProposalIsCommitted : Type 0
ProposalIsCommitted =
    ((step c1 (state_after c1 both_at_work) (prop "g1")).reply ≡ Proposed (Some (proposal "g1" 3 "eng" "j1" (Asked gpu 1) 2000 2)))
    × ((step c1 (state_after c1 (both_at_work ++ prop "g1" ∷ [])) (cmt "g1" 3 "eng" "j1" (Asked gpu 1) 2000 2)).reply ≡ Committed (container gpu 4 "g1" "eng" "j1" (Asked gpu 1) 2000 2))

-- the tenant's own cluster is not accepted by itself, so nothing may be promised of accepted configurations alone that is used of both
abbrev pub RestrictionIsNotAccepted : Type 0
RestrictionIsNotAccepted = is_accepted (restrict c1 (name "eng")) ≡ false
