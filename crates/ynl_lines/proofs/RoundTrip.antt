-- The object of an event reads as it.
use Rattle.std.proofs.Common.{◌≡◌, ◌≤◌, ◌∙◌, ℕ, Option, Some, None, Result, Ok}
use Rattle.ynl_resource.specs.declared.amounts.Resource.{Resource}
use Rattle.ynl_resource.specs.declared.names.Name.{Name}
use Rattle.ynl_resource.specs.declared.labels.Label.{Label}
use Rattle.ynl_resource.specs.declared.paths.Path.{Path}
use Rattle.ynl_resource.specs.Ranges.{whole, most_clock, most_count, most_priority}
use Rattle.ynl_resource.specs.Texts.{named}
use Rattle.ynl_model.specs.declared.events.Event.{Event}
use Rattle.ynl_model.specs.declared.events.Event.TheVariants.{Register, Lost, Relabel, Heartbeat, Exited, Submit, Ask, Release, Finish, Stop, Start, Poll, Usage, Propose, Commit, Maximum}
use Rattle.ynl_model.specs.declared.proposals.What.{What}
use Rattle.ynl_model.specs.declared.proposals.What.TheVariants.{Master, Ask as Asked}
use Rattle.ynl_model.specs.declared.proposals.Proposal.{Proposal}
use Rattle.ynl_lines.specs.declared.faults.LineFault.{LineFault}
use Rattle.ynl_lines.specs.declared.faults.LineFault.TheVariants as fault
use Rattle.ynl_fields.specs.Reading.{text_or, number_or, keys_or}
use Rattle.ynl_lines.specs.Reading.{◌>>=◌, node_at, queue_at, within, size_at, register_at, lost_at, relabel_at, heartbeat_at, exited_at, label_text_at, optional_label_at, submit_at, ask_at, release_at, finish_at, stop_at, start_at, poll_at, usage_at, propose_at, wanted_at, wanted_label_at, what_at, proposal_at, commit_at, maximum_at, event_at, HasPriority, HasProposalNumbers, IsInRange}
use Rattle.ynl_lines.specs.Sound.{IsWanted, HasProposalParts, IsProposal, IsEvent}
use Rattle.ynl_lines.specs.Writing.{proposal_by, proposal_data, submit_data, event_data}
use Rattle.ynl_fields.proofs.Sizes.{size_back, within_back}
use Rattle.ynl_fields.proofs.Names.{name_back, label_back, id_back, path_back}

-- ---- proposals

-- a proposal for something else, of another stamp and size
abbrev changed : Proposal → What → ℕ → Resource → Proposal
changed p what stamp size = record { node = p.node; stamp = stamp; tenant = p.tenant; app = p.app; what = what; size = size }

-- a proposal of an ask whose numbers are still to be looked at
abbrev by_numbers : Proposal → Label → ℕ → Result Proposal LineFault
by_numbers p label priority =
    (within most_priority priority >>= λ priority. Ok (Asked label priority)) >>= λ what. within most_clock p.stamp >>= λ stamp.
    size_at p.size.memory p.size.vcores >>= λ size. Ok (changed p what stamp size)

proposal_back_by : (w : What) (p : Proposal) → HasProposalParts p → IsWanted w → HasPriority w → p.stamp ≤ most_clock → proposal_at (proposal_by w p) ≡ Ok (changed p w p.stamp p.size)
unfolding proposal_at text_or number_or keys_or wanted_at wanted_label_at what_at
proposal_back_by Master p h l small stamped =
    λ i. name_back fault.Name p.app h.2 i >>= λ app. name_back fault.Name p.node h.0 i >>= λ node. name_back fault.Name p.tenant h.1 i >>= λ tenant.
    within_back fault.Range most_clock p.stamp stamped i >>= λ stamp. size_back fault.Range p.size h.3 i >>= λ size.
    Ok (record { node = node; stamp = stamp; tenant = tenant; app = app; what = Master; size = size })
proposal_back_by (Asked label priority) p h l small stamped =
    let named : proposal_at (proposal_by (Asked label priority) p) ≡ by_numbers p label priority =
    λ i. name_back fault.Name p.app h.2 i >>= λ app. (label_back fault.Name label l i >>= λ label. Ok (Some (label, priority))) >>= λ wanted. name_back fault.Name p.node h.0 i >>= λ node.
    name_back fault.Name p.tenant h.1 i >>= λ tenant. what_at wanted >>= λ what. within most_clock p.stamp >>= λ stamp. size_at p.size.memory p.size.vcores >>= λ size.
    Ok (record { node = node; stamp = stamp; tenant = tenant; app = app; what = what; size = size }) in
    let numbered : by_numbers p label priority ≡ Ok (changed p (Asked label priority) p.stamp p.size) =
    λ i. (within_back fault.Range most_priority priority small i >>= λ priority. Ok (Asked label priority)) >>= λ what. within_back fault.Range most_clock p.stamp stamped i >>= λ stamp.
    size_back fault.Range p.size h.3 i >>= λ size. Ok (changed p what stamp size) in
    named ∙ numbered

pub proposal_back : (p : Proposal) → IsProposal p → HasProposalNumbers p → proposal_at (proposal_data p) ≡ Ok p
proposal_back p h n = proposal_back_by p.what p h.0 h.1 n.0 n.1

-- ---- events

submit_back : (queue : Path) (app user : Name) (label : Option Label) (master : Resource) → IsEvent (Submit queue app user label master)
    → event_at (submit_data queue app user label master) ≡ Ok (Submit queue app user label master)
unfolding event_at text_or number_or keys_or submit_at label_text_at optional_label_at
submit_back queue app user None master h =
    λ i. name_back fault.Name app h.1 i >>= λ app. path_back fault.Name queue h.0 i >>= λ queue. name_back fault.Name user h.2 i >>= λ user.
    size_back fault.Range master h.4 i >>= λ master. Ok (Submit queue app user None master)
submit_back queue app user (Some label) master h =
    λ i. name_back fault.Name app h.1 i >>= λ app. (label_back fault.Name label h.3 i >>= λ l. Ok (Some l)) >>= λ label. path_back fault.Name queue h.0 i >>= λ queue.
    name_back fault.Name user h.2 i >>= λ user. size_back fault.Range master h.4 i >>= λ master. Ok (Submit queue app user label master)

pub event_back : (e : Event) → IsEvent e → IsInRange e → event_at (event_data e) ≡ Ok e
unfolding event_at text_or number_or keys_or node_at queue_at register_at lost_at relabel_at heartbeat_at exited_at ask_at release_at finish_at stop_at start_at poll_at usage_at propose_at commit_at maximum_at
event_back (Register node label size) h n =
    λ i. label_back fault.Name label h.1 i >>= λ label. name_back fault.Name node h.0 i >>= λ node. size_back fault.Range size h.2 i >>= λ size. Ok (Register node label size)
event_back (Lost node) h n = λ i. name_back fault.Name node h i >>= λ node. Ok (Lost node)
event_back (Relabel node label) h n = λ i. label_back fault.Name label h.1 i >>= λ label. name_back fault.Name node h.0 i >>= λ node. Ok (Relabel node label)
event_back (Heartbeat node) h n = λ i. name_back fault.Name node h i >>= λ node. Ok (Heartbeat node)
event_back (Exited node id) h n = λ i. id_back fault.Name id h.1 n i >>= λ id. name_back fault.Name node h.0 i >>= λ node. Ok (Exited node id)
event_back (Submit queue app user label master) h n = submit_back queue app user label master h
event_back (Ask tenant app label priority count size) h n =
    λ i. name_back fault.Name app h.1 i >>= λ app. label_back fault.Name label h.2 i >>= λ label. name_back fault.Name tenant h.0 i >>= λ tenant. within_back fault.Range most_count count n.1 i >>= λ count.
    within_back fault.Range most_priority priority n.0 i >>= λ priority. size_back fault.Range size h.3 i >>= λ size. Ok (Ask tenant app label priority count size)
event_back (Release tenant id) h n = λ i. id_back fault.Name id h.1 n i >>= λ id. name_back fault.Name tenant h.0 i >>= λ tenant. Ok (Release tenant id)
event_back (Finish tenant app) h n = λ i. name_back fault.Name app h.1 i >>= λ app. name_back fault.Name tenant h.0 i >>= λ tenant. Ok (Finish tenant app)
event_back (Stop queue) h n = λ i. path_back fault.Name queue h i >>= λ queue. Ok (Stop queue)
event_back (Start queue) h n = λ i. path_back fault.Name queue h i >>= λ queue. Ok (Start queue)
event_back (Poll tenant app label) h n =
    λ i. name_back fault.Name app h.1 i >>= λ app. label_back fault.Name label h.2 i >>= λ label. name_back fault.Name tenant h.0 i >>= λ tenant. Ok (Poll tenant app label)
event_back (Usage queue label) h n = λ i. label_back fault.Name label h.1 i >>= λ label. path_back fault.Name queue h.0 i >>= λ queue. Ok (Usage queue label)
event_back (Propose node) h n = λ i. name_back fault.Name node h i >>= λ node. Ok (Propose node)
event_back (Commit proposal) h n = λ i. proposal_back proposal h n i >>= λ proposal. Ok (Commit proposal)
event_back (Maximum queue label maximum) h n =
    λ i. label_back fault.Name label h.1 i >>= λ label. path_back fault.Name queue h.0 i >>= λ queue. within_back fault.Range whole maximum h.2 i >>= λ maximum. Ok (Maximum queue label maximum)
