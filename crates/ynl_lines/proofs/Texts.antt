-- Replies, events and lines are flat.
use Rattle.std.proofs.Common.{◌≤◌, ℕ, List, [], ◌∷◌, Option, Some, None, map, option_map, arith}
use Rattle.serde_json.specs.Data.{depth, items_depth}
use Rattle.serde_json.specs.View.{items_of}
use Rattle.ynl_resource.specs.declared.amounts.Resource.{Resource}
use Rattle.ynl_resource.specs.declared.names.Name.{Name}
use Rattle.ynl_resource.specs.declared.labels.Label.{Label}
use Rattle.ynl_resource.specs.declared.paths.Path.{Path}
use Rattle.ynl_model.specs.declared.events.Event.{Event}
use Rattle.ynl_model.specs.declared.events.Event.TheVariants.{Submit, Commit}
use Rattle.ynl_model.specs.declared.proposals.What.{What}
use Rattle.ynl_model.specs.declared.proposals.What.TheVariants.{Master, Ask as Asked}
use Rattle.ynl_model.specs.declared.containers.Placed.{Placed as Container}
use Rattle.ynl_model.specs.declared.proposals.Proposal.{Proposal}
use Rattle.ynl_model.specs.declared.replies.Pending.{Pending}
use Rattle.ynl_model.specs.declared.replies.Reply.{Reply}
use Rattle.ynl_model.specs.declared.replies.Reply.TheVariants.{Done, Refused, Placed, Proposed, Committed, Held, Usage}
use Rattle.ynl_lines.specs.Writing.{placed_by, placed_data, proposal_by, pending_data, reply_data, submit_data, event_data, line_object}

flat_by : (w : What) (p : Container) → depth (placed_by w p) ≤ 1
flat_by Master p = omega arith
flat_by (Asked label priority) p = omega arith

flat_placed : (ps : List Container) → items_depth (items_of (map placed_data ps)) ≤ 1
flat_placed [] = omega arith
flat_placed (p ∷ ps) = omega (arith, flat_by p.what p, flat_placed ps)

flat_proposal : (w : What) (p : Proposal) → depth (proposal_by w p) ≤ 1
flat_proposal Master p = omega arith
flat_proposal (Asked label priority) p = omega arith

flat_pending : (ps : List Pending) → items_depth (items_of (map pending_data ps)) ≤ 1
flat_pending [] = omega arith
flat_pending (p ∷ ps) = omega (arith, flat_pending ps)

pub flat_reply : (r : Reply) → depth (reply_data r) ≤ 3
flat_reply Done = omega arith
flat_reply (Refused r) = omega arith
flat_reply (Placed ps) = omega (arith, flat_placed ps)
flat_reply (Proposed None) = omega arith
flat_reply (Proposed (Some p)) = omega (arith, flat_proposal p.what p)
flat_reply (Committed p) = omega (arith, flat_by p.what p)
flat_reply (Held containers asks) = omega (arith, flat_pending asks, flat_placed containers)
flat_reply (Usage used guaranteed maximum masters guests) = omega arith

-- ---- events

flat_submit : (queue : Path) (app user : Name) (label : Option Label) (master : Resource) → depth (submit_data queue app user label master) ≤ 3
flat_submit queue app user None master = omega arith
flat_submit queue app user (Some label) master = omega arith

pub flat_event : (e : Event) → depth (event_data e) ≤ 3
flat_event (Submit queue app user label master) = flat_submit queue app user label master
flat_event (Commit proposal) = omega (arith, flat_proposal proposal.what proposal)
flat_event _ = omega arith

-- ---- lines

pub flat_line : (place : ℕ) (e : Event) (o : Option Reply) → depth (line_object place (event_data e) (option_map reply_data o)) ≤ 127
flat_line place e None = omega (arith, flat_event e)
flat_line place e (Some r) = omega (arith, flat_event e, flat_reply r)
