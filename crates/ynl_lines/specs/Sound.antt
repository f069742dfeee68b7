-- What holds of every value that is written: its names are names, its labels labels, its paths paths, and its sizes sizes.
use Rattle.std.specs.Prelude.{◌≤◌, All, IfSome}
use Rattle.ynl_resource.specs.Amounts.{IsSize}
use Rattle.ynl_resource.specs.Ranges.{whole}
use Rattle.ynl_model.specs.declared.events.Event.{Event}
use Rattle.ynl_model.specs.declared.events.Event.TheVariants.{Register, Lost, Relabel, Heartbeat, Exited, Submit, Ask, Release, Finish, Stop, Start, Poll, Usage, Propose, Commit, Maximum}
use Rattle.ynl_model.specs.declared.proposals.What.{What}
use Rattle.ynl_model.specs.declared.proposals.What.TheVariants.{Master, Ask as Asked}
use Rattle.ynl_model.specs.declared.proposals.Proposal.{Proposal}
use Rattle.ynl_model.specs.declared.containers.Placed.{Placed as Container}
use Rattle.ynl_model.specs.declared.replies.Pending.{Pending}
use Rattle.ynl_model.specs.declared.replies.Reply.{Reply}
use Rattle.ynl_model.specs.declared.replies.Reply.TheVariants.{Placed, Proposed, Committed, Held}
use Rattle.ynl_fields.specs.Sound.{IsName, IsLabel, IsPath}
pub use Rattle.ynl_fields.specs.Sound.{IsName, IsLabel, IsPath}

-- what is wanted has a label, or is a master
abbrev pub IsWanted : What → Type 0
IsWanted Master = Unit {0}
IsWanted (Asked label priority) = IsLabel label

-- a proposal but for what it wants
abbrev pub HasProposalParts : Proposal → Type 0
HasProposalParts p = IsName p.node × IsName p.tenant × IsName p.app × IsSize p.size

abbrev pub IsProposal : Proposal → Type 0
IsProposal p = HasProposalParts p × IsWanted p.what

-- a container but for what it is for
abbrev pub HasContainerParts : Container → Type 0
HasContainerParts p = IsLabel p.id.label × IsName p.node × IsName p.tenant × IsName p.app × IsSize p.size

abbrev pub IsContainer : Container → Type 0
IsContainer p = HasContainerParts p × IsWanted p.what

abbrev pub IsPending : Pending → Type 0
IsPending p = IsSize p.size

abbrev pub IsEvent : Event → Type 0
IsEvent (Register node label size) = IsName node × IsLabel label × IsSize size
IsEvent (Lost node) = IsName node
IsEvent (Relabel node label) = IsName node × IsLabel label
IsEvent (Heartbeat node) = IsName node
IsEvent (Exited node id) = IsName node × IsLabel id.label
IsEvent (Submit queue app user label master) = IsPath queue × IsName app × IsName user × IfSome label IsLabel × IsSize master
IsEvent (Ask tenant app label priority count size) = IsName tenant × IsName app × IsLabel label × IsSize size
IsEvent (Release tenant id) = IsName tenant × IsLabel id.label
IsEvent (Finish tenant app) = IsName tenant × IsName app
IsEvent (Stop queue) = IsPath queue
IsEvent (Start queue) = IsPath queue
IsEvent (Poll tenant app label) = IsName tenant × IsName app × IsLabel label
IsEvent (Usage queue label) = IsPath queue × IsLabel label
IsEvent (Propose node) = IsName node
IsEvent (Commit proposal) = IsProposal proposal
IsEvent (Maximum queue label maximum) = IsPath queue × IsLabel label × (maximum ≤ whole)

abbrev pub IsReply : Reply → Type 0
IsReply (Placed ps) = All IsContainer ps
IsReply (Proposed o) = IfSome o IsProposal
IsReply (Committed p) = IsContainer p
IsReply (Held containers asks) = All IsContainer containers × All IsPending asks
IsReply _ = Unit {0}
