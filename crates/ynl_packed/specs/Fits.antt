-- What is read again as it was kept. Every value of the types fits.
use Rattle.std.specs.Prelude.{◌≡◌, ℕ, List, ◌<◌, ◌≤◌, ◌^◌, length, Ok, IfSome, All}
use Rattle.std.specs.Str.{IsUtf8}
use Rattle.ynl_resource.specs.Amounts.{IsSize}
use Rattle.ynl_resource.specs.Ranges.{whole}
use Rattle.ynl_resource.specs.declared.amounts.Resource.{Resource}
use Rattle.ynl_resource.specs.declared.names.Name.{Name}
use Rattle.ynl_resource.specs.declared.labels.Label.{Label}
use Rattle.ynl_resource.specs.declared.labels.Label.TheVariants.{Unlabelled, Named}
use Rattle.ynl_resource.specs.declared.paths.Path.{Path}
use Rattle.ynl_resource.specs.declared.ids.Id.{Id}
use Rattle.ynl_resource.specs.Texts.{path_text, read_name, read_path}
use Rattle.ynl_resource.specs.Refusals.{word}
use Rattle.ynl_model.specs.declared.events.Event.{Event}
use Rattle.ynl_model.specs.declared.events.Event.TheVariants.{Register, Lost, Relabel, Heartbeat, Exited, Submit, Ask, Release, Finish, Stop, Start, Poll, Usage, Propose, Commit, Maximum}
use Rattle.ynl_model.specs.declared.proposals.What.{What}
use Rattle.ynl_model.specs.declared.proposals.What.TheVariants.{Master, Ask as Asked}
use Rattle.ynl_model.specs.declared.proposals.Proposal.{Proposal}
use Rattle.ynl_model.specs.declared.containers.Placed.{Placed as Container}
use Rattle.ynl_model.specs.declared.replies.Pending.{Pending}
use Rattle.ynl_model.specs.declared.replies.Reply.{Reply}
use Rattle.ynl_model.specs.declared.replies.Reply.TheVariants as reply

pub record FitsName (name : Name) : Type 0 where
  pub some : 1 ≤ length name
  pub short : length name < 256
  pub utf8 : IsUtf8 name
  pub reads : read_name name ≡ Ok name

abbrev pub FitsLabel : Label → Type 0
FitsLabel Unlabelled = Unit {0}
FitsLabel (Named name) = FitsName name

pub record FitsLong (text : List ℕ) : Type 0 where
  pub len : length text < 2 ^ 64
  pub utf8 : IsUtf8 text

pub record FitsPath (path : Path) : Type 0 where
  pub text : FitsLong (path_text path)
  pub reads : read_path (path_text path) ≡ Ok path

abbrev pub FitsSize : Resource → Type 0
FitsSize = IsSize

pub record FitsId (id : Id) : Type 0 where
  pub label : FitsLabel id.label
  pub clock : id.clock < 2 ^ 64

abbrev pub FitsWhat : What → Type 0
FitsWhat Master = Unit {0}
FitsWhat (Asked label priority) = FitsLabel label × (priority < 2 ^ 32)

pub record FitsProposal (p : Proposal) : Type 0 where
  pub node : FitsName p.node
  pub stamp : p.stamp < 2 ^ 64
  pub tenant : FitsName p.tenant
  pub app : FitsName p.app
  pub what : FitsWhat p.what
  pub size : FitsSize p.size

abbrev pub FitsEvent : Event → Type 0
FitsEvent (Register node label size) = FitsName node × FitsLabel label × FitsSize size
FitsEvent (Lost node) = FitsName node
FitsEvent (Relabel node label) = FitsName node × FitsLabel label
FitsEvent (Heartbeat node) = FitsName node
FitsEvent (Exited node id) = FitsName node × FitsId id
FitsEvent (Submit queue app user label master) = FitsPath queue × FitsName app × FitsName user × IfSome label FitsLabel × FitsSize master
FitsEvent (Ask tenant app label priority count size) = FitsName tenant × FitsName app × FitsLabel label × (priority < 2 ^ 32) × (count < 2 ^ 32) × FitsSize size
FitsEvent (Release tenant id) = FitsName tenant × FitsId id
FitsEvent (Finish tenant app) = FitsName tenant × FitsName app
FitsEvent (Stop queue) = FitsPath queue
FitsEvent (Start queue) = FitsPath queue
FitsEvent (Poll tenant app label) = FitsName tenant × FitsName app × FitsLabel label
FitsEvent (Usage queue label) = FitsPath queue × FitsLabel label
FitsEvent (Propose node) = FitsName node
FitsEvent (Commit proposal) = FitsProposal proposal
FitsEvent (Maximum queue label maximum) = FitsPath queue × FitsLabel label × (maximum ≤ whole)

pub record FitsContainer (p : Container) : Type 0 where
  pub id : FitsId p.id
  pub node : FitsName p.node
  pub tenant : FitsName p.tenant
  pub app : FitsName p.app
  pub what : FitsWhat p.what
  pub size : FitsSize p.size

pub record FitsPending (p : Pending) : Type 0 where
  pub priority : p.priority < 2 ^ 32
  pub count : p.count < 2 ^ 32
  pub size : FitsSize p.size

pub record FitsItems {T : Type 0} (fits : T → Type 0) (items : List T) : Type 0 where
  pub count : length items < 2 ^ 64
  pub each : All fits items

pub record FitsAmount (amount : Resource) : Type 0 where
  pub memory : amount.memory < 2 ^ 64
  pub vcores : amount.vcores < 2 ^ 64

abbrev pub FitsReply : Reply → Type 0
FitsReply reply.Done = Unit {0}
FitsReply (reply.Refused refusal) = FitsLong (word refusal)
FitsReply (reply.Placed containers) = FitsItems FitsContainer containers
FitsReply (reply.Proposed found) = IfSome found FitsProposal
FitsReply (reply.Committed container) = FitsContainer container
FitsReply (reply.Held containers asks) = FitsItems FitsContainer containers × FitsItems FitsPending asks
FitsReply (reply.Usage used guaranteed maximum masters guests) =
    FitsAmount used × FitsAmount guaranteed × FitsAmount maximum × FitsAmount masters × FitsAmount guests
