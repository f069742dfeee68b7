-- The texts of replies, faults, audits and events: JSON objects in the compact form, the keys in byte order.
use Rattle.std.specs.Prelude.{ℕ, map, List, ◌++◌, Option, Some, None, option_map, codes}
use Rattle.serde_json.specs.Data.{Data, Members, object, array, string, member, no_members, put}
use Rattle.serde_json.specs.View.{items_of}
use Rattle.serde_json.specs.Written.{compact_text}
use Rattle.ynl_resource.specs.declared.amounts.Resource.{Resource}
use Rattle.ynl_resource.specs.declared.names.Name.{Name}
use Rattle.ynl_resource.specs.declared.labels.Label.{Label}
use Rattle.ynl_resource.specs.declared.paths.Path.{Path}
use Rattle.ynl_resource.specs.declared.ids.Id.{Id}
use Rattle.ynl_resource.specs.declared.refusals.Refusal.{Refusal}
use Rattle.ynl_resource.specs.Refusals.{word}
use Rattle.ynl_resource.specs.Texts.{label_text, path_text, id_text}
use Rattle.ynl_model.specs.declared.proposals.What.{What}
use Rattle.ynl_model.specs.declared.proposals.What.TheVariants.{Master, Ask as Asked}
use Rattle.ynl_model.specs.declared.containers.Placed.{Placed as Container}
use Rattle.ynl_model.specs.declared.proposals.Proposal.{Proposal}
use Rattle.ynl_model.specs.declared.events.Event.{Event}
use Rattle.ynl_model.specs.declared.events.Event.TheVariants as event
use Rattle.ynl_model.specs.declared.replies.Pending.{Pending}
use Rattle.ynl_model.specs.declared.replies.Reply.{Reply}
use Rattle.ynl_model.specs.declared.replies.Reply.TheVariants.{Done, Refused, Placed, Proposed, Committed, Held, Usage}
use Rattle.ynl_model.specs.declared.entries.Entry.{Entry}
use Rattle.ynl_lines.specs.declared.faults.LineFault.{LineFault}
use Rattle.ynl_lines.specs.declared.faults.LineFault.TheVariants as fault
use Rattle.ynl_lines.specs.declared.faults.JournalFault.{JournalFault}
use Rattle.ynl_lines.specs.declared.faults.JournalFault.TheVariants as journal_fault
use Rattle.ynl_lines.specs.declared.faults.InputFault.{InputFault}
use Rattle.ynl_lines.specs.declared.faults.InputFault.TheVariants.{Script, Journal}
use Rattle.ynl_fields.specs.Writing.{count}
pub use Rattle.ynl_fields.specs.Writing.{count}

-- ---- what stands in several objects

-- an amount: MB of memory, and virtual cores
abbrev pub amount_data : Resource → Data
amount_data a = object (member (codes "memory") (count a.memory) (member (codes "vcores") (count a.vcores) no_members))

-- a container that is a master
abbrev pub master_data : List ℕ → Container → Data
master_data id p =
    object (member (codes "app") (string p.app) (member (codes "id") (string id) (member (codes "memory") (count p.size.memory)
    (member (codes "node") (string p.node) (member (codes "tenant") (string p.tenant) (member (codes "vcores") (count p.size.vcores)
    (member (codes "what") (string (codes "master")) no_members)))))))

-- a container that was asked for, under this label and at this priority
abbrev pub asked_data : List ℕ → Container → Label → ℕ → Data
asked_data id p label priority =
    object (member (codes "app") (string p.app) (member (codes "id") (string id) (member (codes "label") (string (label_text label))
    (member (codes "memory") (count p.size.memory) (member (codes "node") (string p.node) (member (codes "priority") (count priority)
    (member (codes "tenant") (string p.tenant) (member (codes "vcores") (count p.size.vcores)
    (member (codes "what") (string (codes "ask")) no_members)))))))))

-- a container, by what it is for; its id is told as a text
abbrev pub placed_by : What → Container → Data
placed_by Master p = master_data (id_text p.id) p
placed_by (Asked label priority) p = asked_data (id_text p.id) p label priority

-- a container
abbrev pub placed_data : Container → Data
placed_data p = placed_by p.what p

-- a proposal of a master
abbrev pub master_proposal : Proposal → Data
master_proposal p =
    object (member (codes "app") (string p.app) (member (codes "memory") (count p.size.memory) (member (codes "node") (string p.node)
    (member (codes "stamp") (count p.stamp) (member (codes "tenant") (string p.tenant) (member (codes "vcores") (count p.size.vcores)
    (member (codes "what") (string (codes "master")) no_members)))))))

-- a proposal of a container that was asked for
abbrev pub asked_proposal : Proposal → Label → ℕ → Data
asked_proposal p label priority =
    object (member (codes "app") (string p.app) (member (codes "label") (string (label_text label)) (member (codes "memory") (count p.size.memory)
    (member (codes "node") (string p.node) (member (codes "priority") (count priority) (member (codes "stamp") (count p.stamp)
    (member (codes "tenant") (string p.tenant) (member (codes "vcores") (count p.size.vcores)
    (member (codes "what") (string (codes "ask")) no_members)))))))))

-- a proposal, by what it is for
abbrev pub proposal_by : What → Proposal → Data
proposal_by Master p = master_proposal p
proposal_by (Asked label priority) p = asked_proposal p label priority

-- a proposal
abbrev pub proposal_data : Proposal → Data
proposal_data p = proposal_by p.what p

-- what is still asked for
abbrev pub pending_data : Pending → Data
pending_data p =
    object (member (codes "count") (count p.count) (member (codes "memory") (count p.size.memory) (member (codes "priority") (count p.priority)
    (member (codes "vcores") (count p.size.vcores) no_members))))

-- ---- replies

-- a reply that is a word alone
abbrev pub word_data : List ℕ → Data
word_data w = object (member (codes "reply") (string w) no_members)

-- the reply to an event that was refused, with the word for why
abbrev pub refused_data : Refusal → Data
refused_data r = object (member (codes "refused") (string (word r)) (member (codes "reply") (string (codes "refused")) no_members))

-- the reply to a propose: the proposal, or that there is nothing to place
abbrev pub proposed_data : Option Proposal → Data
proposed_data None = word_data (codes "nothing")
proposed_data (Some p) = object (member (codes "proposal") (proposal_data p) (member (codes "reply") (string (codes "proposal")) no_members))

-- the reply to a poll: what is still asked for, and the containers that are held
abbrev pub held_data : List Container → List Pending → Data
held_data containers asks =
    object (member (codes "asks") (array (items_of (map pending_data asks))) (member (codes "containers") (array (items_of (map placed_data containers)))
    (member (codes "reply") (string (codes "held")) no_members)))

-- the reply to a usage: what the queue uses of the partition, is guaranteed and may use there, and what its masters and its guests use
abbrev pub usage_data : Resource → Resource → Resource → Resource → Resource → Data
usage_data used guaranteed maximum masters guests =
    object (member (codes "guaranteed") (amount_data guaranteed) (member (codes "guests") (amount_data guests) (member (codes "masters") (amount_data masters)
    (member (codes "maximum") (amount_data maximum) (member (codes "reply") (string (codes "usage")) (member (codes "used") (amount_data used) no_members))))))

-- the reply to a heartbeat: the containers that were placed, in their order
abbrev pub placed_reply : List Container → Data
placed_reply ps = object (member (codes "placed") (array (items_of (map placed_data ps))) (member (codes "reply") (string (codes "placed")) no_members))

-- the reply to a commit: the container that its proposal became
abbrev pub committed_reply : Container → Data
committed_reply p = object (member (codes "container") (placed_data p) (member (codes "reply") (string (codes "committed")) no_members))

-- a reply
abbrev pub reply_data : Reply → Data
reply_data Done = word_data (codes "done")
reply_data (Refused r) = refused_data r
reply_data (Placed ps) = placed_reply ps
reply_data (Proposed p) = proposed_data p
reply_data (Committed p) = committed_reply p
reply_data (Held containers asks) = held_data containers asks
reply_data (Usage used guaranteed maximum masters guests) = usage_data used guaranteed maximum masters guests

-- the text of a reply, without the newline of its line
abbrev pub reply_text : Reply → List ℕ
reply_text r = compact_text (reply_data r)

-- ---- events

-- these are the events of each kind: under each key what the event names, and under `event` the word of its kind
abbrev pub register_data : Name → Label → Resource → Data
register_data node label size =
    object (member (codes "event") (string (codes "register")) (member (codes "label") (string (label_text label)) (member (codes "memory") (count size.memory)
    (member (codes "node") (string node) (member (codes "vcores") (count size.vcores) no_members)))))

-- an event that names nothing but a node, by its word
abbrev pub node_object : List ℕ → Name → Data
node_object w node = object (member (codes "event") (string w) (member (codes "node") (string node) no_members))

abbrev pub lost_data : Name → Data
lost_data node = node_object (codes "lost") node

abbrev pub relabel_data : Name → Label → Data
relabel_data node label =
    object (member (codes "event") (string (codes "relabel")) (member (codes "label") (string (label_text label)) (member (codes "node") (string node) no_members)))

abbrev pub heartbeat_data : Name → Data
heartbeat_data node = node_object (codes "heartbeat") node

-- a container that exited, by the texts of its id and its node
abbrev pub exited_object : List ℕ → List ℕ → Data
exited_object id node =
    object (member (codes "event") (string (codes "exited")) (member (codes "id") (string id) (member (codes "node") (string node) no_members)))

abbrev pub exited_data : Name → Id → Data
exited_data node id = exited_object (id_text id) node

-- the members of a submit without its label
abbrev pub submit_members : List ℕ → Name → Name → Resource → Members
submit_members queue app user master =
    member (codes "app") (string app) (member (codes "event") (string (codes "submit")) (member (codes "memory") (count master.memory)
    (member (codes "queue") (string queue) (member (codes "user") (string user) (member (codes "vcores") (count master.vcores) no_members)))))

-- a submit, whose label may be absent
abbrev pub submit_data : Path → Name → Name → Option Label → Resource → Data
submit_data queue app user None master = object (submit_members (path_text queue) app user master)
submit_data queue app user (Some label) master =
    object (put (codes "label") (string (label_text label)) (submit_members (path_text queue) app user master))

abbrev pub ask_data : Name → Name → Label → ℕ → ℕ → Resource → Data
ask_data tenant app label priority quantity size =
    object (member (codes "app") (string app) (member (codes "count") (count quantity) (member (codes "event") (string (codes "ask"))
    (member (codes "label") (string (label_text label)) (member (codes "memory") (count size.memory) (member (codes "priority") (count priority)
    (member (codes "tenant") (string tenant) (member (codes "vcores") (count size.vcores) no_members))))))))

-- a release of a container, by the texts of its id and its tenant
abbrev pub release_object : List ℕ → List ℕ → Data
release_object id tenant =
    object (member (codes "event") (string (codes "release")) (member (codes "id") (string id) (member (codes "tenant") (string tenant) no_members)))

abbrev pub release_data : Name → Id → Data
release_data tenant id = release_object (id_text id) tenant

abbrev pub finish_data : Name → Name → Data
finish_data tenant app =
    object (member (codes "app") (string app) (member (codes "event") (string (codes "finish")) (member (codes "tenant") (string tenant) no_members)))

-- an event that names nothing but a queue, by its word and the text of the path
abbrev pub queue_object : List ℕ → List ℕ → Data
queue_object w queue = object (member (codes "event") (string w) (member (codes "queue") (string queue) no_members))

abbrev pub stop_data : Path → Data
stop_data queue = queue_object (codes "stop") (path_text queue)

abbrev pub start_data : Path → Data
start_data queue = queue_object (codes "start") (path_text queue)

abbrev pub poll_data : Name → Name → Label → Data
poll_data tenant app label =
    object (member (codes "app") (string app) (member (codes "event") (string (codes "poll")) (member (codes "label") (string (label_text label))
    (member (codes "tenant") (string tenant) no_members))))

-- a question for a queue's use, by the texts of its path and the label
abbrev pub usage_event_object : List ℕ → List ℕ → Data
usage_event_object queue label =
    object (member (codes "event") (string (codes "usage")) (member (codes "label") (string label) (member (codes "queue") (string queue) no_members)))

abbrev pub usage_event_data : Path → Label → Data
usage_event_data queue label = usage_event_object (path_text queue) (label_text label)

abbrev pub propose_data : Name → Data
propose_data node = node_object (codes "propose") node

abbrev pub commit_data : Proposal → Data
commit_data p = object (member (codes "event") (string (codes "commit")) (member (codes "proposal") (proposal_data p) no_members))

-- a maximum that is set, in hundredths of a percent, by the texts of the queue's path and the label
abbrev pub maximum_object : List ℕ → List ℕ → ℕ → Data
maximum_object queue label maximum =
    object (member (codes "event") (string (codes "maximum")) (member (codes "label") (string label) (member (codes "maximum") (count maximum)
    (member (codes "queue") (string queue) no_members))))

abbrev pub maximum_data : Path → Label → ℕ → Data
maximum_data queue label maximum = maximum_object (path_text queue) (label_text label) maximum

-- an event
abbrev pub event_data : Event → Data
event_data (event.Register node label size) = register_data node label size
event_data (event.Lost node) = lost_data node
event_data (event.Relabel node label) = relabel_data node label
event_data (event.Heartbeat node) = heartbeat_data node
event_data (event.Exited node id) = exited_data node id
event_data (event.Submit queue app user label master) = submit_data queue app user label master
event_data (event.Ask tenant app label priority quantity size) = ask_data tenant app label priority quantity size
event_data (event.Release tenant id) = release_data tenant id
event_data (event.Finish tenant app) = finish_data tenant app
event_data (event.Stop queue) = stop_data queue
event_data (event.Start queue) = start_data queue
event_data (event.Poll tenant app label) = poll_data tenant app label
event_data (event.Usage queue label) = usage_event_data queue label
event_data (event.Propose node) = propose_data node
event_data (event.Commit proposal) = commit_data proposal
event_data (event.Maximum queue label maximum) = maximum_data queue label maximum

-- the text of an event, without the newline of its line
abbrev pub event_text : Event → List ℕ
event_text e = compact_text (event_data e)

-- ---- faults

-- the word that tells why a line is no event
abbrev pub fault_word : LineFault → List ℕ
fault_word fault.Size = codes "size"
fault_word fault.Syntax = codes "syntax"
fault_word fault.Event = codes "event"
fault_word fault.Field = codes "field"
fault_word fault.Name = codes "name"
fault_word fault.Range = codes "range"

-- the word that tells why an audit ends before its journal does
abbrev pub journal_fault_word : JournalFault → List ℕ
journal_fault_word journal_fault.Size = codes "size"
journal_fault_word journal_fault.Line = codes "line"
journal_fault_word journal_fault.Differs = codes "differs"

-- the word that tells a fault of an input
abbrev pub input_fault_word : InputFault → List ℕ
input_fault_word (Script f) = fault_word f
input_fault_word (Journal f) = journal_fault_word f

-- a fault and the number of its line
abbrev pub fault_data : InputFault → ℕ → Data
fault_data f line = object (member (codes "fault") (string (input_fault_word f)) (member (codes "line") (count line) no_members))

-- the text that tells a fault in a line, without its newline
abbrev pub fault_text : InputFault → ℕ → List ℕ
fault_text f line = compact_text (fault_data f line)

-- ---- audits

-- that a journal of so many entries passes its audit
abbrev pub audit_data : ℕ → Data
audit_data entries = object (member (codes "audit") (string (codes "ok")) (member (codes "entries") (count entries) no_members))

-- its text, without the newline of its line
abbrev pub audit_text : ℕ → List ℕ
audit_text entries = compact_text (audit_data entries)

-- ---- lines

-- an event, its place in a list and the reply to it, if there is one, where event and reply are values by now
abbrev pub line_object : ℕ → Data → Option Data → Data
line_object place event None = object (member (codes "event") event (member (codes "place") (count place) no_members))
line_object place event (Some reply) = object (member (codes "event") event (member (codes "place") (count place) (member (codes "reply") reply no_members)))

-- an entry, and its place in a list
abbrev pub line_data : ℕ → Entry → Data
line_data place e = line_object place (event_data e.event) (option_map reply_data e.reply)

-- its text, without the newline of its line
abbrev pub line_text : ℕ → Entry → List ℕ
line_text place e = compact_text (line_data place e)

-- what ends it behind its place: the reply, if there is one, and a brace
abbrev pub line_end : Option Reply → List ℕ
line_end None = codes "}"
line_end (Some reply) = codes ",\"reply\":" ++ (reply_text reply ++ codes "}")
