-- The event that a line is, or its first fault.
use Rattle.std.specs.Prelude.{◌≤◌, ℕ, List, Option, Some, None, option_map, option_and_then, Result, Ok, Err, codes, if◌then◌else◌}
use Rattle.std.specs.Str.{bytes_eq}
use Rattle.serde_json.specs.Data.{Data}
use Rattle.serde_json.specs.Find.{get, as_str}
use Rattle.ynl_resource.specs.declared.amounts.Resource.{Resource}
use Rattle.ynl_resource.specs.Amounts.{IsSize}
use Rattle.ynl_resource.specs.Ranges.{whole, most_clock, most_count, most_priority}
use Rattle.ynl_resource.specs.declared.names.Name.{Name}
use Rattle.ynl_resource.specs.declared.labels.Label.{Label}
use Rattle.ynl_resource.specs.declared.paths.Path.{Path}
use Rattle.ynl_resource.specs.declared.ids.Id.{Id}
use Rattle.ynl_model.specs.declared.events.Event.{Event}
use Rattle.ynl_model.specs.declared.events.Event.TheVariants.{Register, Lost, Relabel, Heartbeat, Exited, Submit, Ask, Release, Finish, Stop, Start, Poll, Usage, Propose, Commit, Maximum}
use Rattle.ynl_model.specs.declared.proposals.What.{What}
use Rattle.ynl_model.specs.declared.proposals.What.TheVariants.{Master, Ask as Asked}
use Rattle.ynl_model.specs.declared.proposals.Proposal.{Proposal}
use Rattle.ynl_lines.specs.declared.read.Kind.{Kind}
use Rattle.ynl_lines.specs.declared.read.Kind.TheVariants as kind
use Rattle.ynl_lines.specs.declared.faults.LineFault.{LineFault}
use Rattle.ynl_lines.specs.declared.faults.LineFault.TheVariants as fault
use Rattle.ynl_fields.specs.Reading.{reading, ◌>>=◌, or_fault, text_or, number_or, keys_or, name_or, label_or, path_or, id_or, size_or, within_or, HasClock}
pub use Rattle.ynl_fields.specs.Reading.{reading, ◌>>=◌, Gives, or_fault, HasClock}

-- ---- the fields

-- the string under a key, or else the fault `field`
abbrev pub text_at : List ℕ → Data → Result (List ℕ) LineFault
text_at key d = text_or fault.Field key d

-- the whole number under a key, or else the fault `field`
abbrev pub number_at : List ℕ → Data → Result ℕ LineFault
number_at key d = number_or fault.Field key d

-- An object has each key once, so with as many members as keys, and each key found, it has just those keys.
abbrev pub keys_are : ℕ → Data → Result (Unit {0}) LineFault
keys_are count d = keys_or fault.Field count d

-- these are the name, label, path or id that a text spells, or else the fault `name`
abbrev pub name_at : List ℕ → Result Name LineFault
name_at text = name_or fault.Name text

abbrev pub label_at : List ℕ → Result Label LineFault
label_at text = label_or fault.Name text

abbrev pub path_at : List ℕ → Result Path LineFault
path_at text = path_or fault.Name text

abbrev pub id_at : List ℕ → Result Id LineFault
id_at text = id_or fault.Name text

-- a size of so many MB and virtual cores, or else the fault `range`
abbrev pub size_at : ℕ → ℕ → Result Resource LineFault
size_at memory vcores = size_or fault.Range memory vcores

-- a number that is at most so large, or else the fault `range`
abbrev pub within : ℕ → ℕ → Result ℕ LineFault
within most n = within_or fault.Range most n

-- ---- the events: first all fields, then all names, then the range

-- a node that joins, with its label and size
unfoldable pub register_at : Data → Result Event LineFault
register_at d = do
  keys ← keys_are 5 d
  label ← text_at (codes "label") d
  memory ← number_at (codes "memory") d
  node ← text_at (codes "node") d
  vcores ← number_at (codes "vcores") d
  label' ← label_at label
  node' ← name_at node
  size ← size_at memory vcores
  Ok (Register node' label' size)

-- the node of an event that names nothing but a node
unfoldable pub node_at : Data → Result Name LineFault
node_at d = do
  keys ← keys_are 2 d
  node ← text_at (codes "node") d
  name_at node

-- a node that is lost
unfoldable pub lost_at : Data → Result Event LineFault
lost_at d = node_at d >>= λ node. Ok (Lost node)

-- a node that goes to the partition of another label
unfoldable pub relabel_at : Data → Result Event LineFault
relabel_at d = do
  keys ← keys_are 3 d
  label ← text_at (codes "label") d
  node ← text_at (codes "node") d
  label' ← label_at label
  node' ← name_at node
  Ok (Relabel node' label')

-- a node that is ready for more
unfoldable pub heartbeat_at : Data → Result Event LineFault
heartbeat_at d = node_at d >>= λ node. Ok (Heartbeat node)

-- a container that ended by itself, and the node that it was on
unfoldable pub exited_at : Data → Result Event LineFault
exited_at d = do
  keys ← keys_are 3 d
  id ← text_at (codes "id") d
  node ← text_at (codes "node") d
  id' ← id_at id
  node' ← name_at node
  Ok (Exited node' id')

-- a submit's label may be absent
unfoldable pub label_text_at : Data → Result (Option (List ℕ)) LineFault
label_text_at d = some_or_less (get (codes "label") d)
  where
    some_or_less : Option Data → Result (Option (List ℕ)) LineFault
    some_or_less None = keys_are 6 d >>= λ _. Ok None
    some_or_less (Some v) = keys_are 7 d >>= λ _. or_fault fault.Field (option_map Some (as_str v))

-- the label that a text spells, where there is a text
unfoldable pub optional_label_at : Option (List ℕ) → Result (Option Label) LineFault
optional_label_at None = Ok None
optional_label_at (Some text) = label_at text >>= λ l. Ok (Some l)

-- a submit, from what stands under its keys
abbrev pub submit_of : List ℕ → Option (List ℕ) → ℕ → List ℕ → List ℕ → ℕ → Result Event LineFault
submit_of app label memory queue user vcores = do
  app' ← name_at app
  label' ← optional_label_at label
  queue' ← path_at queue
  user' ← name_at user
  master ← size_at memory vcores
  Ok (Submit queue' app' user' label' master)

-- an application that comes to a queue, with its user and the size of its master, and perhaps a label
unfoldable pub submit_at : Data → Result Event LineFault
submit_at d = do
  label ← label_text_at d
  app ← text_at (codes "app") d
  memory ← number_at (codes "memory") d
  queue ← text_at (codes "queue") d
  user ← text_at (codes "user") d
  vcores ← number_at (codes "vcores") d
  submit_of app label memory queue user vcores

-- an ask, from what stands under its keys
abbrev pub ask_of : List ℕ → ℕ → List ℕ → ℕ → ℕ → List ℕ → ℕ → Result Event LineFault
ask_of app count label memory priority tenant vcores = do
  app' ← name_at app
  label' ← label_at label
  tenant' ← name_at tenant
  count' ← within most_count count
  priority' ← within most_priority priority
  size ← size_at memory vcores
  Ok (Ask tenant' app' label' priority' count' size)

-- an application that asks for so many containers of one size, at a priority and under a label
unfoldable pub ask_at : Data → Result Event LineFault
ask_at d = do
  keys ← keys_are 8 d
  app ← text_at (codes "app") d
  count ← number_at (codes "count") d
  label ← text_at (codes "label") d
  memory ← number_at (codes "memory") d
  priority ← number_at (codes "priority") d
  tenant ← text_at (codes "tenant") d
  vcores ← number_at (codes "vcores") d
  ask_of app count label memory priority tenant vcores

-- a container that its tenant gives back
unfoldable pub release_at : Data → Result Event LineFault
release_at d = do
  keys ← keys_are 3 d
  id ← text_at (codes "id") d
  tenant ← text_at (codes "tenant") d
  id' ← id_at id
  tenant' ← name_at tenant
  Ok (Release tenant' id')

-- a tenant's application that is finished
unfoldable pub finish_at : Data → Result Event LineFault
finish_at d = do
  keys ← keys_are 3 d
  app ← text_at (codes "app") d
  tenant ← text_at (codes "tenant") d
  app' ← name_at app
  tenant' ← name_at tenant
  Ok (Finish tenant' app')

-- the queue of an event that names nothing but a queue
unfoldable pub queue_at : Data → Result Path LineFault
queue_at d = do
  keys ← keys_are 2 d
  queue ← text_at (codes "queue") d
  path_at queue

-- a queue that takes no new applications any more
unfoldable pub stop_at : Data → Result Event LineFault
stop_at d = queue_at d >>= λ queue. Ok (Stop queue)

-- a stopped queue that takes applications again
unfoldable pub start_at : Data → Result Event LineFault
start_at d = queue_at d >>= λ queue. Ok (Start queue)

-- the question what an application holds on a partition, and still asks for
unfoldable pub poll_at : Data → Result Event LineFault
poll_at d = do
  keys ← keys_are 4 d
  app ← text_at (codes "app") d
  label ← text_at (codes "label") d
  tenant ← text_at (codes "tenant") d
  app' ← name_at app
  label' ← label_at label
  tenant' ← name_at tenant
  Ok (Poll tenant' app' label')

-- the question what a queue uses of a partition
unfoldable pub usage_at : Data → Result Event LineFault
usage_at d = do
  keys ← keys_are 3 d
  label ← text_at (codes "label") d
  queue ← text_at (codes "queue") d
  label' ← label_at label
  queue' ← path_at queue
  Ok (Usage queue' label')

-- the question what would be placed on a node
unfoldable pub propose_at : Data → Result Event LineFault
propose_at d = node_at d >>= λ node. Ok (Propose node)

-- the label's text and the priority of what was asked for
abbrev pub asked_at : Data → Result (Option (List ℕ × ℕ)) LineFault
asked_at d = do
  keys ← keys_are 9 d
  label ← text_at (codes "label") d
  priority ← number_at (codes "priority") d
  Ok (Some (label, priority))

-- what a proposal is for: nothing more of a master, and the label's text and the priority of what was asked for
abbrev pub wanted_by : List ℕ → Data → Result (Option (List ℕ × ℕ)) LineFault
wanted_by word d =
    if bytes_eq word (codes "master") then (keys_are 7 d >>= λ _. Ok None)
    else if bytes_eq word (codes "ask") then asked_at d
    else Err fault.Field

-- the same, from the word under `what`
unfoldable pub wanted_at : Data → Result (Option (List ℕ × ℕ)) LineFault
wanted_at d = text_at (codes "what") d >>= λ word. wanted_by word d

-- the same, where its label is a label
unfoldable pub wanted_label_at : Option (List ℕ × ℕ) → Result (Option (Label × ℕ)) LineFault
wanted_label_at None = Ok None
wanted_label_at (Some wanted) = label_at wanted.0 >>= λ l. Ok (Some (l, wanted.1))

-- the same, where its priority is in range
unfoldable pub what_at : Option (Label × ℕ) → Result What LineFault
what_at None = Ok Master
what_at (Some wanted) = within most_priority wanted.1 >>= λ p. Ok (Asked wanted.0 p)

-- a proposal, from what stands under its keys
abbrev pub proposal_of : Option (List ℕ × ℕ) → List ℕ → ℕ → List ℕ → ℕ → List ℕ → ℕ → Result Proposal LineFault
proposal_of wanted app memory node stamp tenant vcores = do
  app' ← name_at app
  wanted' ← wanted_label_at wanted
  node' ← name_at node
  tenant' ← name_at tenant
  what ← what_at wanted'
  stamp' ← within most_clock stamp
  size ← size_at memory vcores
  Ok (record { node = node'; stamp = stamp'; tenant = tenant'; app = app'; what = what; size = size })

-- a proposal: the object under a commit's key, read in the same order as an event
unfoldable pub proposal_at : Data → Result Proposal LineFault
proposal_at d = do
  wanted ← wanted_at d
  app ← text_at (codes "app") d
  memory ← number_at (codes "memory") d
  node ← text_at (codes "node") d
  stamp ← number_at (codes "stamp") d
  tenant ← text_at (codes "tenant") d
  vcores ← number_at (codes "vcores") d
  proposal_of wanted app memory node stamp tenant vcores

-- a proposal that is to be placed
unfoldable pub commit_at : Data → Result Event LineFault
commit_at d = do
  keys ← keys_are 2 d
  proposal ← or_fault fault.Field (get (codes "proposal") d)
  proposal' ← proposal_at proposal
  Ok (Commit proposal')

-- a queue's maximum on a partition that is set, in hundredths of a percent, of which it is at most the whole
unfoldable pub maximum_at : Data → Result Event LineFault
maximum_at d = do
  keys ← keys_are 4 d
  label ← text_at (codes "label") d
  maximum ← number_at (codes "maximum") d
  queue ← text_at (codes "queue") d
  label' ← label_at label
  queue' ← path_at queue
  maximum' ← within whole maximum
  Ok (Maximum queue' label' maximum')

-- the event that a word names, if it is a known one
abbrev pub kind_of : List ℕ → Option Kind
kind_of word =
    if bytes_eq word (codes "register") then Some kind.Register
    else if bytes_eq word (codes "lost") then Some kind.Lost
    else if bytes_eq word (codes "relabel") then Some kind.Relabel
    else if bytes_eq word (codes "heartbeat") then Some kind.Heartbeat
    else if bytes_eq word (codes "exited") then Some kind.Exited
    else if bytes_eq word (codes "submit") then Some kind.Submit
    else if bytes_eq word (codes "ask") then Some kind.Ask
    else if bytes_eq word (codes "release") then Some kind.Release
    else if bytes_eq word (codes "finish") then Some kind.Finish
    else if bytes_eq word (codes "stop") then Some kind.Stop
    else if bytes_eq word (codes "start") then Some kind.Start
    else if bytes_eq word (codes "poll") then Some kind.Poll
    else if bytes_eq word (codes "usage") then Some kind.Usage
    else if bytes_eq word (codes "propose") then Some kind.Propose
    else if bytes_eq word (codes "commit") then Some kind.Commit
    else if bytes_eq word (codes "maximum") then Some kind.Maximum
    else None

-- the event of a kind, from the fields that this kind has
abbrev pub event_by : Kind → Data → Result Event LineFault
event_by kind.Register d = register_at d
event_by kind.Lost d = lost_at d
event_by kind.Relabel d = relabel_at d
event_by kind.Heartbeat d = heartbeat_at d
event_by kind.Exited d = exited_at d
event_by kind.Submit d = submit_at d
event_by kind.Ask d = ask_at d
event_by kind.Release d = release_at d
event_by kind.Finish d = finish_at d
event_by kind.Stop d = stop_at d
event_by kind.Start d = start_at d
event_by kind.Poll d = poll_at d
event_by kind.Usage d = usage_at d
event_by kind.Propose d = propose_at d
event_by kind.Commit d = commit_at d
event_by kind.Maximum d = maximum_at d

-- the event of an object: its kind is the word under `event`, and with no such word the fault is `event`
unfoldable pub event_at : Data → Result Event LineFault
event_at d = do
  word ← or_fault fault.Event (option_and_then as_str (get (codes "event") d))
  kind ← or_fault fault.Event (kind_of word)
  event_by kind d

-- the event of a line, or its first fault
abbrev pub event_of_line : List ℕ → Result Event LineFault
event_of_line bytes = or_fault fault.Syntax (reading bytes) >>= event_at

-- an ask's numbers are in range, but for those of its size
abbrev pub HasAskNumbers : ℕ → ℕ → Type 0
HasAskNumbers priority count = (priority ≤ most_priority) × (count ≤ most_count)

-- the priority of what is wanted is in range
abbrev pub HasPriority : What → Type 0
HasPriority Master = Unit {0}
HasPriority (Asked label priority) = priority ≤ most_priority

-- a proposal's numbers are in range, but for those of its size
abbrev pub HasProposalNumbers : Proposal → Type 0
HasProposalNumbers p = HasPriority p.what × (p.stamp ≤ most_clock)

-- the numbers of an event are in range, but for those of a size and of a share, which always are
abbrev pub IsInRange : Event → Type 0
IsInRange (Exited node id) = HasClock id
IsInRange (Ask tenant app label priority count size) = HasAskNumbers priority count
IsInRange (Release tenant id) = HasClock id
IsInRange (Commit proposal) = HasProposalNumbers proposal
IsInRange _ = Unit {0}

-- the sizes and shares that an event names are in range, and so are its other numbers
abbrev pub IsRanged : Event → Type 0
IsRanged (Register node label size) = IsSize size
IsRanged (Submit queue app user label master) = IsSize master
IsRanged (Ask tenant app label priority count size) = IsSize size × HasAskNumbers priority count
IsRanged (Commit proposal) = IsSize proposal.size × HasProposalNumbers proposal
IsRanged (Maximum queue label maximum) = maximum ≤ whole
IsRanged event = IsInRange event
