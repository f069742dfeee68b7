-- The lines of a saved state: the text of each, and the line that bytes are, or its first fault.
use Rattle.std.specs.Prelude.{◌≤◌, ℕ, List, Bool, true, false, ◌&&◌, not, nat_le, nat_eq, Option, Some, None, option_and_then, Result, Ok, Err, codes, if◌then◌else◌}
use Rattle.std.specs.Str.{bytes_eq}
use Rattle.serde_json.specs.Data.{Data, object, string, member, no_members}
use Rattle.serde_json.specs.Find.{get, as_str}
use Rattle.serde_json.specs.Written.{compact_text}
use Rattle.ynl_resource.specs.declared.amounts.Resource.{Resource}
use Rattle.ynl_resource.specs.Amounts.{IsSize}
use Rattle.ynl_resource.specs.Ranges.{whole, most_clock, most_count, most_priority}
use Rattle.ynl_resource.specs.declared.names.Name.{Name}
use Rattle.ynl_resource.specs.declared.labels.Label.{Label}
use Rattle.ynl_resource.specs.declared.paths.Path.{Path}
use Rattle.ynl_resource.specs.declared.ids.Id.{Id}
use Rattle.ynl_resource.specs.Texts.{label_text, path_text, id_text}
use Rattle.ynl_model.specs.declared.proposals.What.{What}
use Rattle.ynl_model.specs.declared.proposals.What.TheVariants.{Master, Ask as Asked}
use Rattle.ynl_model.specs.declared.containers.Placed.{Placed as Container}
use Rattle.ynl_model.specs.declared.nodes.Node.{Node as NodeRow}
use Rattle.ynl_model.specs.declared.applications.AskRow.{AskRow}
use Rattle.ynl_fields.specs.Reading.{reading, ◌>>=◌, or_fault, text_or, number_or, keys_or, name_or, label_or, path_or, id_or, size_or, within_or, HasClock}
use Rattle.ynl_fields.specs.Writing.{count}
use Rattle.ynl_saved_text.specs.declared.faults.StateFault.{StateFault}
use Rattle.ynl_saved_text.specs.declared.faults.StateFault.TheVariants as fault
use Rattle.ynl_saved_text.specs.declared.kinds.StateKind.{StateKind}
use Rattle.ynl_saved_text.specs.declared.kinds.StateKind.TheVariants as kind
use Rattle.ynl_saved.specs.declared.lines.StateLine.{StateLine}
use Rattle.ynl_saved.specs.declared.lines.StateLine.TheVariants.{Begin, Partition, Node, Live, Ask, Finished, Container as Holds, Stopped, Maximum, End}

-- the word that tells why a text is no state
abbrev pub fault_word : StateFault → List ℕ
fault_word fault.Size = codes "size"
fault_word fault.Syntax = codes "syntax"
fault_word fault.Kind = codes "kind"
fault_word fault.Field = codes "field"
fault_word fault.Name = codes "name"
fault_word fault.Range = codes "range"
fault_word fault.Unsound = codes "unsound"
fault_word fault.Cut = codes "cut"

-- ---- the texts: objects in the compact form, the keys in byte order

-- the version of all texts
abbrev pub version : ℕ
version = 1

-- these are the objects of each kind: under each key what the line tells, and under `state` the word of its kind
abbrev pub begin_data : Data
begin_data = object (member (codes "state") (string (codes "begin")) (member (codes "version") (count version) no_members))

abbrev pub partition_data : Label → ℕ → Data
partition_data label clock =
    object (member (codes "clock") (count clock) (member (codes "label") (string (label_text label)) (member (codes "state") (string (codes "partition")) no_members)))

abbrev pub node_data : NodeRow → Data
node_data n =
    object (member (codes "label") (string (label_text n.label)) (member (codes "memory") (count n.size.memory) (member (codes "node") (string n.name)
    (member (codes "stamp") (count n.stamp) (member (codes "state") (string (codes "node")) (member (codes "vcores") (count n.size.vcores) no_members))))))

abbrev pub live_data : Path → Name → Name → Label → Resource → Data
live_data queue app user label master =
    object (member (codes "app") (string app) (member (codes "label") (string (label_text label)) (member (codes "memory") (count master.memory)
    (member (codes "queue") (string (path_text queue)) (member (codes "state") (string (codes "live")) (member (codes "user") (string user)
    (member (codes "vcores") (count master.vcores) no_members)))))))

abbrev pub ask_data : Name → Name → AskRow → Data
ask_data tenant app ask =
    object (member (codes "app") (string app) (member (codes "count") (count ask.count) (member (codes "label") (string (label_text ask.label))
    (member (codes "memory") (count ask.size.memory) (member (codes "priority") (count ask.priority) (member (codes "state") (string (codes "ask"))
    (member (codes "tenant") (string tenant) (member (codes "vcores") (count ask.size.vcores) no_members))))))))

abbrev pub finished_data : Path → Name → Data
finished_data queue app =
    object (member (codes "app") (string app) (member (codes "queue") (string (path_text queue)) (member (codes "state") (string (codes "finished")) no_members)))

-- a container that is a master
abbrev pub master_data : Container → Data
master_data p =
    object (member (codes "app") (string p.app) (member (codes "id") (string (id_text p.id)) (member (codes "memory") (count p.size.memory)
    (member (codes "node") (string p.node) (member (codes "state") (string (codes "container")) (member (codes "tenant") (string p.tenant)
    (member (codes "vcores") (count p.size.vcores) (member (codes "what") (string (codes "master")) no_members))))))))

-- a container that was asked for, under this label and at this priority
abbrev pub asked_data : Container → Label → ℕ → Data
asked_data p label priority =
    object (member (codes "app") (string p.app) (member (codes "id") (string (id_text p.id)) (member (codes "label") (string (label_text label))
    (member (codes "memory") (count p.size.memory) (member (codes "node") (string p.node) (member (codes "priority") (count priority)
    (member (codes "state") (string (codes "container")) (member (codes "tenant") (string p.tenant) (member (codes "vcores") (count p.size.vcores)
    (member (codes "what") (string (codes "ask")) no_members))))))))))

-- a container, by what it is for
abbrev pub container_by : What → Container → Data
container_by Master p = master_data p
container_by (Asked label priority) p = asked_data p label priority

abbrev pub stopped_data : Path → Data
stopped_data queue = object (member (codes "queue") (string (path_text queue)) (member (codes "state") (string (codes "stopped")) no_members))

abbrev pub maximum_data : Path → Label → ℕ → Data
maximum_data queue label maximum =
    object (member (codes "label") (string (label_text label)) (member (codes "maximum") (count maximum) (member (codes "queue") (string (path_text queue))
    (member (codes "state") (string (codes "maximum")) no_members))))

abbrev pub end_data : ℕ → Data
end_data lines = object (member (codes "lines") (count lines) (member (codes "state") (string (codes "end")) no_members))

-- a line
abbrev pub line_data : StateLine → Data
line_data Begin = begin_data
line_data (Partition label clock) = partition_data label clock
line_data (Node n) = node_data n
line_data (Live queue app user label master) = live_data queue app user label master
line_data (Ask tenant app ask) = ask_data tenant app ask
line_data (Finished queue app) = finished_data queue app
line_data (Holds p) = container_by p.what p
line_data (Stopped queue) = stopped_data queue
line_data (Maximum queue label maximum) = maximum_data queue label maximum
line_data (End lines) = end_data lines

-- the text of a line, without its newline
abbrev pub state_line : StateLine → List ℕ
state_line line = compact_text (line_data line)

-- ---- the order of the lines

-- the kind of a line
abbrev pub kind_of_line : StateLine → StateKind
kind_of_line Begin = kind.Begin
kind_of_line (Partition label clock) = kind.Partition
kind_of_line (Node n) = kind.Node
kind_of_line (Live queue app user label master) = kind.Live
kind_of_line (Ask tenant app ask) = kind.Ask
kind_of_line (Finished queue app) = kind.Finished
kind_of_line (Holds p) = kind.Container
kind_of_line (Stopped queue) = kind.Stopped
kind_of_line (Maximum queue label maximum) = kind.Maximum
kind_of_line (End lines) = kind.End

-- the place of a kind in the order, in which live, ask and finished are as one
abbrev pub rank : StateKind → ℕ
rank kind.Begin = 0
rank kind.Partition = 1
rank kind.Node = 2
rank kind.Live = 3
rank kind.Ask = 3
rank kind.Finished = 3
rank kind.Container = 4
rank kind.Stopped = 5
rank kind.Maximum = 6
rank kind.End = 7

abbrev pub is_begin : StateKind → Bool
is_begin kind.Begin = true
is_begin _ = false

abbrev pub is_end : StateKind → Bool
is_end kind.End = true
is_end _ = false

-- `begin` is the first line and no other, none stands behind `end`, and none behind one of a later kind
abbrev pub may_follow : Option StateKind → StateKind → Bool
may_follow None next = is_begin next
may_follow (Some before) next = not (is_begin next) && not (is_end before) && nat_le (rank before) (rank next)

-- ---- the fields

-- the string under a key, or else the fault `field`
abbrev pub text_at : List ℕ → Data → Result (List ℕ) StateFault
text_at key d = text_or fault.Field key d

-- the whole number under a key, or else the fault `field`
abbrev pub number_at : List ℕ → Data → Result ℕ StateFault
number_at key d = number_or fault.Field key d

-- an object with so many members, or else the fault `field`
abbrev pub keys_are : ℕ → Data → Result (Unit {0}) StateFault
keys_are count d = keys_or fault.Field count d

-- these are the name, label, path or id that a text spells, or else the fault `name`
abbrev pub name_at : List ℕ → Result Name StateFault
name_at text = name_or fault.Name text

abbrev pub label_at : List ℕ → Result Label StateFault
label_at text = label_or fault.Name text

abbrev pub path_at : List ℕ → Result Path StateFault
path_at text = path_or fault.Name text

abbrev pub id_at : List ℕ → Result Id StateFault
id_at text = id_or fault.Name text

-- a size of so many MB and virtual cores, or else the fault `range`
abbrev pub size_at : ℕ → ℕ → Result Resource StateFault
size_at memory vcores = size_or fault.Range memory vcores

-- a number that is at most so large, or else the fault `range`
abbrev pub within : ℕ → ℕ → Result ℕ StateFault
within most n = within_or fault.Range most n

-- ---- the lines of each kind: first all fields, then all names, then the range

-- the version, or else the fault `range`
unfoldable pub version_at : ℕ → Result (Unit {0}) StateFault
version_at n = if nat_eq n version then Ok tt else Err fault.Range

-- the first line, which tells the version alone
unfoldable pub begin_at : Data → Result StateLine StateFault
begin_at d = do
  keys ← keys_are 2 d
  number ← number_at (codes "version") d
  known ← version_at number
  Ok Begin

-- a partition's clock
unfoldable pub partition_at : Data → Result StateLine StateFault
partition_at d = do
  keys ← keys_are 3 d
  clock ← number_at (codes "clock") d
  label ← text_at (codes "label") d
  label' ← label_at label
  clock' ← within most_clock clock
  Ok (Partition label' clock')

-- a node, from what stands under its keys, texts and numbers: the first fault in the names and then in the ranges, or the line
abbrev pub node_of : List ℕ → ℕ → List ℕ → ℕ → ℕ → Result StateLine StateFault
node_of label memory node stamp vcores = do
  label' ← label_at label
  node' ← name_at node
  stamp' ← within most_clock stamp
  size ← size_at memory vcores
  Ok (Node (record { name = node'; label = label'; size = size; stamp = stamp' }))

-- a node, with its partition, its size and its stamp
unfoldable pub node_at : Data → Result StateLine StateFault
node_at d = do
  keys ← keys_are 6 d
  label ← text_at (codes "label") d
  memory ← number_at (codes "memory") d
  node ← text_at (codes "node") d
  stamp ← number_at (codes "stamp") d
  vcores ← number_at (codes "vcores") d
  node_of label memory node stamp vcores

-- a live application, in the same way
abbrev pub live_of : List ℕ → List ℕ → ℕ → List ℕ → List ℕ → ℕ → Result StateLine StateFault
live_of app label memory queue user vcores = do
  app' ← name_at app
  label' ← label_at label
  queue' ← path_at queue
  user' ← name_at user
  master ← size_at memory vcores
  Ok (Live queue' app' user' label' master)

-- a live application, with its home label and the size of its master
unfoldable pub live_at : Data → Result StateLine StateFault
live_at d = do
  keys ← keys_are 7 d
  app ← text_at (codes "app") d
  label ← text_at (codes "label") d
  memory ← number_at (codes "memory") d
  queue ← text_at (codes "queue") d
  user ← text_at (codes "user") d
  vcores ← number_at (codes "vcores") d
  live_of app label memory queue user vcores

-- an ask, in the same way
abbrev pub ask_of : List ℕ → ℕ → List ℕ → ℕ → ℕ → List ℕ → ℕ → Result StateLine StateFault
ask_of app count label memory priority tenant vcores = do
  app' ← name_at app
  label' ← label_at label
  tenant' ← name_at tenant
  count' ← within most_count count
  priority' ← within most_priority priority
  size ← size_at memory vcores
  Ok (Ask tenant' app' (record { label = label'; priority = priority'; count = count'; size = size }))

-- what an application asks for under a label and at a priority
unfoldable pub ask_at : Data → Result StateLine StateFault
ask_at d = do
  keys ← keys_are 8 d
  app ← text_at (codes "app") d
  count ← number_at (codes "count") d
  label ← text_at (codes "label") d
  memory ← number_at (codes "memory") d
  priority ← number_at (codes "priority") d
  tenant ← text_at (codes "tenant") d
  vcores ← number_at (codes "vcores") d
  ask_of app count label memory priority tenant vcores

-- a finished application
unfoldable pub finished_at : Data → Result StateLine StateFault
finished_at d = do
  keys ← keys_are 3 d
  app ← text_at (codes "app") d
  queue ← text_at (codes "queue") d
  app' ← name_at app
  queue' ← path_at queue
  Ok (Finished queue' app')

-- a container that is an ask's: its label and its priority
unfoldable pub asked_at : Data → Result (Option (List ℕ × ℕ)) StateFault
asked_at d = do
  keys ← keys_are 10 d
  label ← text_at (codes "label") d
  priority ← number_at (codes "priority") d
  Ok (Some (label, priority))

-- what a container is for: nothing more of a master, and the label's text and the priority of what was asked for
abbrev pub wanted_by : List ℕ → Data → Result (Option (List ℕ × ℕ)) StateFault
wanted_by word d =
    if bytes_eq word (codes "master") then (keys_are 8 d >>= λ _. Ok None)
    else if bytes_eq word (codes "ask") then asked_at d
    else Err fault.Field

-- the same, from the word under `what`
unfoldable pub wanted_at : Data → Result (Option (List ℕ × ℕ)) StateFault
wanted_at d = text_at (codes "what") d >>= λ word. wanted_by word d

-- the same, where its label is a label
unfoldable pub wanted_label_at : Option (List ℕ × ℕ) → Result (Option (Label × ℕ)) StateFault
wanted_label_at None = Ok None
wanted_label_at (Some wanted) = label_at wanted.0 >>= λ l. Ok (Some (l, wanted.1))

-- the same, where its priority is in range
unfoldable pub what_at : Option (Label × ℕ) → Result What StateFault
what_at None = Ok Master
what_at (Some wanted) = within most_priority wanted.1 >>= λ p. Ok (Asked wanted.0 p)

-- a container in the same way, where what is wanted is a label and a priority, or nothing of a master
abbrev pub container_of : Option (List ℕ × ℕ) → List ℕ → List ℕ → ℕ → List ℕ → List ℕ → ℕ → Result StateLine StateFault
container_of wanted app id memory node tenant vcores = do
  app' ← name_at app
  id' ← id_at id
  wanted' ← wanted_label_at wanted
  node' ← name_at node
  tenant' ← name_at tenant
  what ← what_at wanted'
  size ← size_at memory vcores
  Ok (Holds (record { id = id'; node = node'; tenant = tenant'; app = app'; what = what; size = size }))

-- the same, from the keys that a container has whatever it is for
abbrev pub container_with : Data → Option (List ℕ × ℕ) → Result StateLine StateFault
container_with d wanted = do
  app ← text_at (codes "app") d
  id ← text_at (codes "id") d
  memory ← number_at (codes "memory") d
  node ← text_at (codes "node") d
  tenant ← text_at (codes "tenant") d
  vcores ← number_at (codes "vcores") d
  container_of wanted app id memory node tenant vcores

-- a container that was asked for
abbrev pub asked_container : Data → Result StateLine StateFault
asked_container d = asked_at d >>= container_with d

-- a container on a node
unfoldable pub container_at : Data → Result StateLine StateFault
container_at d = wanted_at d >>= container_with d

-- a queue that is stopped
unfoldable pub stopped_at : Data → Result StateLine StateFault
stopped_at d = do
  keys ← keys_are 2 d
  queue ← text_at (codes "queue") d
  queue' ← path_at queue
  Ok (Stopped queue')

-- a queue's maximum on a partition, in hundredths of a percent
unfoldable pub maximum_at : Data → Result StateLine StateFault
maximum_at d = do
  keys ← keys_are 4 d
  label ← text_at (codes "label") d
  maximum ← number_at (codes "maximum") d
  queue ← text_at (codes "queue") d
  label' ← label_at label
  queue' ← path_at queue
  maximum' ← within whole maximum
  Ok (Maximum queue' label' maximum')

-- how many lines stand before the last
unfoldable pub end_at : Data → Result StateLine StateFault
end_at d = do
  keys ← keys_are 2 d
  lines ← number_at (codes "lines") d
  Ok (End lines)

-- ---- lines

-- the kind that a word names, if it is a known one
abbrev pub kind_of : List ℕ → Option StateKind
kind_of word =
    if bytes_eq word (codes "begin") then Some kind.Begin
    else if bytes_eq word (codes "partition") then Some kind.Partition
    else if bytes_eq word (codes "node") then Some kind.Node
    else if bytes_eq word (codes "live") then Some kind.Live
    else if bytes_eq word (codes "ask") then Some kind.Ask
    else if bytes_eq word (codes "finished") then Some kind.Finished
    else if bytes_eq word (codes "container") then Some kind.Container
    else if bytes_eq word (codes "stopped") then Some kind.Stopped
    else if bytes_eq word (codes "maximum") then Some kind.Maximum
    else if bytes_eq word (codes "end") then Some kind.End
    else None

-- the line of a kind, from the fields that this kind has
abbrev pub line_by : StateKind → Data → Result StateLine StateFault
line_by kind.Begin d = begin_at d
line_by kind.Partition d = partition_at d
line_by kind.Node d = node_at d
line_by kind.Live d = live_at d
line_by kind.Ask d = ask_at d
line_by kind.Finished d = finished_at d
line_by kind.Container d = container_at d
line_by kind.Stopped d = stopped_at d
line_by kind.Maximum d = maximum_at d
line_by kind.End d = end_at d

-- a kind, where it is in order, or else the fault `kind`
unfoldable pub in_order : Option StateKind → StateKind → Result StateKind StateFault
in_order before next = if may_follow before next then Ok next else Err fault.Kind

-- the line of an object behind a line of this kind, or as the first: its kind is the word under `state`
unfoldable pub line_at : Option StateKind → Data → Result StateLine StateFault
line_at before d = do
  word ← or_fault fault.Kind (option_and_then as_str (get (codes "state") d))
  next ← or_fault fault.Kind (kind_of word)
  kind ← in_order before next
  line_by kind d

-- the line that bytes are behind a line of this kind, or as the first, or else its first fault
abbrev pub line_behind : Option StateKind → List ℕ → Result StateLine StateFault
line_behind before bytes = or_fault fault.Syntax (reading bytes) >>= line_at before

-- ---- numbers and names

-- the priority of what a container is for is in range
abbrev pub HasPriority : What → Type 0
HasPriority Master = Unit {0}
HasPriority (Asked label priority) = priority ≤ most_priority

-- of the numbers of a line those that their types leave open are in range: clocks, stamps, the clocks of ids, and how many an ask asks for
abbrev pub IsClocked : StateLine → Type 0
IsClocked (Partition label clock) = clock ≤ most_clock
IsClocked (Node n) = n.stamp ≤ most_clock
IsClocked (Ask tenant app ask) = ask.count ≤ most_count
IsClocked (Holds p) = HasClock p.id
IsClocked _ = Unit {0}

-- the numbers of a line are in range, but for those of a size and of a share, which always are
abbrev pub IsInRange : StateLine → Type 0
IsInRange (Partition label clock) = clock ≤ most_clock
IsInRange (Node n) = n.stamp ≤ most_clock
IsInRange (Ask tenant app ask) = (ask.priority ≤ most_priority) × (ask.count ≤ most_count)
IsInRange (Holds p) = HasClock p.id × HasPriority p.what
IsInRange _ = Unit {0}

-- the sizes and shares that a line tells are in range, and so are its other numbers
abbrev pub IsRanged : StateLine → Type 0
IsRanged (Node n) = IsSize n.size × (n.stamp ≤ most_clock)
IsRanged (Live queue app user label master) = IsSize master
IsRanged (Ask tenant app ask) = IsSize ask.size × ((ask.priority ≤ most_priority) × (ask.count ≤ most_count))
IsRanged (Holds p) = IsSize p.size × (HasClock p.id × HasPriority p.what)
IsRanged (Maximum queue label maximum) = maximum ≤ whole
IsRanged line = IsInRange line
