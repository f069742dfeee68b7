-- The reply that an object is, and what a line of a journal says: an event, its place and its reply.
-- Such a line is good or bad; which fault a definition here gives is not told.
use Rattle.std.specs.Prelude.{◌^◌, All, IfSome, ℕ, List, [], ◌∷◌, Option, Some, None, option_and_then, Result, Ok, Err, codes, if◌then◌else◌}
use Rattle.std.specs.Str.{bytes_eq}
use Rattle.serde_json.specs.Data.{Data, Items, no_items, item}
use Rattle.serde_json.specs.Find.{get, as_array}
use Rattle.ynl_resource.specs.declared.amounts.Resource.{Resource}
use Rattle.ynl_resource.specs.declared.names.Name.{Name}
use Rattle.ynl_resource.specs.declared.ids.Id.{Id}
use Rattle.ynl_resource.specs.Ranges.{most_count, most_priority}
use Rattle.ynl_resource.specs.Amounts.{amount, IsSmall}
use Rattle.ynl_resource.specs.RefusalWords.{refusal_of}
use Rattle.ynl_model.specs.declared.containers.Placed.{Placed as Container}
use Rattle.ynl_model.specs.declared.proposals.What.{What}
use Rattle.ynl_model.specs.declared.proposals.Proposal.{Proposal}
use Rattle.ynl_model.specs.declared.replies.Pending.{Pending}
use Rattle.ynl_model.specs.declared.replies.Reply.{Reply}
use Rattle.ynl_model.specs.declared.replies.Reply.TheVariants.{Done, Refused, Placed, Proposed, Committed, Held, Usage}
use Rattle.ynl_model.specs.declared.events.Event.{Event}
use Rattle.ynl_model.specs.declared.events.Event.TheVariants.{Propose}
use Rattle.ynl_model.specs.declared.entries.Entry.{Entry}
use Rattle.ynl_lines.specs.declared.faults.LineFault.{LineFault}
use Rattle.ynl_lines.specs.declared.faults.LineFault.TheVariants as fault
use Rattle.ynl_lines.specs.declared.faults.BadLine.{BadLine}
use Rattle.ynl_lines.specs.declared.read_replies.ReplyKind.{ReplyKind}
use Rattle.ynl_lines.specs.declared.read_replies.ReplyKind.TheVariants as kind
use Rattle.ynl_lines.specs.Reading.{reading, ◌>>=◌, or_fault, text_at, number_at, keys_are, name_at, id_at, size_at, within, wanted_at, wanted_label_at, what_at, proposal_at, event_at, HasClock, HasPriority, HasAskNumbers, HasProposalNumbers, IsInRange, IsRanged}

-- ---- what stands in several objects

-- the name that is under a key
unfoldable pub name_under : List ℕ → Data → Result Name LineFault
name_under key d = text_at key d >>= name_at

-- the id that is under a key
unfoldable pub id_under : List ℕ → Data → Result Id LineFault
id_under key d = text_at key d >>= id_at

-- the value that is under a key
unfoldable pub value_under : List ℕ → Data → Result Data LineFault
value_under key d = or_fault fault.Field (get key d)

-- the size whose memory and virtual cores an object tells
unfoldable pub size_in : Data → Result Resource LineFault
size_in d = do
  memory ← number_at (codes "memory") d
  vcores ← number_at (codes "vcores") d
  size_at memory vcores

-- the most MB, and the most virtual cores, of an amount: 562949953421312
abbrev pub most_amount : ℕ
most_amount = 2 ^ 49

-- an amount, which may be none, and is at most so much in each part
unfoldable pub amount_at : Data → Result Resource LineFault
amount_at d = do
  keys ← keys_are 2 d
  memory ← number_at (codes "memory") d
  vcores ← number_at (codes "vcores") d
  memory' ← within most_amount memory
  vcores' ← within most_amount vcores
  Ok (amount memory' vcores')

-- the amount that is under a key
unfoldable pub amount_under : List ℕ → Data → Result Resource LineFault
amount_under key d = value_under key d >>= amount_at

-- what the object of a container is for; it has as many keys as a proposal
unfoldable pub what_in : Data → Result What LineFault
what_in d = wanted_at d >>= wanted_label_at >>= what_at

-- ---- containers, and what is still asked for

-- a container
unfoldable pub placed_at : Data → Result Container LineFault
placed_at d = do
  what ← what_in d
  app ← name_under (codes "app") d
  id ← id_under (codes "id") d
  node ← name_under (codes "node") d
  tenant ← name_under (codes "tenant") d
  size ← size_in d
  Ok (record { id = id; node = node; tenant = tenant; app = app; what = what; size = size })

-- what is still asked for
unfoldable pub pending_at : Data → Result Pending LineFault
pending_at d = do
  keys ← keys_are 4 d
  count ← number_at (codes "count") d
  priority ← number_at (codes "priority") d
  count' ← within most_count count
  priority' ← within most_priority priority
  size ← size_in d
  Ok (record { priority = priority'; count = count'; size = size })

-- what the values of a list are, if each is something
abbrev pub each : {A : Type 0} → (Data → Result A LineFault) → Items → Result (List A) LineFault
each read no_items = Ok []
each read (item d ds) = read d >>= λ x. each read ds >>= λ xs. Ok (x ∷ xs)

-- the list that is under a key
unfoldable pub list_under : List ℕ → Data → Result Items LineFault
list_under key d = or_fault fault.Field (option_and_then as_array (get key d))

-- the same, of an object with so many keys
unfoldable pub list_of : ℕ → List ℕ → Data → Result Items LineFault
list_of count key d = keys_are count d >>= λ _. list_under key d

-- ---- replies

-- a reply that is its word alone
unfoldable pub alone : Reply → Data → Result Reply LineFault
alone reply d = keys_are 1 d >>= λ _. Ok reply

-- an event that was refused, with the word for why
unfoldable pub refused_at : Data → Result Reply LineFault
refused_at d = do
  keys ← keys_are 2 d
  word ← text_at (codes "refused") d
  refusal ← or_fault fault.Field (refusal_of word)
  Ok (Refused refusal)

-- the containers that a heartbeat placed
unfoldable pub placed_reply_at : Data → Result Reply LineFault
placed_reply_at d = do
  values ← list_of 2 (codes "placed") d
  containers ← each placed_at values
  Ok (Placed containers)

-- the proposal of what would be placed
unfoldable pub proposed_at : Data → Result Reply LineFault
proposed_at d = do
  keys ← keys_are 2 d
  value ← value_under (codes "proposal") d
  proposal ← proposal_at value
  Ok (Proposed (Some proposal))

-- the container that a proposal became
unfoldable pub committed_at : Data → Result Reply LineFault
committed_at d = do
  keys ← keys_are 2 d
  value ← value_under (codes "container") d
  container ← placed_at value
  Ok (Committed container)

-- what an application holds and asks for
unfoldable pub held_at : Data → Result Reply LineFault
held_at d = do
  values ← list_of 3 (codes "containers") d
  containers ← each placed_at values
  values' ← list_under (codes "asks") d
  asks ← each pending_at values'
  Ok (Held containers asks)

-- what a queue uses, is guaranteed and may use, and what its masters and guests use
unfoldable pub usage_reply_at : Data → Result Reply LineFault
usage_reply_at d = do
  keys ← keys_are 6 d
  used ← amount_under (codes "used") d
  guaranteed ← amount_under (codes "guaranteed") d
  maximum ← amount_under (codes "maximum") d
  masters ← amount_under (codes "masters") d
  guests ← amount_under (codes "guests") d
  Ok (Usage used guaranteed maximum masters guests)

-- the reply that a word names, if it is a known one
abbrev pub reply_kind_of : List ℕ → Option ReplyKind
reply_kind_of word =
    if bytes_eq word (codes "done") then Some kind.Done
    else if bytes_eq word (codes "refused") then Some kind.Refused
    else if bytes_eq word (codes "placed") then Some kind.Placed
    else if bytes_eq word (codes "proposal") then Some kind.Proposal
    else if bytes_eq word (codes "nothing") then Some kind.Nothing
    else if bytes_eq word (codes "committed") then Some kind.Committed
    else if bytes_eq word (codes "held") then Some kind.Held
    else if bytes_eq word (codes "usage") then Some kind.Usage
    else None

-- the kind of a reply, from the word under `reply`
unfoldable pub reply_kind_at : Data → Result ReplyKind LineFault
reply_kind_at d = text_at (codes "reply") d >>= λ word. or_fault fault.Field (reply_kind_of word)

-- the reply of a kind, from just the keys that this kind has
abbrev pub reply_by : ReplyKind → Data → Result Reply LineFault
reply_by kind.Done d = alone Done d
reply_by kind.Refused d = refused_at d
reply_by kind.Placed d = placed_reply_at d
reply_by kind.Proposal d = proposed_at d
reply_by kind.Nothing d = alone (Proposed None) d
reply_by kind.Committed d = committed_at d
reply_by kind.Held d = held_at d
reply_by kind.Usage d = usage_reply_at d

-- the reply of an object
unfoldable pub reply_at : Data → Result Reply LineFault
reply_at d = reply_kind_at d >>= λ kind. reply_by kind d

-- ---- lines

-- a line with no reply: that of a propose alone may have none
abbrev pub unanswered : Event → Data → Result (Option Reply) LineFault
unanswered (Propose node) d = keys_are 2 d >>= λ _. Ok None
unanswered _ d = Err fault.Field

-- the reply of a line that has one, whose value this is
abbrev pub answered : Data → Data → Result (Option Reply) LineFault
answered value d = keys_are 3 d >>= λ _. reply_at value >>= λ reply. Ok (Some reply)

-- the reply of a line with this event, by what is under `reply`
abbrev pub answer_by : Option Data → Event → Data → Result (Option Reply) LineFault
answer_by None event d = unanswered event d
answer_by (Some value) event d = answered value d

-- the reply of a line with this event
unfoldable pub answer_at : Event → Data → Result (Option Reply) LineFault
answer_at event d = answer_by (get (codes "reply") d) event d

-- the place and the event of a line
unfoldable pub placed_event_at : Data → Result (ℕ × Event) LineFault
placed_event_at d = do
  place ← number_at (codes "place") d
  value ← value_under (codes "event") d
  event ← event_at value
  Ok (place, event)

-- the place of a line, its event, and the reply to it
unfoldable pub line_at : Data → Result (ℕ × Entry) LineFault
line_at d = do
  placed ← placed_event_at d
  reply ← answer_at placed.1 d
  Ok (placed.0, record { event = placed.1; reply = reply })

-- the line is bad
abbrev pub bad_line : BadLine
bad_line = record {}

-- a line with any fault is bad
abbrev pub or_bad : {A : Type 0} → Result A LineFault → Result A BadLine
or_bad (Ok x) = Ok x
or_bad (Err e) = Err bad_line

-- what the text of a line says
abbrev pub line_of_text : List ℕ → Result (ℕ × Entry) BadLine
line_of_text bytes = or_bad (or_fault fault.Syntax (reading bytes) >>= line_at)

-- ---- what is read back

-- the numbers of a container are in range, but for those of its size, which always are
abbrev pub HasPlacedNumbers : Container → Type 0
HasPlacedNumbers p = HasClock p.id × HasPriority p.what

-- the numbers of what is still asked for are in range, but for those of its size
abbrev pub HasPendingNumbers : Pending → Type 0
HasPendingNumbers p = HasAskNumbers p.priority p.count

-- the numbers of a proposal are in range, if there is one
abbrev pub HasProposedNumbers : Option Proposal → Type 0
HasProposedNumbers None = Unit {0}
HasProposedNumbers (Some p) = HasProposalNumbers p

-- the numbers of a reply are in range, but for those of sizes, which always are
abbrev pub IsReplyInRange : Reply → Type 0
IsReplyInRange (Placed ps) = All HasPlacedNumbers ps
IsReplyInRange (Proposed o) = HasProposedNumbers o
IsReplyInRange (Committed p) = HasPlacedNumbers p
IsReplyInRange (Held containers asks) = All HasPlacedNumbers containers × All HasPendingNumbers asks
IsReplyInRange (Usage used guaranteed maximum masters guests) = IsSmall used × IsSmall guaranteed × IsSmall maximum × IsSmall masters × IsSmall guests
IsReplyInRange _ = Unit {0}

-- the numbers of an entry are in range
abbrev pub IsEntryInRange : Entry → Type 0
IsEntryInRange e = IsInRange e.event × IfSome e.reply IsReplyInRange

-- a line may tell of an event and this reply: of a propose alone it may tell without one
abbrev pub MayBeTold : Event → Option Reply → Type 0
MayBeTold event (Some reply) = Unit {0}
MayBeTold (Propose node) None = Unit {0}
MayBeTold event None = ⊥

-- an entry that may be told, with numbers in range
abbrev pub IsRead : Entry → Type 0
IsRead e = IsRanged e.event × IsEntryInRange e × MayBeTold e.event e.reply
