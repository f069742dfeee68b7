-- Reading from left to right what is kept: each field is a value and the bytes behind it.
use Rattle.std.specs.Prelude.{◌≡◌, ℕ, zero, suc, ◌==◌, List, [], ◌∷◌, length, take, drop, Option, Some, None, Result, Ok, Err, nat_lt, nat_le, ◌&&◌, if◌then◌else◌}
use Rattle.std.specs.Int.{w32, w64, from_be_bytes}
use Rattle.std.specs.Str.{is_utf8}
use Rattle.ynl_resource.specs.declared.amounts.Resource.{Resource}
use Rattle.ynl_resource.specs.declared.names.Name.{Name}
use Rattle.ynl_resource.specs.declared.labels.Label.{Label}
use Rattle.ynl_resource.specs.declared.labels.Label.TheVariants.{Unlabelled, Named}
use Rattle.ynl_resource.specs.declared.paths.Path.{Path}
use Rattle.ynl_resource.specs.declared.ids.Id.{Id}
use Rattle.ynl_resource.specs.Texts.{read_name, read_path}
use Rattle.ynl_resource.specs.RefusalWords.{refusal_of}
use Rattle.ynl_resource.specs.Ranges.{whole, most_memory, most_vcores}
use Rattle.ynl_model.specs.declared.events.Event.{Event}
use Rattle.ynl_model.specs.declared.events.Event.TheVariants.{Register, Lost, Relabel, Heartbeat, Exited, Submit, Ask, Release, Finish, Stop, Start, Poll, Usage, Propose, Commit, Maximum}
use Rattle.ynl_model.specs.declared.proposals.What.{What}
use Rattle.ynl_model.specs.declared.proposals.What.TheVariants.{Master, Ask as Asked}
use Rattle.ynl_model.specs.declared.proposals.Proposal.{Proposal}
use Rattle.ynl_model.specs.declared.containers.Placed.{Placed as Container}
use Rattle.ynl_model.specs.declared.replies.Pending.{Pending}
use Rattle.ynl_model.specs.declared.replies.Reply.{Reply}
use Rattle.ynl_model.specs.declared.replies.Reply.TheVariants.{Done, Refused, Placed, Proposed, Committed, Held, Usage as UsageIs}

infixl 10 ◌>>=◌
abbrev pub ◌>>=◌ : {A B : Type 0} → Option A → (A → Option B) → Option B
(Some x) >>= f = f x
None >>= f = None

-- what is there if it was read without a fault
abbrev pub if_ok : {A E : Type 0} → Result A E → Option A
if_ok (Ok x) = Some x
if_ok (Err e) = None

-- what a function answers, seen by view, is what reading gives
abbrev pub Gives : {X Y : Type 0} → (X → Y) → Option X → Option Y → Type 0
Gives view (Some x) read = read ≡ Some (view x)
Gives view None read = read ≡ None

-- ---- fields

-- so many bytes
unfoldable pub front_at : ℕ → List ℕ → Option (List ℕ × List ℕ)
front_at n bytes = if nat_lt (length bytes) n then None else Some (take n bytes, drop n bytes)

unfoldable pub small_at : List ℕ → Option (ℕ × List ℕ)
small_at bytes = do
  front ← front_at 4 bytes
  Some (from_be_bytes w32 front.0, front.1)

unfoldable pub number_at : List ℕ → Option (ℕ × List ℕ)
number_at bytes = do
  front ← front_at 8 bytes
  Some (from_be_bytes w64 front.0, front.1)

-- a text of this length
unfoldable pub text_of : ℕ → List ℕ → Option (List ℕ × List ℕ)
text_of len bytes = do
  front ← front_at len bytes
  if is_utf8 front.0 then Some front else None

unfoldable pub kind_at : List ℕ → Option (ℕ × List ℕ)
kind_at [] = None
kind_at (kind ∷ rest) = Some (kind, rest)

unfoldable pub text_at : List ℕ → Option (List ℕ × List ℕ)
text_at bytes = do
  len ← kind_at bytes
  text_of len.0 len.1

unfoldable pub name_at : List ℕ → Option (Name × List ℕ)
name_at bytes = do
  text ← text_at bytes
  name ← if_ok (read_name text.0)
  Some (name, text.1)

abbrev pub named_at : List ℕ → Option (Label × List ℕ)
named_at bytes = do
  name ← name_at bytes
  Some (Named name.0, name.1)

unfoldable pub label_at : List ℕ → Option (Label × List ℕ)
label_at [] = named_at []
label_at (zero ∷ rest) = Some (Unlabelled, rest)
label_at (suc len ∷ rest) = named_at (suc len ∷ rest)

unfoldable pub long_at : List ℕ → Option (List ℕ × List ℕ)
long_at bytes = do
  len ← number_at bytes
  text_of len.0 len.1

unfoldable pub path_at : List ℕ → Option (Path × List ℕ)
path_at bytes = do
  text ← long_at bytes
  path ← if_ok (read_path text.0)
  Some (path, text.1)

-- whether parts are those of a size
abbrev pub size_of : ℕ → ℕ → Option Resource
size_of memory vcores =
    if nat_le 1 memory && nat_le memory most_memory && nat_le 1 vcores && nat_le vcores most_vcores
    then Some (record { memory = memory; vcores = vcores })
    else None

unfoldable pub size_at : List ℕ → Option (Resource × List ℕ)
size_at bytes = do
  memory ← small_at bytes
  vcores ← small_at memory.1
  size ← size_of memory.0 vcores.0
  Some (size, vcores.1)

unfoldable pub amount_at : List ℕ → Option (Resource × List ℕ)
amount_at bytes = do
  memory ← number_at bytes
  vcores ← number_at memory.1
  Some (record { memory = memory.0; vcores = vcores.0 }, vcores.1)

unfoldable pub id_at : List ℕ → Option (Id × List ℕ)
id_at bytes = do
  label ← label_at bytes
  clock ← number_at label.1
  Some (record { label = label.0; clock = clock.0 }, clock.1)

abbrev pub asked_at : List ℕ → Option (What × List ℕ)
asked_at bytes = do
  label ← label_at bytes
  priority ← small_at label.1
  Some (Asked label.0 priority.0, priority.1)

unfoldable pub what_at : List ℕ → Option (What × List ℕ)
what_at bytes = do
  kind ← kind_at bytes
  if kind.0 == 0 then Some (Master, kind.1) else asked_at kind.1

-- what is made of the one field that is read
abbrev pub mapped : {A B : Type 0} → (A → B) → Option (A × List ℕ) → Option (B × List ℕ)
mapped f read = read >>= λ x. Some (f x.0, x.1)

-- the label that may not be there
unfoldable pub choice_at : List ℕ → Option (Option Label × List ℕ)
choice_at bytes = do
  kind ← kind_at bytes
  if kind.0 == 0 then Some (None, kind.1) else mapped Some (label_at kind.1)

-- ---- events

unfoldable pub proposal_at : List ℕ → Option (Proposal × List ℕ)
proposal_at bytes = do
  node ← name_at bytes
  stamp ← number_at node.1
  tenant ← name_at stamp.1
  app ← name_at tenant.1
  what ← what_at app.1
  size ← size_at what.1
  Some (record { node = node.0; stamp = stamp.0; tenant = tenant.0; app = app.0; what = what.0; size = size.0 }, size.1)

unfoldable pub register_at : List ℕ → Option (Event × List ℕ)
register_at bytes = do
  node ← name_at bytes
  label ← label_at node.1
  size ← size_at label.1
  Some (Register node.0 label.0 size.0, size.1)

unfoldable pub relabel_at : List ℕ → Option (Event × List ℕ)
relabel_at bytes = do
  node ← name_at bytes
  label ← label_at node.1
  Some (Relabel node.0 label.0, label.1)

unfoldable pub exited_at : List ℕ → Option (Event × List ℕ)
exited_at bytes = do
  node ← name_at bytes
  id ← id_at node.1
  Some (Exited node.0 id.0, id.1)

unfoldable pub submit_at : List ℕ → Option (Event × List ℕ)
submit_at bytes = do
  queue ← path_at bytes
  app ← name_at queue.1
  user ← name_at app.1
  label ← choice_at user.1
  master ← size_at label.1
  Some (Submit queue.0 app.0 user.0 label.0 master.0, master.1)

unfoldable pub ask_at : List ℕ → Option (Event × List ℕ)
ask_at bytes = do
  tenant ← name_at bytes
  app ← name_at tenant.1
  label ← label_at app.1
  priority ← small_at label.1
  count ← small_at priority.1
  size ← size_at count.1
  Some (Ask tenant.0 app.0 label.0 priority.0 count.0 size.0, size.1)

unfoldable pub release_at : List ℕ → Option (Event × List ℕ)
release_at bytes = do
  tenant ← name_at bytes
  id ← id_at tenant.1
  Some (Release tenant.0 id.0, id.1)

unfoldable pub finish_at : List ℕ → Option (Event × List ℕ)
finish_at bytes = do
  tenant ← name_at bytes
  app ← name_at tenant.1
  Some (Finish tenant.0 app.0, app.1)

unfoldable pub poll_at : List ℕ → Option (Event × List ℕ)
poll_at bytes = do
  tenant ← name_at bytes
  app ← name_at tenant.1
  label ← label_at app.1
  Some (Poll tenant.0 app.0 label.0, label.1)

unfoldable pub usage_at : List ℕ → Option (Event × List ℕ)
usage_at bytes = do
  queue ← path_at bytes
  label ← label_at queue.1
  Some (Usage queue.0 label.0, label.1)

-- a share, if the number is one
abbrev pub share_of : ℕ → Option ℕ
share_of number = if nat_le number whole then Some number else None

unfoldable pub maximum_at : List ℕ → Option (Event × List ℕ)
maximum_at bytes = do
  queue ← path_at bytes
  label ← label_at queue.1
  number ← small_at label.1
  maximum ← share_of number.0
  Some (Maximum queue.0 label.0 maximum, number.1)

-- an event that names a node alone, a queue alone, or a proposal
unfoldable pub short_at : ℕ → List ℕ → Option (Event × List ℕ)
short_at kind bytes =
    if kind == 1 then mapped Lost (name_at bytes)
    else if kind == 3 then mapped Heartbeat (name_at bytes)
    else if kind == 9 then mapped Stop (path_at bytes)
    else if kind == 10 then mapped Start (path_at bytes)
    else if kind == 13 then mapped Propose (name_at bytes)
    else if kind == 14 then mapped Commit (proposal_at bytes)
    else None

-- the fields of an event of this kind
unfoldable pub event_of : ℕ → List ℕ → Option (Event × List ℕ)
event_of kind bytes =
    if kind == 0 then register_at bytes
    else if kind == 2 then relabel_at bytes
    else if kind == 4 then exited_at bytes
    else if kind == 5 then submit_at bytes
    else if kind == 6 then ask_at bytes
    else if kind == 7 then release_at bytes
    else if kind == 8 then finish_at bytes
    else if kind == 11 then poll_at bytes
    else if kind == 12 then usage_at bytes
    else if kind == 15 then maximum_at bytes
    else short_at kind bytes

-- an event: its kind, and its fields
unfoldable pub event_at : List ℕ → Option (Event × List ℕ)
event_at bytes = do
  kind ← kind_at bytes
  event_of kind.0 kind.1

-- ---- replies

-- so many, read one behind another
abbrev pub many : {T : Type 0} → (List ℕ → Option (T × List ℕ)) → ℕ → List ℕ → Option (List T × List ℕ)
many at zero bytes = Some ([], bytes)
many at (suc n) bytes = at bytes >>= λ x. many at n x.1 >>= λ xs. Some (x.0 ∷ xs.0, xs.1)

-- a list: how many there are, and each
unfoldable pub items_at : {T : Type 0} → (List ℕ → Option (T × List ℕ)) → List ℕ → Option (List T × List ℕ)
items_at at bytes = do
  count ← number_at bytes
  many at count.0 count.1

unfoldable pub container_at : List ℕ → Option (Container × List ℕ)
container_at bytes = do
  id ← id_at bytes
  node ← name_at id.1
  tenant ← name_at node.1
  app ← name_at tenant.1
  what ← what_at app.1
  size ← size_at what.1
  Some (record { id = id.0; node = node.0; tenant = tenant.0; app = app.0; what = what.0; size = size.0 }, size.1)

unfoldable pub pending_at : List ℕ → Option (Pending × List ℕ)
pending_at bytes = do
  priority ← small_at bytes
  count ← small_at priority.1
  size ← size_at count.1
  Some (record { priority = priority.0; count = count.0; size = size.0 }, size.1)

-- a refusal, by its word
unfoldable pub refused_at : List ℕ → Option (Reply × List ℕ)
refused_at bytes = do
  word ← long_at bytes
  refusal ← refusal_of word.0
  Some (Refused refusal, word.1)

unfoldable pub placed_at : List ℕ → Option (Reply × List ℕ)
placed_at bytes = do
  containers ← items_at container_at bytes
  Some (Placed containers.0, containers.1)

unfoldable pub proposed_at : List ℕ → Option (Reply × List ℕ)
proposed_at bytes = do
  kind ← kind_at bytes
  if kind.0 == 0 then Some (Proposed None, kind.1) else mapped (λ p. Proposed (Some p)) (proposal_at kind.1)

unfoldable pub committed_at : List ℕ → Option (Reply × List ℕ)
committed_at bytes = do
  container ← container_at bytes
  Some (Committed container.0, container.1)

unfoldable pub held_at : List ℕ → Option (Reply × List ℕ)
held_at bytes = do
  containers ← items_at container_at bytes
  asks ← items_at pending_at containers.1
  Some (Held containers.0 asks.0, asks.1)

unfoldable pub usage_reply_at : List ℕ → Option (Reply × List ℕ)
usage_reply_at bytes = do
  used ← amount_at bytes
  guaranteed ← amount_at used.1
  maximum ← amount_at guaranteed.1
  masters ← amount_at maximum.1
  guests ← amount_at masters.1
  Some (UsageIs used.0 guaranteed.0 maximum.0 masters.0 guests.0, guests.1)

-- the fields of a reply of this kind
unfoldable pub reply_of : ℕ → List ℕ → Option (Reply × List ℕ)
reply_of kind bytes =
    if kind == 0 then Some (Done, bytes)
    else if kind == 1 then refused_at bytes
    else if kind == 2 then placed_at bytes
    else if kind == 3 then proposed_at bytes
    else if kind == 4 then committed_at bytes
    else if kind == 5 then held_at bytes
    else if kind == 6 then usage_reply_at bytes
    else None

-- a reply: its kind, and its fields
unfoldable pub reply_at : List ℕ → Option (Reply × List ℕ)
reply_at bytes = do
  kind ← kind_at bytes
  reply_of kind.0 kind.1
