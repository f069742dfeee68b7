-- The bytes that events and replies are kept as: field behind field, each number in as many bytes as its type, each name behind its length.
use Rattle.std.specs.Prelude.{ℕ, List, [], ◌∷◌, ◌++◌, length, Option, Some, None}
use Rattle.std.specs.List.{flat_map}
use Rattle.std.specs.Int.{w32, w64, to_be_bytes}
use Rattle.ynl_resource.specs.declared.amounts.Resource.{Resource}
use Rattle.ynl_resource.specs.declared.labels.Label.{Label}
use Rattle.ynl_resource.specs.declared.labels.Label.TheVariants.{Unlabelled, Named}
use Rattle.ynl_resource.specs.declared.paths.Path.{Path}
use Rattle.ynl_resource.specs.declared.ids.Id.{Id}
use Rattle.ynl_resource.specs.Texts.{path_text}
use Rattle.ynl_resource.specs.Refusals.{word}
use Rattle.ynl_model.specs.declared.events.Event.{Event}
use Rattle.ynl_model.specs.declared.events.Event.TheVariants.{Register, Lost, Relabel, Heartbeat, Exited, Submit, Ask, Release, Finish, Stop, Start, Poll, Usage, Propose, Commit, Maximum}
use Rattle.ynl_model.specs.declared.proposals.What.{What}
use Rattle.ynl_model.specs.declared.proposals.What.TheVariants.{Master, Ask as Asked}
use Rattle.ynl_model.specs.declared.proposals.Proposal.{Proposal}
use Rattle.ynl_model.specs.declared.containers.Placed.{Placed as Container}
use Rattle.ynl_model.specs.declared.replies.Pending.{Pending}
use Rattle.ynl_model.specs.declared.replies.Reply.{Reply}
use Rattle.ynl_model.specs.declared.replies.Reply.TheVariants as reply

-- ---- fields

-- a number of 32 bits
unfoldable pub small_bytes : ℕ → List ℕ
small_bytes n = to_be_bytes w32 n

-- a number of 64 bits
unfoldable pub number_bytes : ℕ → List ℕ
number_bytes n = to_be_bytes w64 n

-- a short text: its length in one byte, and its bytes
unfoldable pub text_bytes : List ℕ → List ℕ
text_bytes text = length text ∷ text

-- DEFAULT is 0, which is the length of no name
abbrev pub label_bytes : Label → List ℕ
label_bytes Unlabelled = 0 ∷ []
label_bytes (Named name) = text_bytes name

-- a text of any length, behind it
unfoldable pub long_bytes : List ℕ → List ℕ
long_bytes text = number_bytes (length text) ++ text

-- a path by its text
abbrev pub path_bytes : Path → List ℕ
path_bytes path = long_bytes (path_text path)

-- a size, whose parts have 32 bits
unfoldable pub size_bytes : Resource → List ℕ
size_bytes size = small_bytes size.memory ++ small_bytes size.vcores

-- an amount, whose parts have 64 bits
unfoldable pub amount_bytes : Resource → List ℕ
amount_bytes amount = number_bytes amount.memory ++ number_bytes amount.vcores

unfoldable pub id_bytes : Id → List ℕ
id_bytes id = label_bytes id.label ++ number_bytes id.clock

abbrev pub what_bytes : What → List ℕ
what_bytes Master = 0 ∷ []
what_bytes (Asked label priority) = 1 ∷ (label_bytes label ++ small_bytes priority)

-- what may not be there: 0, or 1 and what is there
abbrev pub option_bytes : {T : Type 0} → (T → List ℕ) → Option T → List ℕ
option_bytes bytes None = 0 ∷ []
option_bytes bytes (Some x) = 1 ∷ bytes x

-- a list: how many there are, and each
abbrev pub items_bytes : {T : Type 0} → (T → List ℕ) → List T → List ℕ
items_bytes bytes xs = number_bytes (length xs) ++ flat_map bytes xs

-- ---- events

unfoldable pub proposal_bytes : Proposal → List ℕ
proposal_bytes p =
    text_bytes p.node ++ number_bytes p.stamp ++ text_bytes p.tenant ++ text_bytes p.app ++ what_bytes p.what ++ size_bytes p.size

-- a byte for the kind, and the fields in the order in which they are declared
abbrev pub event_bytes : Event → List ℕ
event_bytes (Register node label size) = 0 ∷ (text_bytes node ++ label_bytes label ++ size_bytes size)
event_bytes (Lost node) = 1 ∷ text_bytes node
event_bytes (Relabel node label) = 2 ∷ (text_bytes node ++ label_bytes label)
event_bytes (Heartbeat node) = 3 ∷ text_bytes node
event_bytes (Exited node id) = 4 ∷ (text_bytes node ++ id_bytes id)
event_bytes (Submit queue app user label master) =
    5 ∷ (path_bytes queue ++ text_bytes app ++ text_bytes user ++ option_bytes label_bytes label ++ size_bytes master)
event_bytes (Ask tenant app label priority count size) =
    6 ∷ (text_bytes tenant ++ text_bytes app ++ label_bytes label ++ small_bytes priority ++ small_bytes count ++ size_bytes size)
event_bytes (Release tenant id) = 7 ∷ (text_bytes tenant ++ id_bytes id)
event_bytes (Finish tenant app) = 8 ∷ (text_bytes tenant ++ text_bytes app)
event_bytes (Stop queue) = 9 ∷ path_bytes queue
event_bytes (Start queue) = 10 ∷ path_bytes queue
event_bytes (Poll tenant app label) = 11 ∷ (text_bytes tenant ++ text_bytes app ++ label_bytes label)
event_bytes (Usage queue label) = 12 ∷ (path_bytes queue ++ label_bytes label)
event_bytes (Propose node) = 13 ∷ text_bytes node
event_bytes (Commit proposal) = 14 ∷ proposal_bytes proposal
event_bytes (Maximum queue label maximum) = 15 ∷ (path_bytes queue ++ label_bytes label ++ small_bytes maximum)

-- ---- replies

unfoldable pub container_bytes : Container → List ℕ
container_bytes p =
    id_bytes p.id ++ text_bytes p.node ++ text_bytes p.tenant ++ text_bytes p.app ++ what_bytes p.what ++ size_bytes p.size

unfoldable pub pending_bytes : Pending → List ℕ
pending_bytes p = small_bytes p.priority ++ small_bytes p.count ++ size_bytes p.size

-- a byte for the kind, and the fields in the order in which they are declared; a refusal by its word
abbrev pub reply_bytes : Reply → List ℕ
reply_bytes reply.Done = 0 ∷ []
reply_bytes (reply.Refused refusal) = 1 ∷ long_bytes (word refusal)
reply_bytes (reply.Placed containers) = 2 ∷ items_bytes container_bytes containers
reply_bytes (reply.Proposed found) = 3 ∷ option_bytes proposal_bytes found
reply_bytes (reply.Committed container) = 4 ∷ container_bytes container
reply_bytes (reply.Held containers asks) = 5 ∷ (items_bytes container_bytes containers ++ items_bytes pending_bytes asks)
reply_bytes (reply.Usage used guaranteed maximum masters guests) =
    6 ∷ (amount_bytes used ++ amount_bytes guaranteed ++ amount_bytes maximum ++ amount_bytes masters ++ amount_bytes guests)
