-- When two replies are the same, and when what is written down for an event is its reply.
use Rattle.std.specs.Prelude.{Bool, true, false, ◌&&◌, ◌==◌, bytes_eq, Option, Some, None}
use Rattle.std.specs.Option.{option_map_or}
use Rattle.std.specs.Cmp.Lexicographic.{pointwise}
use Rattle.ynl_resource.specs.Names.{same_name, same_label, same_id}
use Rattle.ynl_resource.specs.declared.refusals.Refusal.{Refusal}
use Rattle.ynl_resource.specs.Refusals.{word}
use Rattle.ynl_model.specs.declared.containers.Placed.{Placed as Container}
use Rattle.ynl_model.specs.declared.proposals.What.{What}
use Rattle.ynl_model.specs.declared.proposals.What.TheVariants.{Master, Ask as Asked}
use Rattle.ynl_model.specs.declared.proposals.Proposal.{Proposal}
use Rattle.ynl_model.specs.declared.replies.Pending.{Pending}
use Rattle.ynl_model.specs.declared.replies.Reply.{Reply}
use Rattle.ynl_model.specs.declared.replies.Reply.TheVariants.{Done, Refused, Placed, Proposed, Committed, Held, Usage}
use Rattle.ynl_model.specs.declared.entries.Entry.{Entry}
use Rattle.ynl_model.specs.Check.{same_size}

-- whether two refusals have the same word
abbrev pub same_refusal : Refusal → Refusal → Bool
same_refusal a b = bytes_eq (word a) (word b)

-- whether two containers are the same to their applications
abbrev pub same_what : What → What → Bool
same_what Master Master = true
same_what (Asked label priority) (Asked other number) = same_label label other && (priority == number)
same_what _ _ = false

-- whether two containers are the same, in all that is told of them
abbrev pub same_container : Container → Container → Bool
same_container a b =
    same_id a.id b.id && same_name a.node b.node && same_name a.tenant b.tenant && same_name a.app b.app && same_what a.what b.what && same_size a.size b.size

-- whether two proposals are the same, in all that is told of them
abbrev pub same_proposal : Proposal → Proposal → Bool
same_proposal a b =
    same_name a.node b.node && (a.stamp == b.stamp) && same_name a.tenant b.tenant && same_name a.app b.app && same_what a.what b.what && same_size a.size b.size

-- whether the same is proposed, which may be nothing
abbrev pub same_proposed : Option Proposal → Option Proposal → Bool
same_proposed None None = true
same_proposed (Some a) (Some b) = same_proposal a b
same_proposed _ _ = false

-- whether the same is still asked for
abbrev pub same_ask : Pending → Pending → Bool
same_ask a b = (a.priority == b.priority) && (a.count == b.count) && same_size a.size b.size

-- whether two replies are the same: of one kind, and with the same parts, lists in the same order
abbrev pub same_reply : Reply → Reply → Bool
same_reply Done Done = true
same_reply (Refused a) (Refused b) = same_refusal a b
same_reply (Placed a) (Placed b) = pointwise same_container a b
same_reply (Proposed a) (Proposed b) = same_proposed a b
same_reply (Committed a) (Committed b) = same_container a b
same_reply (Held containers asks) (Held others more) = pointwise same_container containers others && pointwise same_ask asks more
same_reply (Usage used guaranteed maximum masters guests) (Usage used_there guaranteed_there maximum_there masters_there guests_there) =
    same_size used used_there && same_size guaranteed guaranteed_there && same_size maximum maximum_there && same_size masters masters_there && same_size guests guests_there
same_reply _ _ = false

-- whether this is the reply that an entry has, where it has one
abbrev pub fits_reply : Entry → Reply → Bool
fits_reply e reply = option_map_or (λ given. same_reply given reply) e.reply true
