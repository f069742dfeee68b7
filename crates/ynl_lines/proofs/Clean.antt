-- What is written has texts that are UTF-8, whole numbers, and keys that ascend; and it is flat.
use Rattle.std.proofs.Common.{◌<◌, ◌^◌, ℕ, List, [], ◌∷◌, All, map, Option, Some, None, IfSome, option_map, refl, arith}
use Rattle.std.specs.Prelude.{IsUtf8}
use Rattle.std.proofs.lemmas.List.Elements.{All-head, All-tail}
use Rattle.serde_json.specs.View.{items_of}
use Rattle.ynl_resource.specs.declared.amounts.Resource.{Resource}
use Rattle.ynl_resource.specs.declared.names.Name.{Name}
use Rattle.ynl_resource.specs.declared.labels.Label.{Label}
use Rattle.ynl_resource.specs.declared.paths.Path.{Path}
use Rattle.ynl_resource.specs.declared.refusals.Refusal.{Refusal}
use Rattle.ynl_resource.specs.declared.refusals.Refusal.TheVariants.{NoSuchLabel}
use Rattle.ynl_resource.specs.Refusals.{word}
use Rattle.ynl_resource.specs.Amounts.{IsSmall}
use Rattle.ynl_resource.proofs.Ascii.{utf8_name}
use Rattle.ynl_model.specs.declared.events.Event.{Event}
use Rattle.ynl_model.specs.declared.events.Event.TheVariants.{Register, Lost, Relabel, Heartbeat, Exited, Submit, Ask, Release, Finish, Stop, Start, Poll, Usage as UsageOf, Propose, Commit, Maximum}
use Rattle.ynl_model.specs.declared.proposals.What.{What}
use Rattle.ynl_model.specs.declared.proposals.What.TheVariants.{Master, Ask as Asked}
use Rattle.ynl_model.specs.declared.proposals.Proposal.{Proposal}
use Rattle.ynl_model.specs.declared.containers.Placed.{Placed as Container}
use Rattle.ynl_model.specs.declared.replies.Pending.{Pending}
use Rattle.ynl_model.specs.declared.replies.Reply.{Reply}
use Rattle.ynl_model.specs.declared.replies.Reply.TheVariants.{Done, Refused, Placed, Proposed, Committed, Held, Usage}
use Rattle.ynl_lines.specs.Reading.{HasPriority, HasProposalNumbers, IsInRange, HasClock}
use Rattle.ynl_lines.specs.ReadingReplies.{HasPlacedNumbers, HasPendingNumbers, IsReplyInRange}
use Rattle.ynl_lines.specs.Sound.{IsWanted, HasProposalParts, IsProposal, HasContainerParts, IsContainer, IsPending, IsEvent, IsReply}
use Rattle.ynl_lines.specs.Writing.{amount_data, placed_by, placed_data, proposal_by, proposal_data, pending_data, submit_data, event_data, reply_data, line_object}
use Rattle.ynl_fields.proofs.Printed.{IsClean, AreClean}
use Rattle.ynl_fields.proofs.Utf8.{ascii, label_utf8, id_utf8, clock_fits, path_utf8, memory_fits, vcores_fit}

word_utf8 : (r : Refusal) → IsUtf8 (word r)
word_utf8 NoSuchLabel = ascii _ refl
word_utf8 _ = ascii _ refl

-- ---- numbers

small_memory : (a : Resource) → IsSmall a → a.memory < 2 ^ 64
small_memory a h = omega (arith, h.0)

small_vcores : (a : Resource) → IsSmall a → a.vcores < 2 ^ 64
small_vcores a h = omega (arith, h.1)

-- ---- what stands in several objects

clean_amount : (a : Resource) → IsSmall a → IsClean (amount_data a)
clean_amount a h = (refl, (small_memory a h, (small_vcores a h, tt)))

clean_placed_by : (w : What) (p : Container) → HasContainerParts p → IsWanted w → HasClock p.id → HasPriority w → IsClean (placed_by w p)
clean_placed_by Master p h l clock priority =
    (refl, (utf8_name p.app h.3, (id_utf8 p.id h.0 (clock_fits p.id clock), (memory_fits p.size h.4, (utf8_name p.node h.1, (utf8_name p.tenant h.2, (vcores_fit p.size h.4, (ascii _ refl, tt))))))))
clean_placed_by (Asked label n) p h l clock priority =
    (refl, (utf8_name p.app h.3, (id_utf8 p.id h.0 (clock_fits p.id clock), (label_utf8 label l, (memory_fits p.size h.4, (utf8_name p.node h.1, (omega (arith, priority), (utf8_name p.tenant h.2, (vcores_fit p.size h.4, (ascii _ refl, tt))))))))))

clean_placed : (p : Container) → IsContainer p → HasPlacedNumbers p → IsClean (placed_data p)
clean_placed p h n = clean_placed_by p.what p h.0 h.1 n.0 n.1

clean_proposal_by : (w : What) (p : Proposal) → HasProposalParts p → IsWanted w → HasPriority w → p.stamp < 2 ^ 64 → IsClean (proposal_by w p)
clean_proposal_by Master p h l priority stamp =
    (refl, (utf8_name p.app h.2, (memory_fits p.size h.3, (utf8_name p.node h.0, (stamp, (utf8_name p.tenant h.1, (vcores_fit p.size h.3, (ascii _ refl, tt))))))))
clean_proposal_by (Asked label n) p h l priority stamp =
    (refl, (utf8_name p.app h.2, (label_utf8 label l, (memory_fits p.size h.3, (utf8_name p.node h.0, (omega (arith, priority), (stamp, (utf8_name p.tenant h.1, (vcores_fit p.size h.3, (ascii _ refl, tt))))))))))

clean_proposal : (p : Proposal) → IsProposal p → HasProposalNumbers p → IsClean (proposal_data p)
clean_proposal p h n = clean_proposal_by p.what p h.0 h.1 n.0 (omega (arith, n.1))

clean_pending : (p : Pending) → IsPending p → HasPendingNumbers p → IsClean (pending_data p)
clean_pending p h n = (refl, (omega (arith, n.1), (memory_fits p.size h, (omega (arith, n.0), (vcores_fit p.size h, tt)))))

all_placed : (ps : List Container) → All IsContainer ps → All HasPlacedNumbers ps → AreClean (items_of (map placed_data ps))
all_placed [] h n = tt
all_placed (p ∷ ps) h n =
    (clean_placed p (All-head IsContainer p ps h) (All-head HasPlacedNumbers p ps n), all_placed ps (All-tail IsContainer p ps h) (All-tail HasPlacedNumbers p ps n))

all_pending : (ps : List Pending) → All IsPending ps → All HasPendingNumbers ps → AreClean (items_of (map pending_data ps))
all_pending [] h n = tt
all_pending (p ∷ ps) h n =
    (clean_pending p (All-head IsPending p ps h) (All-head HasPendingNumbers p ps n), all_pending ps (All-tail IsPending p ps h) (All-tail HasPendingNumbers p ps n))

-- ---- replies

pub clean_reply : (r : Reply) → IsReply r → IsReplyInRange r → IsClean (reply_data r)
clean_reply Done h n = (refl, (ascii _ refl, tt))
clean_reply (Refused r) h n = (refl, (word_utf8 r, (ascii _ refl, tt)))
clean_reply (Placed ps) h n = (refl, (all_placed ps h n, (ascii _ refl, tt)))
clean_reply (Proposed None) h n = (refl, (ascii _ refl, tt))
clean_reply (Proposed (Some p)) h n = (refl, (clean_proposal p h n, (ascii _ refl, tt)))
clean_reply (Committed p) h n = (refl, (clean_placed p h n, (ascii _ refl, tt)))
clean_reply (Held containers asks) h n = (refl, (all_pending asks h.1 n.1, (all_placed containers h.0 n.0, (ascii _ refl, tt))))
clean_reply (Usage used guaranteed maximum masters guests) h n =
    (refl, (clean_amount guaranteed n.1, (clean_amount guests n.4, (clean_amount masters n.3, (clean_amount maximum n.2, (ascii _ refl, (clean_amount used n.0, tt)))))))

-- ---- events

clean_submit : (queue : Path) (app user : Name) (label : Option Label) (master : Resource) → IsEvent (Submit queue app user label master) → IsClean (submit_data queue app user label master)
clean_submit queue app user None master h =
    (refl, (utf8_name app h.1, (ascii _ refl, (memory_fits master h.4, (path_utf8 queue h.0.1, (utf8_name user h.2, (vcores_fit master h.4, tt)))))))
clean_submit queue app user (Some label) master h =
    (refl, (utf8_name app h.1, (ascii _ refl, (label_utf8 label h.3, (memory_fits master h.4, (path_utf8 queue h.0.1, (utf8_name user h.2, (vcores_fit master h.4, tt))))))))

pub clean_event : (e : Event) → IsEvent e → IsInRange e → IsClean (event_data e)
clean_event (Register node label size) h n = (refl, (ascii _ refl, (label_utf8 label h.1, (memory_fits size h.2, (utf8_name node h.0, (vcores_fit size h.2, tt))))))
clean_event (Lost node) h n = (refl, (ascii _ refl, (utf8_name node h, tt)))
clean_event (Relabel node label) h n = (refl, (ascii _ refl, (label_utf8 label h.1, (utf8_name node h.0, tt))))
clean_event (Heartbeat node) h n = (refl, (ascii _ refl, (utf8_name node h, tt)))
clean_event (Exited node id) h n = (refl, (ascii _ refl, (id_utf8 id h.1 (clock_fits id n), (utf8_name node h.0, tt))))
clean_event (Submit queue app user label master) h n = clean_submit queue app user label master h
clean_event (Ask tenant app label priority count size) h n =
    (refl, (utf8_name app h.1, (omega (arith, n.1), (ascii _ refl, (label_utf8 label h.2, (memory_fits size h.3, (omega (arith, n.0), (utf8_name tenant h.0, (vcores_fit size h.3, tt)))))))))
clean_event (Release tenant id) h n = (refl, (ascii _ refl, (id_utf8 id h.1 (clock_fits id n), (utf8_name tenant h.0, tt))))
clean_event (Finish tenant app) h n = (refl, (utf8_name app h.1, (ascii _ refl, (utf8_name tenant h.0, tt))))
clean_event (Stop queue) h n = (refl, (ascii _ refl, (path_utf8 queue h.1, tt)))
clean_event (Start queue) h n = (refl, (ascii _ refl, (path_utf8 queue h.1, tt)))
clean_event (Poll tenant app label) h n = (refl, (utf8_name app h.1, (ascii _ refl, (label_utf8 label h.2, (utf8_name tenant h.0, tt)))))
clean_event (UsageOf queue label) h n = (refl, (ascii _ refl, (label_utf8 label h.1, (path_utf8 queue h.0.1, tt))))
clean_event (Propose node) h n = (refl, (ascii _ refl, (utf8_name node h, tt)))
clean_event (Commit proposal) h n = (refl, (ascii _ refl, (clean_proposal proposal h n, tt)))
clean_event (Maximum queue label maximum) h n = (refl, (ascii _ refl, (label_utf8 label h.1, (omega (arith, h.2), (path_utf8 queue h.0.1, tt)))))

-- ---- lines

pub clean_line : (place : ℕ) (e : Event) (o : Option Reply) → place < 2 ^ 64 → IsEvent e → IsInRange e → IfSome o IsReply → IfSome o IsReplyInRange → IsClean (line_object place (event_data e) (option_map reply_data o))
clean_line place e None fits h n r m = (refl, (clean_event e h n, (fits, tt)))
clean_line place e (Some reply) fits h n r m = (refl, (clean_event e h n, (fits, (clean_reply reply r m, tt))))
