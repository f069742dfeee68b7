-- The object of a reply reads as it, and the text of an event or a line as what it says.
use Rattle.std.proofs.Common.{◌≡◌, ◌<◌, ◌^◌, ◌∙◌, ℕ, List, [], ◌∷◌, All, map, Option, option_map, Some, None, Result, Ok, IfSome, refl, ap, arith}
use Rattle.std.proofs.lemmas.List.Elements.{All-head, All-tail}
use Rattle.serde_json.specs.View.{items_of}
use Rattle.ynl_resource.specs.declared.amounts.Resource.{Resource}
use Rattle.ynl_resource.specs.declared.labels.Label.{Label}
use Rattle.ynl_resource.specs.Amounts.{amount, IsSmall}
use Rattle.ynl_resource.specs.Ranges.{most_count, most_priority}
use Rattle.ynl_resource.proofs.RefusalTrip.{refusal_back}
use Rattle.ynl_model.specs.declared.events.Event.{Event}
use Rattle.ynl_model.specs.declared.events.Event.TheVariants.{Propose}
use Rattle.ynl_model.specs.declared.entries.Entry.{Entry}
use Rattle.ynl_model.specs.declared.proposals.What.{What}
use Rattle.ynl_model.specs.declared.proposals.What.TheVariants.{Master, Ask as Asked}
use Rattle.ynl_model.specs.declared.containers.Placed.{Placed as Container}
use Rattle.ynl_model.specs.declared.replies.Pending.{Pending}
use Rattle.ynl_model.specs.declared.replies.Reply.{Reply}
use Rattle.ynl_model.specs.declared.replies.Reply.TheVariants.{Done, Refused, Placed, Proposed, Committed, Held, Usage}
use Rattle.ynl_lines.specs.declared.faults.LineFault.{LineFault}
use Rattle.ynl_lines.specs.declared.faults.LineFault.TheVariants as fault
use Rattle.ynl_fields.specs.Reading.{text_or, number_or, keys_or}
use Rattle.ynl_lines.specs.Reading.{or_fault, ◌>>=◌, within, size_at, wanted_at, wanted_label_at, what_at, event_at, event_of_line, HasClock, HasPriority, IsInRange}
use Rattle.ynl_lines.specs.ReadingReplies.{name_under, id_under, value_under, list_under, list_of, size_in, most_amount, amount_at, amount_under, what_in, placed_at, pending_at, each, alone, refused_at, placed_reply_at, proposed_at, committed_at, held_at, usage_reply_at, reply_kind_at, reply_at, unanswered, answer_at, placed_event_at, line_at, MayBeTold, HasPlacedNumbers, HasPendingNumbers, IsReplyInRange, IsEntryInRange, or_bad, line_of_text}
use Rattle.ynl_lines.specs.Sound.{IsWanted, HasContainerParts, IsContainer, IsPending, IsEvent, IsReply}
use Rattle.ynl_lines.specs.Writing.{amount_data, placed_by, placed_data, pending_data, reply_data, propose_data, event_data, event_text, line_object, line_data, line_text}
use Rattle.ynl_fields.proofs.Sizes.{size_back, within_back}
use Rattle.ynl_fields.proofs.Names.{name_back, label_back, id_back}
use Rattle.ynl_lines.proofs.RoundTrip.{proposal_back, event_back}
use Rattle.ynl_lines.proofs.Texts.{flat_event, flat_line}
use Rattle.ynl_lines.proofs.Clean.{clean_event, clean_line}
use Rattle.ynl_fields.proofs.Printed.{text_reads}

-- ---- containers, and what is still asked for

-- a container for something else, of another size
abbrev changed : Container → What → Resource → Container
changed p what size = record { id = p.id; node = p.node; tenant = p.tenant; app = p.app; what = what; size = size }

-- a container that was asked for, whose numbers are still to be looked at
abbrev by_numbers : Container → Label → ℕ → Result Container LineFault
by_numbers p label priority =
    (within most_priority priority >>= λ priority. Ok (Asked label priority)) >>= λ what. size_at p.size.memory p.size.vcores >>= λ size. Ok (changed p what size)

placed_back_by : (w : What) (p : Container) → HasContainerParts p → IsWanted w → HasClock p.id → HasPriority w → placed_at (placed_by w p) ≡ Ok (changed p w p.size)
unfolding placed_at what_in name_under id_under size_in text_or number_or keys_or wanted_at wanted_label_at what_at
placed_back_by Master p h l clock small =
    λ i. name_back fault.Name p.app h.3 i >>= λ app. id_back fault.Name p.id h.0 clock i >>= λ id. name_back fault.Name p.node h.1 i >>= λ node. name_back fault.Name p.tenant h.2 i >>= λ tenant.
    size_back fault.Range p.size h.4 i >>= λ size. Ok (record { id = id; node = node; tenant = tenant; app = app; what = Master; size = size })
placed_back_by (Asked label priority) p h l clock small =
    let named : placed_at (placed_by (Asked label priority) p) ≡ by_numbers p label priority =
    λ i. ((label_back fault.Name label l i >>= λ label. Ok (Some (label, priority))) >>= what_at) >>= λ what. name_back fault.Name p.app h.3 i >>= λ app. id_back fault.Name p.id h.0 clock i >>= λ id.
    name_back fault.Name p.node h.1 i >>= λ node. name_back fault.Name p.tenant h.2 i >>= λ tenant. size_at p.size.memory p.size.vcores >>= λ size.
    Ok (record { id = id; node = node; tenant = tenant; app = app; what = what; size = size }) in
    let numbered : by_numbers p label priority ≡ Ok (changed p (Asked label priority) p.size) =
    λ i. (within_back fault.Range most_priority priority small i >>= λ priority. Ok (Asked label priority)) >>= λ what. size_back fault.Range p.size h.4 i >>= λ size. Ok (changed p what size) in
    named ∙ numbered

placed_back : (p : Container) → IsContainer p → HasPlacedNumbers p → placed_at (placed_data p) ≡ Ok p
placed_back p h n = placed_back_by p.what p h.0 h.1 n.0 n.1

pending_back : (p : Pending) → IsPending p → HasPendingNumbers p → pending_at (pending_data p) ≡ Ok p
unfolding pending_at size_in number_or keys_or
pending_back p h n =
    λ i. within_back fault.Range most_count p.count n.1 i >>= λ count. within_back fault.Range most_priority p.priority n.0 i >>= λ priority. size_back fault.Range p.size h i >>= λ size.
    Ok (record { priority = priority; count = count; size = size })

-- ---- lists

each_placed_back : (ps : List Container) → All IsContainer ps → All HasPlacedNumbers ps → each placed_at (items_of (map placed_data ps)) ≡ Ok ps
each_placed_back [] h n = refl
each_placed_back (p ∷ ps) h n =
    let first : placed_at (placed_data p) ≡ Ok p = placed_back p (All-head IsContainer p ps h) (All-head HasPlacedNumbers p ps n) in
    λ i. first i >>= λ x. each_placed_back ps (All-tail IsContainer p ps h) (All-tail HasPlacedNumbers p ps n) i >>= λ xs. Ok (x ∷ xs)

each_pending_back : (ps : List Pending) → All IsPending ps → All HasPendingNumbers ps → each pending_at (items_of (map pending_data ps)) ≡ Ok ps
each_pending_back [] h n = refl
each_pending_back (p ∷ ps) h n =
    let first : pending_at (pending_data p) ≡ Ok p = pending_back p (All-head IsPending p ps h) (All-head HasPendingNumbers p ps n) in
    λ i. first i >>= λ x. each_pending_back ps (All-tail IsPending p ps h) (All-tail HasPendingNumbers p ps n) i >>= λ xs. Ok (x ∷ xs)

-- ---- replies

amount_back : (a : Resource) → IsSmall a → amount_at (amount_data a) ≡ Ok a
unfolding amount_at number_or keys_or
amount_back a h = λ i. within_back fault.Range most_amount a.memory h.0 i >>= λ memory. within_back fault.Range most_amount a.vcores h.1 i >>= λ vcores. Ok (amount memory vcores)

reply_back : (r : Reply) → IsReply r → IsReplyInRange r → reply_at (reply_data r) ≡ Ok r
unfolding reply_at reply_kind_at text_or number_or keys_or value_under list_under list_of alone refused_at placed_reply_at proposed_at committed_at held_at usage_reply_at amount_under
reply_back Done h n = refl
reply_back (Refused r) h n = λ i. or_fault fault.Field (refusal_back r i) >>= λ r. Ok (Refused r)
reply_back (Placed ps) h n = λ i. each_placed_back ps h n i >>= λ ps. Ok (Placed ps)
reply_back (Proposed None) h n = refl
reply_back (Proposed (Some p)) h n = λ i. proposal_back p h n i >>= λ p. Ok (Proposed (Some p))
reply_back (Committed p) h n = λ i. placed_back p h n i >>= λ p. Ok (Committed p)
reply_back (Held containers asks) h n =
    λ i. each_placed_back containers h.0 n.0 i >>= λ containers. each_pending_back asks h.1 n.1 i >>= λ asks. Ok (Held containers asks)
reply_back (Usage used guaranteed maximum masters guests) h n =
    λ i. amount_back used n.0 i >>= λ used. amount_back guaranteed n.1 i >>= λ guaranteed. amount_back maximum n.2 i >>= λ maximum. amount_back masters n.3 i >>= λ masters.
    amount_back guests n.4 i >>= λ guests. Ok (Usage used guaranteed maximum masters guests)

-- ---- lines

line_back : (place : ℕ) (e : Event) (o : Option Reply) → MayBeTold e o → IsEvent e → IsInRange e → IfSome o IsReply → IfSome o IsReplyInRange
    → line_at (line_object place (event_data e) (option_map reply_data o)) ≡ Ok (place, record { event = e; reply = o })
unfolding line_at placed_event_at answer_at text_or number_or keys_or value_under
line_back place e (Some r) may h n sound numbers =
    λ i. ◌>>=◌ {A = Event} {B = ℕ × Event} (event_back e h n i) (λ e. Ok (place, e)) >>= λ placed. (reply_back r sound numbers i >>= λ r. Ok (Some r)) >>= λ reply.
    Ok (placed.0, record { event = placed.1; reply = reply })
line_back place (Propose node) None may h n sound numbers =
    λ i. ◌>>=◌ {A = Event} {B = ℕ × Event} (event_back (Propose node) h n i) (λ e. Ok (place, e)) >>= λ placed. unanswered placed.1 (line_object place (propose_data node) None) >>= λ reply.
    Ok (placed.0, record { event = placed.1; reply = reply })
line_back place _ None may h n sound numbers = absurd may

-- the text of an event reads as it
pub event_text_back : (e : Event) → IsEvent e → IsInRange e → event_of_line (event_text e) ≡ Ok e
event_text_back e h n =
    ap (λ o. or_fault fault.Syntax o >>= event_at) (text_reads (event_data e) (clean_event e h n) (omega (arith, flat_event e))) ∙ event_back e h n

-- and that of a line as what it says
pub line_text_back : (place : ℕ) (e : Entry) → place < 2 ^ 64 → MayBeTold e.event e.reply → IsEvent e.event → IfSome e.reply IsReply → IsEntryInRange e → line_of_text (line_text place e) ≡ Ok (place, e)
line_text_back place e fits may h sound n =
    ap (λ o. or_bad (or_fault fault.Syntax o >>= line_at)) (text_reads (line_data place e) (clean_line place e.event e.reply fits h n.0 sound n.1) (flat_line place e.event e.reply))
    ∙ ap or_bad (line_back place e.event e.reply may h n.0 sound n.1)
