-- The text of a line reads as the line, behind each that it may follow.
use Rattle.std.proofs.Common.{◌≡◌, ◌∙◌, ℕ, true, cond, Option, Some, Result, Ok, Err, refl, ap, arith}
use Rattle.serde_json.specs.Data.{Data}
use Rattle.ynl_resource.specs.declared.labels.Label.{Label}
use Rattle.ynl_resource.specs.Ranges.{whole, most_clock, most_count, most_priority}
use Rattle.ynl_model.specs.declared.proposals.What.{What}
use Rattle.ynl_model.specs.declared.proposals.What.TheVariants.{Master, Ask as Asked}
use Rattle.ynl_model.specs.declared.containers.Placed.{Placed as Container}
use Rattle.ynl_fields.specs.Reading.{◌>>=◌, or_fault, text_or, number_or, keys_or, HasClock}
use Rattle.ynl_fields.proofs.Names.{name_back, label_back, path_back, id_back}
use Rattle.ynl_fields.proofs.Printed.{text_reads}
use Rattle.ynl_saved_text.specs.declared.faults.StateFault.{StateFault}
use Rattle.ynl_saved_text.specs.declared.faults.StateFault.TheVariants as fault
use Rattle.ynl_saved_text.specs.declared.kinds.StateKind.{StateKind}
use Rattle.ynl_saved_text.specs.declared.kinds.StateKind.TheVariants as kind
use Rattle.ynl_saved.specs.declared.lines.StateLine.{StateLine}
use Rattle.ynl_saved.specs.declared.lines.StateLine.TheVariants.{Begin, Partition, Node, Live, Ask, Finished, Container as Holds, Stopped, Maximum, End}
use Rattle.ynl_saved_text.specs.Sound.{IsWanted, HasParts, IsLine}
use Rattle.ynl_saved_text.specs.StateLines.{size_at, within, container_by, line_data, state_line, kind_of_line, may_follow, version_at, begin_at, partition_at, node_at, live_at, ask_at, finished_at, asked_at, wanted_at, wanted_label_at, what_at, container_at, stopped_at, maximum_at, end_at, line_by, in_order, line_at, line_behind, IsClocked}
use Rattle.ynl_fields.proofs.Sizes.{size_back, within_back}
use Rattle.ynl_saved_text.proofs.Clean.{clean_line, flat_line}

-- ---- containers

-- a container for something else
abbrev changed : Container → What → Container
changed p what = record { id = p.id; node = p.node; tenant = p.tenant; app = p.app; what = what; size = p.size }

-- a container that was asked for, whose numbers are still to be looked at
abbrev by_numbers : Container → Label → ℕ → Result StateLine StateFault
by_numbers p label priority =
    (within most_priority priority >>= λ priority. Ok (Asked label priority)) >>= λ what. size_at p.size.memory p.size.vcores >>= λ size.
    Ok (Holds (record { id = p.id; node = p.node; tenant = p.tenant; app = p.app; what = what; size = size }))

container_back : (w : What) (p : Container) → HasParts p → IsWanted w → HasClock p.id → container_at (container_by w p) ≡ Ok (Holds (changed p w))
unfolding container_at text_or number_or keys_or wanted_at asked_at wanted_label_at what_at
container_back Master p h l clock =
    λ i. name_back fault.Name p.app h.3 i >>= λ app. id_back fault.Name p.id h.0 clock i >>= λ id. name_back fault.Name p.node h.1 i >>= λ node. name_back fault.Name p.tenant h.2 i >>= λ tenant.
    size_back fault.Range p.size h.4 i >>= λ size. Ok (Holds (record { id = id; node = node; tenant = tenant; app = app; what = Master; size = size }))
container_back (Asked label priority) p h l clock =
    let named : container_at (container_by (Asked label priority) p) ≡ by_numbers p label priority =
    λ i. name_back fault.Name p.app h.3 i >>= λ app. id_back fault.Name p.id h.0 clock i >>= λ id. (label_back fault.Name label l.0 i >>= λ label. Ok (Some (label, priority))) >>= λ wanted.
    name_back fault.Name p.node h.1 i >>= λ node. name_back fault.Name p.tenant h.2 i >>= λ tenant. what_at wanted >>= λ what. size_at p.size.memory p.size.vcores >>= λ size.
    Ok (Holds (record { id = id; node = node; tenant = tenant; app = app; what = what; size = size })) in
    let numbered : by_numbers p label priority ≡ Ok (Holds (changed p (Asked label priority))) =
    λ i. (within_back fault.Range most_priority priority l.1 i >>= λ priority. Ok (Asked label priority)) >>= λ what. size_back fault.Range p.size h.4 i >>= λ size.
    Ok (Holds (record { id = p.id; node = p.node; tenant = p.tenant; app = p.app; what = what; size = size })) in
    named ∙ numbered

-- ---- each kind

kind_back : (l : StateLine) → IsLine l → IsClocked l → line_by (kind_of_line l) (line_data l) ≡ Ok l
unfolding text_or number_or keys_or version_at begin_at partition_at node_at live_at ask_at finished_at stopped_at maximum_at end_at
kind_back Begin h n = refl
kind_back (Partition label clock) h n = λ i. label_back fault.Name label h i >>= λ label. within_back fault.Range most_clock clock n i >>= λ clock. Ok (Partition label clock)
kind_back (Node r) h n =
    λ i. label_back fault.Name r.label h.1 i >>= λ label. name_back fault.Name r.name h.0 i >>= λ node. within_back fault.Range most_clock r.stamp n i >>= λ stamp. size_back fault.Range r.size h.2 i >>= λ size.
    Ok (Node (record { name = node; label = label; size = size; stamp = stamp }))
kind_back (Live queue app user label master) h n =
    λ i. name_back fault.Name app h.1 i >>= λ app. label_back fault.Name label h.3 i >>= λ label. path_back fault.Name queue h.0 i >>= λ queue. name_back fault.Name user h.2 i >>= λ user.
    size_back fault.Range master h.4 i >>= λ master. Ok (Live queue app user label master)
kind_back (Ask tenant app ask) h n =
    λ i. name_back fault.Name app h.1 i >>= λ app. label_back fault.Name ask.label h.2 i >>= λ label. name_back fault.Name tenant h.0 i >>= λ tenant. within_back fault.Range most_count ask.count n i >>= λ count.
    within_back fault.Range most_priority ask.priority h.4 i >>= λ priority. size_back fault.Range ask.size h.3 i >>= λ size. Ok (Ask tenant app (record { label = label; priority = priority; count = count; size = size }))
kind_back (Finished queue app) h n = λ i. name_back fault.Name app h.1 i >>= λ app. path_back fault.Name queue h.0 i >>= λ queue. Ok (Finished queue app)
kind_back (Holds p) h n = container_back p.what p h.0 h.1 n
kind_back (Stopped queue) h n = λ i. path_back fault.Name queue h i >>= λ queue. Ok (Stopped queue)
kind_back (Maximum queue label maximum) h n =
    λ i. label_back fault.Name label h.1 i >>= λ label. path_back fault.Name queue h.0 i >>= λ queue. within_back fault.Range whole maximum h.2 i >>= λ maximum. Ok (Maximum queue label maximum)
kind_back (End lines) h n = refl

-- ---- the order

-- the line of an object that has a kind in order
abbrev by_order : Option StateKind → StateKind → Data → Result StateLine StateFault
by_order before next d = in_order before next >>= λ kind. line_by kind d

container_kind : (before : Option StateKind) (w : What) (p : Container) → line_at before (container_by w p) ≡ by_order before kind.Container (container_by w p)
unfolding line_at
container_kind before Master p = refl
container_kind before (Asked label priority) p = refl

line_kind : (before : Option StateKind) (l : StateLine) → line_at before (line_data l) ≡ by_order before (kind_of_line l) (line_data l)
unfolding line_at
line_kind before (Holds p) = container_kind before p.what p
line_kind before Begin = refl
line_kind before (Partition label clock) = refl
line_kind before (Node r) = refl
line_kind before (Live queue app user label master) = refl
line_kind before (Ask tenant app ask) = refl
line_kind before (Finished queue app) = refl
line_kind before (Stopped queue) = refl
line_kind before (Maximum queue label maximum) = refl
line_kind before (End lines) = refl

ordered : (before : Option StateKind) (next : StateKind) (d : Data) → may_follow before next ≡ true → by_order before next d ≡ line_by next d
unfolding in_order
ordered before next d may = ap (λ b. cond b (Ok next) (Err fault.Kind) >>= λ kind. line_by kind d) may

-- ---- texts

pub line_back : (l : StateLine) (before : Option StateKind) → IsLine l → IsClocked l → may_follow before (kind_of_line l) ≡ true → line_behind before (state_line l) ≡ Ok l
line_back l before h n may =
    ap (λ o. or_fault fault.Syntax o >>= line_at before) (text_reads (line_data l) (clean_line l h n) (omega (arith, flat_line l)))
    ∙ line_kind before l ∙ ordered before (kind_of_line l) (line_data l) may ∙ kind_back l h n
