-- Whether evidence is right: its places rise, each event is kept as it is by the view of the events up to it, and each reply that is
-- there is that of the cluster that holds the tenant alone.
use Rattle.std.specs.Prelude.{◌≡◌, ℕ, ◌+◌, Bool, ◌&&◌, List, [], ◌∷◌, ◌++◌, length, nat_lt, Option, Some, None, Result, Ok, Err, if◌then◌else◌}
use Rattle.std.specs.List.{list_all}
use Rattle.ynl_resource.specs.declared.names.Name.{Name}
use Rattle.ynl_resource.specs.declared.labels.Label.{Label}
use Rattle.ynl_model.specs.declared.events.Event.{Event}
use Rattle.ynl_model.specs.declared.replies.Reply.{Reply}
use Rattle.ynl_model.specs.Queues.{Config}
use Rattle.ynl_model.specs.Events.{step, state_after}
use Rattle.ynl_model.specs.View.{track, restrict}
use Rattle.ynl_journal.specs.Same.{fits_reply}
use Rattle.ynl_view.specs.declared.evidence.flaws.Flaw.{Flaw}
use Rattle.ynl_view.specs.declared.evidence.flaws.Flaw.TheVariants.{NotKept, Differs}
use Rattle.ynl_view.specs.declared.evidence.flaws.EvidenceFault.{EvidenceFault}
use Rattle.ynl_view.specs.declared.evidence.flaws.EvidenceFault.TheVariants.{Flawed, NoMemory}
use Rattle.ynl_view.specs.evidence.Evidence.{Placed, events_placed}
use Rattle.ynl_view.specs.evidence.Kept.{is_kept}

-- whether a place comes behind those of all entries before it
abbrev pub comes_behind : List Placed → ℕ → Bool
comes_behind before place = list_all (λ (x : Placed). nat_lt x.0 place) before

-- whether an entry may come next: its place comes behind, and its event is kept as it is by the view
abbrev pub may_follow : Config → Name → Label → List Placed → Placed → Bool
may_follow c t p before x = comes_behind before x.0 && is_kept c t p (track c (events_placed before)) x.1.event

-- the reply to an event of the cluster that holds the tenant alone and was given the events of the entries
abbrev pub reply_alone : Config → Name → List Placed → Event → Reply
reply_alone c t before event = (step (restrict c t) (state_after (restrict c t) (events_placed before)) event).reply

-- the entries with one more, which has the reply of that cluster or none
abbrev pub if_alike : Config → Name → List Placed → Placed → Result (List Placed) Flaw
if_alike c t before x = if fits_reply x.1 (reply_alone c t before x.1.event) then Ok (before ++ x ∷ []) else Err Differs

-- the entries with one more, or the flaw that this has
abbrev pub taken : Config → Name → Label → List Placed → Placed → Result (List Placed) Flaw
taken c t p before x = if may_follow c t p before x then if_alike c t before x else Err NotKept

-- a flaw, and which entry has it, counted from 1
abbrev pub Found : Type 0
Found = ℕ × Flaw

-- what is found in the rest, unless the n-th entry has a flaw
abbrev pub unless_flawed : (List Placed → Option Found) → ℕ → Result (List Placed) Flaw → Option Found
unless_flawed rest n (Ok more) = rest more
unless_flawed rest n (Err flaw) = Some (n, flaw)

-- the first flaw of entries that come behind others
abbrev pub flaw_from : Config → Name → Label → List Placed → List Placed → Option Found
flaw_from c t p before [] = None
flaw_from c t p before (x ∷ xs) = unless_flawed (λ more. flaw_from c t p more xs) (length before + 1) (taken c t p before x)

-- the first flaw of evidence; where there is none, it is right
abbrev pub flaw_of : Config → Name → Label → List Placed → Option Found
flaw_of c t p placed = flaw_from c t p [] placed

-- the first flaw is told; of want of memory nothing is said
abbrev pub IsFault : Config → Name → Label → List Placed → EvidenceFault → Type 0
IsFault c t p placed (Flawed n flaw) = flaw_of c t p placed ≡ Some (n, flaw)
IsFault c t p placed NoMemory = Unit {0}
