-- What right evidence shows, and which evidence is right.
use Rattle.std.specs.Prelude.{◌≡◌, ◌<◌, Bool, false, not, IsTrue, List, ◌∷◌, ◌++◌, take, All, AllPairs, None}
use Rattle.ynl_resource.specs.Names.{same_name, top_level, is_within}
use Rattle.ynl_resource.specs.declared.names.Name.{Name}
use Rattle.ynl_resource.specs.declared.labels.Label.{Label}
use Rattle.ynl_model.specs.Accepted.{is_accepted}
use Rattle.ynl_model.specs.declared.entries.Entry.{Entry}
use Rattle.ynl_model.specs.declared.events.Event.{Event}
use Rattle.ynl_model.specs.declared.events.Event.TheVariants.{Submit, Ask, Release, Finish, Stop, Start, Poll, Usage, Commit, Maximum}
use Rattle.ynl_model.specs.declared.nodes.Tracked.{Tracked}
use Rattle.ynl_model.specs.Queues.{Config}
use Rattle.ynl_model.specs.View.{track, view, events_of, is_in, is_sole, restrict}
use Rattle.ynl_journal.specs.Journal.{Agrees, events_in}
use Rattle.ynl_view.specs.evidence.Evidence.{Placed, entries_in, events_placed, evidence_of}
use Rattle.ynl_view.specs.evidence.Flaws.{flaw_of}

-- Places rise, the events are their own view, and each reply that is there is that of the cluster that holds the tenant alone and is
-- given these events.
pub record IsRight (c : Config) (t : Name) (p : Label) (placed : List Placed) : Type 0 where
  pub rising : AllPairs (λ (a b : Placed). a.0 < b.0) placed
  pub kept : events_of (view c (events_placed placed) t p) ≡ events_placed placed
  pub alone : Agrees (restrict c t) (entries_in placed)

-- evidence without a flaw is right
abbrev pub FlawlessIsRight : Type 0
FlawlessIsRight = (c : Config) (t : Name) (p : Label) (placed : List Placed) → flaw_of c t p placed ≡ None → IsRight c t p placed

-- of a journal in which each reply that is there is the cluster's, under an accepted configuration, the evidence for each tenant that alone
-- may use an exclusive partition has no flaw
abbrev pub EvidencePasses : Type 0
EvidencePasses =
    (c : Config) (entries : List Entry) (t : Name) (p : Label) → Agrees c entries → IsTrue (is_accepted c) → IsTrue (is_sole c t p)
    → flaw_of c t p (evidence_of c entries t p) ≡ None

-- ---- whose events

-- whether an event names a tenant, or a queue of a tenant, and another than this
abbrev pub is_of_another : Name → Event → Bool
is_of_another t (Submit queue app user label master) = not (is_within (top_level t) queue)
is_of_another t (Stop queue) = not (is_within (top_level t) queue)
is_of_another t (Start queue) = not (is_within (top_level t) queue)
is_of_another t (Usage queue label) = not (is_within (top_level t) queue)
is_of_another t (Maximum queue label share) = not (is_within (top_level t) queue)
is_of_another t (Finish tenant app) = not (same_name tenant t)
is_of_another t (Ask tenant app label priority count size) = not (same_name tenant t)
is_of_another t (Poll tenant app label) = not (same_name tenant t)
is_of_another t (Release tenant id) = not (same_name tenant t)
is_of_another t (Commit proposal) = not (same_name proposal.tenant t)
is_of_another t _ = false

-- a Commit on a node that is in the partition
abbrev pub IsCommitOn : List Tracked → Label → Event → Type 0
IsCommitOn nodes p (Commit proposal) = IsTrue (is_in nodes proposal.node p)
IsCommitOn nodes p _ = ⊥

-- an event of another tenant is a Commit on a node of the partition
abbrev pub IsOwn : Name → Label → List Tracked → Event → Type 0
IsOwn t p nodes event = IsTrue (is_of_another t event) → IsCommitOn nodes p event

-- of evidence without a flaw each event is the tenant's own, or of no tenant, or a Commit on a node that the evidence has in the partition
abbrev pub HasNoOthers : Type 0
HasNoOthers =
    (c : Config) (t : Name) (p : Label) (before after : List Placed) (x : Placed) → flaw_of c t p (before ++ x ∷ after) ≡ None
    → IsOwn t p (track c (events_placed before)) x.1.event

-- and so is each event of the evidence of any journal, where the journal has the node in the partition
abbrev pub HandsNoOthers : Type 0
HandsNoOthers =
    (c : Config) (entries : List Entry) (t : Name) (p : Label)
    → All (λ (x : Placed). IsOwn t p (track c (take x.0 (events_in entries))) x.1.event) (evidence_of c entries t p)
