-- What is written of a journal for a tenant, and what an audit of that finds.
use Rattle.std.specs.Prelude.{◌≡◌, ℕ, ◌+◌, Bool, true, false, List, [], ◌∷◌, ◌++◌, map, length, Option, Some, None, Result, Ok, Err, if◌then◌else◌}
use Rattle.std.specs.List.{concat}
use Rattle.ynl_model.specs.declared.entries.Entry.{Entry}
use Rattle.ynl_model.specs.declared.events.Event.{Event}
use Rattle.ynl_model.specs.View.{seen_of, track, track_step}
use Rattle.ynl_journal.specs.Journal.{events_in}
use Rattle.ynl_view.specs.declared.evidence.flaws.Flaw.{Flaw}
use Rattle.ynl_view.specs.declared.evidence.flaws.Flaw.TheVariants.{NotKept, Differs}
use Rattle.ynl_view.specs.evidence.Evidence.{Placed, evidence_of, noted}
use Rattle.ynl_view.specs.evidence.Flaws.{taken}
use Rattle.ynl_view.specs.evidence.Trials.{IsTrialOf}
use Rattle.ynl_lines.specs.declared.faults.BadLine.{BadLine}
use Rattle.ynl_lines.specs.declared.faults.JournalFault.{JournalFault}
use Rattle.ynl_lines.specs.declared.faults.JournalFault.TheVariants as fault
use Rattle.ynl_lines.specs.declared.faults.InputFault.TheVariants.{Journal as InJournal}
use Rattle.ynl_lines.specs.ReadingReplies.{line_of_text}
use Rattle.ynl_lines.specs.Writing.{line_text}
use Rattle.ynl_commands.specs.declared.audit.Found.{Found}
use Rattle.ynl_commands.specs.declared.evidence.Gathered.{Gathered}
use Rattle.ynl_commands.specs.declared.evidence.Gathering.{Gathering}
use Rattle.ynl_commands.specs.declared.evidence.Tenancy.{Tenancy}
use Rattle.ynl_commands.specs.declared.evidence_audit.EvidenceAudit.{EvidenceAudit}
use Rattle.ynl_fields.specs.Reading.{is_blank}
use Rattle.ynl_commands.specs.Readings.{Way, Reading, reading_of}
use Rattle.ynl_commands.specs.Run.{line_of, Outcome, faulty}
use Rattle.ynl_commands.specs.Audit.{answer_of}

-- ---- what is written

-- the lines of entries with their places
abbrev pub placed_lines : List Placed → List (List ℕ)
placed_lines placed = map (λ (x : Placed). line_of (line_text x.0 x.1)) placed

-- their text
abbrev pub placed_text : List Placed → List ℕ
placed_text placed = concat (placed_lines placed)

-- the evidence of a tenancy in a journal
abbrev pub evidence_for : Tenancy → List Entry → List Placed
evidence_for whose entries = evidence_of whose.config entries whose.tenant whose.label

-- a text after so many lines, or the fault that ended them
abbrev pub text_or_fault : List ℕ → ℕ → Option JournalFault → Outcome
text_or_fault text n None = record { text = text; lines = n; fault = None }
text_or_fault text n (Some f) = faulty (InJournal f) n

-- what is written of a journal: its evidence, or its fault alone
abbrev pub evidence_answer : Tenancy → Reading (List Entry) JournalFault → Outcome
evidence_answer whose r = text_or_fault (placed_text (evidence_for whose r.made)) r.lines r.fault

-- the evidence of the entries was gathered, as text
pub record IsGathering (whose : Tenancy) (entries : List Entry) (g : Gathering) : Type 0 where
  pub track : g.track ≡ track whose.config (events_in entries)
  pub count : g.entries ≡ length entries
  pub text : g.text.items ≡ placed_text (evidence_for whose entries)

-- the text of what is seen of an entry
abbrev pub noted_text : ℕ → Option Event → Entry → List ℕ
noted_text place seen e = placed_text (noted place seen e.reply)

-- what the view sees of an entry, by the nodes that were gathered
abbrev pub seen_by : Tenancy → Gathering → Entry → Option Event
seen_by whose g e = seen_of whose.tenant whose.label whose.config g.track e.event

-- what is seen of one more entry was added to the text; of want of memory nothing is said
abbrev pub SeesEntry : {A E : Type 0} → Tenancy → Entry → Gathering → Gathering → Result A E → Type 0
SeesEntry whose e old new (Ok x) = (new.track ≡ track_step whose.config old.track e.event) × (new.entries ≡ old.entries) × (new.text.items ≡ old.text.items ++ noted_text old.entries (seen_by whose old e) e)
SeesEntry whose e old new (Err f) = Unit {0}

-- what is seen of one more entry was added to the text, whatever entries were before; of want of memory nothing is said
abbrev pub NotesEntry : {A E : Type 0} → Tenancy → Entry → Gathering → Gathering → Result A E → Type 0
NotesEntry whose e old new (Ok x) = ((entries : List Entry) → IsGathering whose entries old → IsGathering whose (entries ++ e ∷ []) new) × (new.entries ≡ old.entries + 1)
NotesEntry whose e old new (Err f) = Unit {0}

-- what is told of what was gathered
abbrev pub gathered_answer : Gathered → Outcome
gathered_answer g = text_or_fault g.text.items g.lines g.fault

-- ---- the audit of evidence

-- what a line says: an entry with its place, or nothing where it is blank
abbrev pub placed_read : Result Placed BadLine → Result (Option Placed) JournalFault
placed_read (Ok x) = Ok (Some x)
placed_read (Err bad) = Err fault.Line

abbrev pub placed_said : List ℕ → Result (Option Placed) JournalFault
placed_said line = if is_blank line then Ok None else placed_read (line_of_text line)

-- what was read of a line, where it said an entry
abbrev pub placed_if : Placed → Bool → Option Placed
placed_if read true = Some read
placed_if read false = None

-- the fault that is told of a flaw
abbrev pub fault_of : Flaw → JournalFault
fault_of NotKept = fault.Line
fault_of Differs = fault.Differs

-- the entries with one more, or its fault
abbrev pub or_fault : Result (List Placed) Flaw → Result (List Placed) JournalFault
or_fault (Ok more) = Ok more
or_fault (Err flaw) = Err (fault_of flaw)

-- the entries with what a line says
abbrev pub placed_with : Tenancy → List Placed → Result (Option Placed) JournalFault → Result (List Placed) JournalFault
placed_with whose before (Ok None) = Ok before
placed_with whose before (Ok (Some x)) = or_fault (taken whose.config whose.tenant whose.label before x)
placed_with whose before (Err f) = Err f

-- how evidence is audited
abbrev pub evidence_way : Tenancy → Way (List Placed) JournalFault
evidence_way whose = record { start = []; add = λ before line. placed_with whose before (placed_said line); size = fault.Size }

-- what is told of such an audit
abbrev pub placed_answer : Reading (List Placed) JournalFault → Outcome
placed_answer r = answer_of (length r.made) r.lines r.fault

-- the part of an input that passes its audit as evidence
abbrev pub evidence_audited : Tenancy → List ℕ → Reading (List Placed) JournalFault
evidence_audited whose input = reading_of (evidence_way whose) input

-- the audit has come to the end of these entries
pub record IsEvidenceAudit (whose : Tenancy) (before : List Placed) (audit : EvidenceAudit) : Type 0 where
  pub trial : IsTrialOf whose.config whose.tenant before audit.trial
  pub count : audit.entries ≡ length before

-- what is told of what an audit found
abbrev pub found_answer : Found → Outcome
found_answer found = answer_of found.entries found.lines found.fault
