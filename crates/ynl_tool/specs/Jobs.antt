-- How a job ends.
use Rattle.std.specs.Prelude.{⊤, ◌≡◌, ◌⊎◌, ℕ, ◌==◌, Bool, true, false, List, [], ◌++◌, Option, Some, None, Result, Ok, Err, codes, decimal, if◌then◌else◌}
use Rattle.std.specs.Option.{option_map_or}
use Rattle.std.specs.Io.KnownBytes.{Consumes, Appends}
use Rattle.ynl_resource.specs.declared.names.Name.{Name}
use Rattle.ynl_resource.specs.declared.labels.Label.{Label}
use Rattle.ynl_model.specs.Cluster.{State as Standing, opening}
use Rattle.ynl_model.specs.Queues.{Config as Configured}
use Rattle.ynl_model.specs.View.{is_sole}
use Rattle.ynl_config.specs.declared.faults.ConfigFault.{ConfigFault}
use Rattle.ynl_config.specs.Earliest.{fault_word}
use Rattle.ynl_config.specs.Meaning.{config_of}
use Rattle.ynl_commands.specs.declared.run.ToolFault.{ToolFault}
use Rattle.ynl_commands.specs.declared.run.ToolFault.TheVariants.{Read, Write, NoMemory, Unclosed}
use Rattle.ynl_commands.specs.declared.run.Summary.{Summary}
use Rattle.ynl_commands.specs.Input.{Stream}
use Rattle.ynl_commands.specs.Lines.{AppendsFront}
use Rattle.ynl_commands.specs.declared.evidence.Tenancy.{Tenancy}
use Rattle.ynl_commands.specs.Answering.{Answers}
use Rattle.ynl_commands.specs.Audit.{journal_way}
use Rattle.ynl_commands.specs.Evidence.{evidence_answer, evidence_way, placed_answer}
use Rattle.ynl_commands.specs.Readings.{Way, Reading}
use Rattle.ynl_commands.specs.Run.{line_of, Outcome}
use Rattle.ynl_commands.specs.Running.{Runs}
use Rattle.ynl_commands.specs.Auditing.{AuditsJournal}
use Rattle.ynl_commands.specs.Explaining.{Explains}
use Rattle.ynl_commands.specs.Saving.{SavesScript}
use Rattle.ynl_saved.specs.Restoring.{Restored}
use Rattle.ynl_saved_text.specs.declared.faults.BadState.{BadState}
use Rattle.ynl_saved_text.specs.StateLines.{fault_word as state_word}
use Rattle.ynl_saved_text.specs.Texts.{state_read}
use Rattle.ynl_commands.specs.Telling.{TellsTenant}
use Rattle.ynl_tool.specs.Living.{Lives}
use Rattle.ynl_words.specs.declared.words.Question.{Question}
use Rattle.ynl_tool.specs.declared.jobs.JobRefusal.{JobRefusal}
use Rattle.ynl_tool.specs.declared.jobs.JobRefusal.TheVariants.{Config, NotSole, State}
use Rattle.ynl_words.specs.declared.words.SequentialKind.{SequentialKind}
use Rattle.ynl_words.specs.declared.words.SequentialKind.TheVariants.{Run, Tenant, Audit, Evidence, AuditEvidence, Explain, Save}

-- how many bytes of a configuration are read at most: one more than it may have
abbrev pub most_read : ℕ
most_read = 1048577

-- and of the text of a state
abbrev pub most_read_of_state : ℕ
most_read_of_state = 268435457

-- the line on the error stream
abbrev pub error_line : ToolFault → List ℕ
error_line Read = line_of (codes "ynl: read fault")
error_line Write = line_of (codes "ynl: write fault")
error_line NoMemory = line_of (codes "ynl: out of memory")
error_line Unclosed = line_of (codes "ynl: not closed")

-- and that of a text which is no configuration
abbrev pub config_line : ConfigFault → List ℕ
config_line fault = codes "ynl: config: " ++ (fault_word fault ++ codes "\n")

-- where a text has its fault, at the end of a line: the number of the line, if it is of one
abbrev pub place_text : ℕ → List ℕ
place_text line = if line == 0 then codes "\n" else (codes ", line " ++ (decimal line ++ codes "\n"))

-- and that of a state that there is none of
abbrev pub state_line : BadState → List ℕ
state_line bad = codes "ynl: state: " ++ (state_word bad.fault ++ place_text bad.line)

-- and that of a job that is not begun, or comes to nothing
abbrev pub refusal_line : JobRefusal → List ℕ
refusal_line (Config fault) = config_line fault
refusal_line NotSole = line_of (codes "ynl: not sole")
refusal_line (State bad) = state_line bad

-- how a job ends: with an input that came to its end or to a line with a fault, without being begun, or with a fault of reading,
-- writing or memory
abbrev pub Ending : Type 0
Ending = Result (Result Summary JobRefusal) ToolFault

-- the exit status of a job that came to the end of its input or to a line with a fault
abbrev pub status_of : Summary → ℕ
status_of summary = option_map_or (λ fault. 1) summary.fault 0

-- the exit status
abbrev pub status_by : Ending → ℕ
status_by (Ok (Ok summary)) = status_of summary
status_by (Ok (Err refusal)) = 1
status_by (Err e) = 3

-- what is said on the error stream: nothing, or after an error its line, or what the stream took of it
abbrev pub Tells : Option (List ℕ) → Option (List ℕ) → Ending → Type 0
Tells old new (Ok (Ok summary)) = Appends old new []
Tells old new (Ok (Err refusal)) = AppendsFront old new (refusal_line refusal)
Tells old new (Err e) = AppendsFront old new (error_line e)

-- nothing was read or written
pub record IsIdle (reader writer : Stream) : Type 0 where
  pub unread : Consumes reader.before reader.after []
  pub unwritten : Appends writer.before writer.after []

-- the job is not begun: for this reason, or memory was refused
abbrev pub NotBegun : Stream → Stream → JobRefusal → Ending → Type 0
NotBegun reader writer refusal (Ok (Ok summary)) = ⊥
NotBegun reader writer refusal (Ok (Err told)) = (told ≡ refusal) × IsIdle reader writer
NotBegun reader writer refusal (Err e) = (e ≡ NoMemory) × IsIdle reader writer

-- how a job ends that lacks what it needs: it is refused for the fault of that, or memory was refused
abbrev pub EndsWithout : {X F : Type 0} → (F → JobRefusal) → Result X F → Ending → Type 0
EndsWithout refusal (Ok x) ended = ended ≡ Err NoMemory
EndsWithout refusal (Err fault) ended = (ended ≡ Ok (Err (refusal fault))) ⊎ (ended ≡ Err NoMemory)

-- how a job ends that has no configuration: the text has a fault, or memory was refused
abbrev pub EndsWithoutConfig : List ℕ → Ending → Type 0
EndsWithoutConfig text ended = EndsWithout (λ fault. Config fault) (config_of text) ended

-- how a job ends whose state could not be read, under its configuration or the fault of that, which comes first; or memory was refused
abbrev pub EndsUnreadUnder : ToolFault → Result Configured ConfigFault → Ending → Type 0
EndsUnreadUnder fault (Ok c) ended = (ended ≡ Err fault) ⊎ (ended ≡ Err NoMemory)
EndsUnreadUnder fault (Err bad) ended = (ended ≡ Ok (Err (Config bad))) ⊎ (ended ≡ Err NoMemory)

abbrev pub EndsUnread : ToolFault → List ℕ → Ending → Type 0
EndsUnread fault text ended = EndsUnreadUnder fault (config_of text) ended

-- the job with what it needs; or, where there is none, it is not begun, for the fault of that
abbrev pub DoesWith : {X F : Type 0} → Stream → Stream → (F → JobRefusal) → (X → Ending → Type 0) → Result X F → Ending → Type 0
DoesWith reader writer refusal job (Ok x) ended = job x ended
DoesWith reader writer refusal job (Err fault) ended = NotBegun reader writer (refusal fault) ended

-- the state of what was restored, or the fault of what was read
abbrev pub state_of : Result Restored BadState → Result Standing BadState
state_of (Ok r) = Ok r.state
state_of (Err bad) = Err bad

-- the state that a job begins from: the opening state, or that of a text, or the text's first fault
abbrev pub begins : Configured → Option (List ℕ) → Result Standing BadState
begins c None = Ok (opening c)
begins c (Some text) = state_of (state_read c text)

-- how a job ends that has no cluster of that state: the text has a fault, or memory was refused
abbrev pub EndsWithoutState : Configured → Option (List ℕ) → Ending → Type 0
EndsWithoutState c from ended = EndsWithout (λ bad. State bad) (begins c from) ended

-- a run of this configuration, from this state
abbrev pub RunsFrom : Stream → Stream → Configured → Standing → Ending → Type 0
RunsFrom reader writer c s (Ok (Ok summary)) = Runs reader writer c s (Ok summary)
RunsFrom reader writer c s (Ok (Err refusal)) = ⊥
RunsFrom reader writer c s (Err e) = Runs reader writer c s (Err e)

-- a run of this configuration, from the state that it begins from
abbrev pub RunsJob : Stream → Stream → Configured → Option (List ℕ) → Ending → Type 0
RunsJob reader writer c from ended = DoesWith reader writer (λ bad. State bad) (RunsFrom reader writer c) (begins c from) ended

-- an audit against a cluster of this configuration, from this state
abbrev pub AuditsFrom : Stream → Stream → Configured → Standing → Ending → Type 0
AuditsFrom reader writer c s (Ok (Ok summary)) = AuditsJournal reader writer c s (Ok summary)
AuditsFrom reader writer c s (Ok (Err refusal)) = ⊥
AuditsFrom reader writer c s (Err e) = AuditsJournal reader writer c s (Err e)

-- an audit against a cluster of this configuration, from the state that it begins from
abbrev pub AuditsJob : Stream → Stream → Configured → Option (List ℕ) → Ending → Type 0
AuditsJob reader writer c from ended = DoesWith reader writer (λ bad. State bad) (AuditsFrom reader writer c) (begins c from) ended

-- why a tenant's application waits is told, after a script from this state
abbrev pub ExplainsFrom : Stream → Stream → Configured → Question → Standing → Ending → Type 0
ExplainsFrom reader writer c q s (Ok (Ok summary)) = Explains reader writer c s q (Ok summary)
ExplainsFrom reader writer c q s (Ok (Err refusal)) = ⊥
ExplainsFrom reader writer c q s (Err e) = Explains reader writer c s q (Err e)

-- why a tenant's application waits is told, after a script from the state that it begins from
abbrev pub ExplainsJob : Stream → Stream → Configured → Option (List ℕ) → Question → Ending → Type 0
ExplainsJob reader writer c from q ended = DoesWith reader writer (λ bad. State bad) (ExplainsFrom reader writer c q) (begins c from) ended

-- the state after a script from this state is written; where its text would be too long that is told, and no line
abbrev pub SavesFrom : Stream → Stream → Configured → Standing → Ending → Type 0
SavesFrom reader writer c s (Ok (Ok summary)) = SavesScript reader writer c s (Ok (Ok summary))
SavesFrom reader writer c s (Ok (Err (State bad))) = (bad.line ≡ 0) × SavesScript reader writer c s (Ok (Err bad.fault))
SavesFrom reader writer c s (Ok (Err refusal)) = ⊥
SavesFrom reader writer c s (Err e) = SavesScript reader writer c s (Err e)

-- the state after a script from the state that it begins from is written
abbrev pub SavesJob : Stream → Stream → Configured → Option (List ℕ) → Ending → Type 0
SavesJob reader writer c from ended = DoesWith reader writer (λ bad. State bad) (SavesFrom reader writer c) (begins c from) ended

-- what a tenant's partition sees is told, where the tenant is alone there
abbrev pub TellsJob : Stream → Stream → Bool → Configured → Name → Label → Bool → Ending → Type 0
TellsJob reader writer accepted c t p true (Ok (Ok summary)) = TellsTenant reader writer accepted c t p (Ok summary)
TellsJob reader writer accepted c t p true (Ok (Err refusal)) = ⊥
TellsJob reader writer accepted c t p true (Err e) = TellsTenant reader writer accepted c t p (Err e)
TellsJob reader writer accepted c t p false ended = NotBegun reader writer NotSole ended

-- a cluster's tenant and partition
abbrev pub tenancy : Configured → Name → Label → Tenancy
tenancy c t p = record { config = c; tenant = t; label = p }

-- a job that writes only once reading has ended, where the tenant is alone
abbrev pub AnswersJob : {S F : Type 0} → Way S F → (Reading S F → Outcome) → Stream → Stream → Bool → Ending → Type 0
AnswersJob w answer reader writer true (Ok (Ok summary)) = Answers w answer reader writer (Ok summary)
AnswersJob w answer reader writer true (Ok (Err refusal)) = ⊥
AnswersJob w answer reader writer true (Err e) = Answers w answer reader writer (Err e)
AnswersJob w answer reader writer false ended = NotBegun reader writer NotSole ended

-- the evidence of a journal is written
abbrev pub HandsJob : Stream → Stream → Tenancy → Ending → Type 0
HandsJob reader writer whose ended = AnswersJob journal_way (evidence_answer whose) reader writer (is_sole whose.config whose.tenant whose.label) ended

-- evidence is audited
abbrev pub AuditsEvidenceJob : Stream → Stream → Tenancy → Ending → Type 0
AuditsEvidenceJob reader writer whose ended = AnswersJob (evidence_way whose) placed_answer reader writer (is_sole whose.config whose.tenant whose.label) ended

-- a session of so many rounds is told, from this state, in which no worker is halted
abbrev pub LivesFrom : ℕ → Stream → Stream → Configured → Standing → Ending → Type 0
LivesFrom rounds reader writer c s (Ok (Ok summary)) = Lives ⊤ reader writer (record { config = c; state = s }) rounds (Ok summary)
LivesFrom rounds reader writer c s (Ok (Err refusal)) = ⊥
LivesFrom rounds reader writer c s (Err e) = Lives ⊤ reader writer (record { config = c; state = s }) rounds (Err e)

-- a session of so many rounds is told, from the state that it begins from
abbrev pub LivesJob : ℕ → Option (List ℕ) → Stream → Stream → Configured → Ending → Type 0
LivesJob rounds from reader writer c ended = DoesWith reader writer (λ bad. State bad) (LivesFrom rounds reader writer c) (begins c from) ended

-- a job that needs one thread, with a cluster of this configuration, where that may be known to be accepted, and with the text of the state that it
-- may begin from
abbrev pub DoesSequentialJob : Bool → SequentialKind → Option (List ℕ) → Stream → Stream → Configured → Ending → Type 0
DoesSequentialJob accepted Run from reader writer c ended = RunsJob reader writer c from ended
DoesSequentialJob accepted (Tenant t p) from reader writer c ended = TellsJob reader writer accepted c t p (is_sole c t p) ended
DoesSequentialJob accepted Audit from reader writer c ended = AuditsJob reader writer c from ended
DoesSequentialJob accepted (Evidence t p) from reader writer c ended = HandsJob reader writer (tenancy c t p) ended
DoesSequentialJob accepted (AuditEvidence t p) from reader writer c ended = AuditsEvidenceJob reader writer (tenancy c t p) ended
DoesSequentialJob accepted Save from reader writer c ended = SavesJob reader writer c from ended
DoesSequentialJob accepted (Explain q) from reader writer c ended = ExplainsJob reader writer c from q ended

-- what a job does to its reader and its writer with a cluster of a configuration, and how it ends
abbrev pub Doing : Type 1
Doing = Stream → Stream → Configured → Ending → Type 0

-- the job with the configuration that a text means
abbrev pub DoesText : Stream → Stream → Doing → List ℕ → Ending → Type 0
DoesText reader writer job text ended = DoesWith reader writer (λ fault. Config fault) (job reader writer) (config_of text) ended

-- the job was done, and the exit status and the error stream tell how it ended
pub record Executes (reader writer errors : Stream) (job : Doing) (text : List ℕ) (status : ℕ) : Type 0 where
  pub ended : Ending
  pub does : DoesText reader writer job text ended
  pub told : Tells errors.before errors.after ended
  pub tells : status ≡ status_by ended

-- no job was begun, since its state could not be read, and the exit status and the error stream tell how it ended
pub record ExecutesUnread (errors : Stream) (fault : ToolFault) (text : List ℕ) (status : ℕ) : Type 0 where
  pub ended : Ending
  pub does : EndsUnread fault text ended
  pub told : Tells errors.before errors.after ended
  pub tells : status ≡ status_by ended
