-- What is told to a tenant: the events that its partition sees, and the replies of the cluster that holds the tenant alone.
use Rattle.std.specs.Prelude.{◌≡◌, ◌⊎◌, ℕ, ◌≤◌, Bool, IsTrue, List, [], ◌∷◌, ◌++◌, length, take, Option, Some, None, option_map, IfSome, Result, Ok, Err, IfOk}
use Rattle.std.specs.List.{concat}
use Rattle.std.specs.Io.KnownBytes.{Appends}
use Rattle.ynl_resource.specs.declared.names.Name.{Name}
use Rattle.ynl_resource.specs.declared.labels.Label.{Label}
use Rattle.ynl_model.specs.declared.events.Event.{Event}
use Rattle.ynl_model.specs.declared.replies.Reply.{Reply}
use Rattle.ynl_model.specs.declared.nodes.Tracked.{Tracked}
use Rattle.ynl_model.specs.Queues.{Config}
use Rattle.ynl_model.specs.Events.{step, replies, replies_to}
use Rattle.ynl_model.specs.View.{Viewed, view, view_from, seen_of, track_step, events_of, places_of, restrict}
use Rattle.ynl_model.specs.Promises.{Headline}
use Rattle.ynl_core.specs.World.{World, opened, stepped}
use Rattle.ynl_journal.specs.Journal.{entry}
use Rattle.ynl_lines.specs.declared.faults.InputFault.TheVariants.{Script as InScript}
use Rattle.ynl_lines.specs.Writing.{line_text}
use Rattle.ynl_commands.specs.declared.run.ToolFault.{ToolFault}
use Rattle.ynl_commands.specs.declared.run.ToolFault.TheVariants.{Read, Write, NoMemory, Unclosed}
use Rattle.ynl_commands.specs.declared.run.Summary.{Summary}
use Rattle.ynl_commands.specs.declared.tenant.Stand.{Stand}
use Rattle.ynl_commands.specs.Input.{Stream}
use Rattle.ynl_commands.specs.Lines.{AppendsPart}
use Rattle.ynl_commands.specs.Run.{line_of, fault_lines}
use Rattle.ynl_commands.specs.Readings.{ReadsTo, ReadsSome}
use Rattle.ynl_commands.specs.Script.{Script, script_way, script_of}

-- ---- what is written

-- the line of each event, with its place and the reply to it
abbrev pub entry_lines : List ℕ → List Event → List Reply → List (List ℕ)
entry_lines places [] replies = []
entry_lines [] (e ∷ events) replies = []
entry_lines (n ∷ places) (e ∷ events) [] = []
entry_lines (n ∷ places) (e ∷ events) (r ∷ replies) = line_of (line_text n (entry e (Some r))) ∷ entry_lines places events replies

-- the lines of what is seen, with the replies of a cluster of this configuration
abbrev pub seen_lines : Config → List Viewed → List (List ℕ)
seen_lines c seen = entry_lines (places_of seen) (events_of seen) (replies_to c (events_of seen))

-- the lines of a tenant's view: the replies are those of the cluster that holds the tenant alone
abbrev pub view_lines : Config → Name → Label → List Event → List (List ℕ)
view_lines c t p events = seen_lines (restrict c t) (view c events t p)

-- what a tenant is told of a script
abbrev pub tenant_lines : Config → Name → Label → Script → List (List ℕ)
tenant_lines c t p s = view_lines c t p s.made ++ fault_lines s

-- the lines of what is seen of events from a place on, by the track before them, with the replies of this cluster
abbrev pub seen_lines_from : World → List Viewed → List (List ℕ)
seen_lines_from core seen = entry_lines (places_of seen) (events_of seen) (replies core.config core.state (events_of seen))

-- the lines of events from a place on: of what is seen by the track before them, with the replies of the tenant's cluster
abbrev pub lines_from : Config → Name → Label → World → ℕ → List Tracked → List Event → List (List ℕ)
lines_from c t p core place nodes events = seen_lines_from core (view_from t p c place nodes events)

-- ---- writing it

-- some lines from the front were written
pub record AppendsLines (old new : Option (List ℕ)) (lines : List (List ℕ)) : Type 0 where
  pub count : ℕ
  pub bound : count ≤ length lines
  pub appended : Appends old new (concat (take count lines))

-- a fault left a front of the lines: whole lines where memory was refused, and not all of them where a write failed. The reader has no
-- part in it.
abbrev pub LeavesLines : Option (List ℕ) → Option (List ℕ) → List (List ℕ) → ToolFault → Type 0
LeavesLines old new lines Write = AppendsPart old new (concat lines)
LeavesLines old new lines NoMemory = AppendsLines old new lines
LeavesLines old new lines Read = ⊥
LeavesLines old new lines Unclosed = ⊥

-- the line of an event
abbrev pub entry_line : World → ℕ → Event → List ℕ
entry_line core place e = line_of (line_text place (entry e (Some (step core.config core.state e).reply)))

-- an event was answered in the text that is held back; or memory was refused, and then that text is as it was
abbrev pub HoldsEvent : {A E : Type 0} → List ℕ → List ℕ → World → World → ℕ → Event → Result A E → Type 0
HoldsEvent old new core next place e (Ok x) = (next ≡ stepped core e) × (new ≡ old ++ entry_line core place e)
HoldsEvent old new core next place e (Err f) = new ≡ old

-- the lines were written, or a fault left a front of them
abbrev pub SaysLines : {A : Type 0} → Option (List ℕ) → Option (List ℕ) → List (List ℕ) → Result A ToolFault → Type 0
SaysLines old new lines (Ok x) = Appends old new (concat lines)
SaysLines old new lines (Err e) = LeavesLines old new lines e

-- ---- one event after another

-- nothing was told yet: no node is tracked, and the tenant's cluster is at its beginning
pub record IsOpened (c : Config) (t : Name) (stand : Stand) : Type 0 where
  pub track : stand.track ≡ []
  pub core : stand.core ≡ opened (restrict c t)

-- the line of an event that is seen, and none of one that is not
abbrev pub sight_lines : World → ℕ → Option Event → List (List ℕ)
sight_lines core place None = []
sight_lines core place (Some e) = entry_line core place e ∷ []

-- the tenant's cluster after an event, if it is seen
abbrev pub stepped_by : World → Option Event → World
stepped_by core None = core
stepped_by core (Some e) = stepped core e

-- the track and the cluster are those after an event
pub record MovesOn (c : Config) (t : Name) (p : Label) (old new : Stand) (e : Event) : Type 0 where
  pub track : new.track ≡ track_step c old.track e
  pub core : new.core ≡ stepped_by old.core (seen_of t p c old.track e)

-- what is seen of an event was told in the text that is held back, and the telling stands after it; or memory was refused
abbrev pub HoldsSight : {A E : Type 0} → List ℕ → List ℕ → Config → Name → Label → Stand → Stand → ℕ → Event → Result A E → Type 0
HoldsSight old new c t p before after place e (Ok x) = MovesOn c t p before after e × (new ≡ old ++ concat (sight_lines before.core place (seen_of t p c before.track e)))
HoldsSight old new c t p before after place e (Err f) = new ≡ old

-- ---- the whole

-- Where a configuration is known to be accepted, the tenant has the headline's promise: the replies that it is told are those of the whole
-- cluster, the partition looks the same there after each event, and no allocation takes a queue above its maximum on it.
abbrev pub AreThose : Bool → Config → List Event → Name → Label → Type 0
AreThose accepted c events t p = IsTrue accepted → Headline c events t p

-- the tenant was told of the script that this input is, and of nothing else
pub record IsToldOf (writer : Stream) (accepted : Bool) (c : Config) (t : Name) (p : Label) (summary : Summary) (input : List ℕ) : Type 0 where
  pub written : Appends writer.before writer.after (concat (tenant_lines c t p (script_of input)))
  pub lines : summary.lines ≡ (script_of input).lines
  pub fault : summary.fault ≡ option_map InScript (script_of input).fault
  pub same : AreThose accepted c (script_of input).made t p

-- the whole input, where the reader tells its bytes
abbrev pub TellsWhole : Stream → Stream → Bool → Config → Name → Label → Result Summary ToolFault → Type 0
TellsWhole reader writer accepted c t p r = IfOk r (λ summary. IfSome reader.before (IsToldOf writer accepted c t p summary))

-- the script was read, and the tenant was told of it and of nothing else
pub record TellsAll (reader writer : Stream) (accepted : Bool) (c : Config) (t : Name) (p : Label) (summary : Summary) : Type 0 where
  pub script : Script
  pub read : ReadsTo script_way reader script
  pub written : Appends writer.before writer.after (concat (tenant_lines c t p script))
  pub lines : summary.lines ≡ script.lines
  pub fault : summary.fault ≡ option_map InScript script.fault
  pub same : AreThose accepted c script.made t p
  pub input : IfSome reader.before (IsToldOf writer accepted c t p summary)

-- the script was read, and then an error left a front of what the tenant is told
pub record TellsSome (reader writer : Stream) (c : Config) (t : Name) (p : Label) (e : ToolFault) : Type 0 where
  pub script : Script
  pub read : ReadsTo script_way reader script
  pub written : LeavesLines writer.before writer.after (tenant_lines c t p script) e

-- the script was not read to its end, and nothing was written
pub record TellsNothing (reader writer : Stream) (e : ToolFault) : Type 0 where
  pub read : ReadsSome script_way reader e
  pub unwritten : Appends writer.before writer.after []

-- Only once the script has been read the tenant is told of it.
abbrev pub TellsTenant : Stream → Stream → Bool → Config → Name → Label → Result Summary ToolFault → Type 0
TellsTenant reader writer accepted c t p (Ok summary) = TellsAll reader writer accepted c t p summary
TellsTenant reader writer accepted c t p (Err Read) = TellsNothing reader writer Read
TellsTenant reader writer accepted c t p (Err NoMemory) = TellsNothing reader writer NoMemory ⊎ TellsSome reader writer c t p NoMemory
TellsTenant reader writer accepted c t p (Err Write) = TellsSome reader writer c t p Write
TellsTenant reader writer accepted c t p (Err Unclosed) = ⊥
