-- The audit of an input, a line after another.
use Rattle.std.proofs.Common.{◌≡◌, ◌≢◌, inl, inr, ℕ, ◌+◌, ◌≤◌, List, [], ◌∷◌, ◌++◌, length, Bool, true, false, cond, subst, Option, Some, None, Result, Ok, Err, refl, sym, ap, ◌∙◌, arith, length-append}
use Rattle.std.specs.Prelude.{IfErr}
use Rattle.std.specs.Io.KnownBytes.{Appends}
use Rattle.std.proofs.KnownBytes.{Appends-nil}
use Rattle.ynl_model.specs.declared.entries.Entry.{Entry}
use Rattle.ynl_model.specs.Queues.{Config}
use Rattle.ynl_model.specs.Cluster.{State}
use Rattle.ynl_model.specs.Events.{step}
use Rattle.ynl_core.specs.World.{World, stepped}
use Rattle.ynl_journal.specs.Same.{fits_reply}
use Rattle.ynl_lines.specs.declared.faults.JournalFault.{JournalFault}
use Rattle.ynl_lines.specs.declared.faults.JournalFault.TheVariants.{Differs}
use Rattle.ynl_commands.specs.declared.audit.Audit.{Audit}
use Rattle.ynl_commands.specs.declared.audit.Found.{Found}
use Rattle.ynl_commands.specs.declared.lines_in.Lines.{Lines}
use Rattle.ynl_commands.specs.declared.run.ToolFault.{ToolFault}
use Rattle.ynl_commands.specs.declared.run.ToolFault.TheVariants.{Read, Write, NoMemory, Unclosed}
use Rattle.ynl_commands.specs.declared.run.Summary.{Summary}
use Rattle.ynl_commands.specs.Input.{Stream, between, limit, TakesLine}
use Rattle.ynl_commands.specs.Readings.{Reading, ReadsTo, ReadsSome}
use Rattle.ynl_commands.specs.Running.{Writes}
use Rattle.ynl_commands.specs.Audit.{entry_said, reply_after, audited_with, audit_way, audited, answer_of, audit_answer}
use Rattle.ynl_commands.specs.Auditing.{IsAuditOf, fits_next, TakesEntry, Passes, Finds, IsAnswerTo, AuditsWhole, AuditsJournal}
use Rattle.ynl_journal.proofs.Longer.{replayed_push}
use Rattle.ynl_commands.proofs.Readings.{OfReading, ReadSoFar, at_first, took}
use Rattle.ynl_commands.proofs.Runs.{of_some}

-- ---- an entry after another

-- the audit has come to the end of one entry more
one_more : (c : Config) (s : State) (entries : List Entry) (old new : Audit) (e : Entry) → IsAuditOf c s entries old → TakesEntry old e new true → IsAuditOf c s (entries ++ e ∷ []) new
one_more c s entries old new e is takes = record {
  core = takes.1 ∙ ap (λ (w : World). stepped w e.event) is.core ∙ sym (replayed_push c s entries e);
  count = takes.2 ∙ ap (λ n. n + 1) is.count ∙ sym (length-append entries (e ∷ []));
}

module _ (c : Config) (s : State) (entries : List Entry) (old : Audit) (line : List ℕ) (is : IsAuditOf c s entries old) where
  -- what the line said, after these entries
  said_here : (said : Result (Option Entry) JournalFault) → said ≡ entry_said old.entries line → audited_with c s entries (entry_said (length entries) line) ≡ audited_with c s entries said
  said_here said same = ap (λ n. audited_with c s entries (entry_said n line)) (sym is.count) ∙ ap (audited_with c s entries) (sym same)

  -- what was compared is the reply after the entries
  by_test : (e : Entry) (fits : Bool) → Ok (Some e) ≡ entry_said old.entries line → fits_next old e ≡ fits
      → audited_with c s entries (entry_said (length entries) line) ≡ cond fits (Ok (entries ++ e ∷ [])) (Err Differs)
  by_test e fits says test =
      let same : fits_reply e (reply_after c s entries e.event) ≡ fits = ap (λ (w : World). fits_reply e (step w.config w.state e.event).reply) (sym is.core) ∙ test in
      said_here (Ok (Some e)) says ∙ ap (λ b. cond b (Ok (entries ++ e ∷ [])) (Err Differs)) same

  -- an entry that fits
  pub passes : (new : Audit) (e : Entry) → Ok (Some e) ≡ entry_said old.entries line → TakesEntry old e new true → Passes c s entries new line (Ok None)
  passes new e says takes = (entries ++ e ∷ [], by_test e true says takes.0, one_more c s entries old new e is takes)

-- ---- the audit so far

-- The lines that were read gave entries that pass, and the audit has come to their end.
pub record AuditSoFar (reader : Stream) (c : Config) (s : State) (l : Lines) (audit : Audit) : Type 0 where
  pub entries : List Entry
  pub read : ReadSoFar (audit_way c s) reader l entries
  pub now : IsAuditOf c s entries audit
  pub few : audit.entries ≤ l.count

-- before the first line
pub audit_at_start : (c : Config) (s : State) (a : Option (List ℕ)) (l : Lines) (audit : Audit) → l.count ≡ 0 → l.budget ≡ limit → l.at_end ≡ false → IsAuditOf c s [] audit
    → AuditSoFar (between a a) c s l audit
audit_at_start c s a l audit count budget ongoing is = record {
  entries = [];
  read = at_first (audit_way c s) a l count budget ongoing;
  now = is;
  few = let none = is.count in omega (arith, none, count);
}

-- a line passed
pub line_passed : (c : Config) (s : State) (a b d : Option (List ℕ)) (l l' : Lines) (old new : Audit) (so : AuditSoFar (between a b) c s l old) → TakesLine (between b d) l l'
    → new.entries ≤ old.entries + 1 → Passes c s so.entries new l'.line.items (Ok None) → AuditSoFar (between a d) c s l' new
line_passed c s a b d l l' old new so t few h = record {
  entries = h.0;
  read = took (audit_way c s) a b d l l' so.entries so.read t h.0 h.1;
  now = h.2;
  few = let before = so.few in let count = t.count in omega (arith, few, before, count);
}

-- ---- what was found

pub found : (reader : Stream) (c : Config) (s : State) (r : Reading (List Entry) JournalFault) (f : Found) → ReadsTo (audit_way c s) reader r → f.entries ≡ length r.made
    → f.lines ≡ r.lines → f.fault ≡ r.fault → Finds reader c s (Ok f)
found reader c s r f read entries lines fault = record { journal = r; read = read; entries = entries; lines = lines; fault = fault }

pub failed : (reader : Stream) (c : Config) (s : State) (e : ToolFault) → OfReading e → ReadsSome (audit_way c s) reader e → Finds reader c s (Err e)
failed reader c s Read other some = some
failed reader c s NoMemory other some = some
failed reader c s Write other some = absurd other
failed reader c s Unclosed other some = absurd other

-- ---- what was told

-- an error in reading
pub untold : (reader : Stream) (w : Option (List ℕ)) (c : Config) (s : State) (e : ToolFault) → Finds reader c s (Err e) → AuditsJournal reader (between w w) c s (Err e)
untold reader w c s Read some = record { read = some; unwritten = Appends-nil w }
untold reader w c s NoMemory some = inl (record { read = some; unwritten = Appends-nil w })
untold reader w c s Write some = absurd some
untold reader w c s Unclosed some = absurd some

told_by : (reader : Stream) (w v : Option (List ℕ)) (c : Config) (s : State) (r : Reading (List Entry) JournalFault) (o : Result Summary ToolFault) → ReadsTo (audit_way c s) reader r
    → Writes w v (audit_answer r) o → IfErr o (λ e. e ≢ Read) → AuditsJournal reader (between w v) c s o
told_by reader w v c s r (Ok summary) read wrote other = record {
  journal = r;
  read = read;
  written = wrote.2;
  lines = wrote.0;
  fault = wrote.1;
  input = of_some reader.before (λ input. r ≡ audited c s input) (IsAnswerTo (between w v) c s summary)
      (λ input is. record {
        written = subst (λ k. Appends w v (audit_answer k).text) is wrote.2;
        lines = wrote.0 ∙ ap (λ k. (audit_answer k).lines) is;
        fault = wrote.1 ∙ ap (λ k. (audit_answer k).fault) is;
      })
      read.input;
}
told_by reader w v c s r (Err Read) read wrote other = absurd (other refl)
told_by reader w v c s r (Err NoMemory) read wrote other = inr (record { journal = r; read = read; written = wrote })
told_by reader w v c s r (Err Write) read wrote other = record { journal = r; read = read; written = wrote }
told_by reader w v c s r (Err Unclosed) read wrote other = absurd wrote

-- what was found is told
pub told : (reader : Stream) (w v : Option (List ℕ)) (c : Config) (s : State) (f : Found) (o : Result Summary ToolFault) → Finds reader c s (Ok f) → Writes w v (answer_of f.entries f.lines f.fault) o
    → IfErr o (λ e. e ≢ Read) → AuditsJournal reader (between w v) c s o
told reader w v c s f o finds wrote other =
    let same : answer_of f.entries f.lines f.fault ≡ audit_answer finds.journal = λ i. answer_of (finds.entries i) (finds.lines i) (finds.fault i) in
    told_by reader w v c s finds.journal o finds.read (subst (λ k. Writes w v k o) same wrote) other

-- the audit of the whole input
pub audits_whole : (reader writer : Stream) (c : Config) (s : State) (r : Result Summary ToolFault) → AuditsJournal reader writer c s r → AuditsWhole reader writer c s r
audits_whole reader writer c s (Ok summary) h = h.input
audits_whole reader writer c s (Err e) h = tt
