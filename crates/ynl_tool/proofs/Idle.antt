-- Jobs that are not begun, or in which memory is refused before anything is read.
use Rattle.std.proofs.Common.{ℕ, List, Bool, true, false, Option, Result, Ok, Err, refl, inl, inr, sym, subst}
use Rattle.std.proofs.KnownBytes.{Appends-nil, Consumes-nil}
use Rattle.ynl_resource.specs.declared.names.Name.{Name}
use Rattle.ynl_resource.specs.declared.labels.Label.{Label}
use Rattle.ynl_model.specs.Queues.{Config}
use Rattle.ynl_model.specs.Cluster.{State as Standing}
use Rattle.ynl_model.specs.View.{is_sole}
use Rattle.ynl_config.specs.Meaning.{config_of}
use Rattle.ynl_commands.specs.declared.run.ToolFault.TheVariants.{NoMemory}
use Rattle.ynl_words.specs.declared.words.SequentialKind.{SequentialKind}
use Rattle.ynl_words.specs.declared.words.SequentialKind.TheVariants.{Run, Tenant, Audit, Evidence, AuditEvidence, Explain, Save}
use Rattle.ynl_words.specs.declared.words.Question.{Question}
use Rattle.ynl_tool.specs.declared.jobs.JobRefusal.{JobRefusal}
use Rattle.ynl_tool.specs.declared.jobs.JobRefusal.TheVariants.{State, Config as NoConfig}
use Rattle.ynl_tool.specs.Jobs.{begins, tenancy, Doing, Ending, IsIdle, DoesSequentialJob, DoesText, DoesWith, EndsWithout, EndsWithoutConfig, EndsWithoutState}
use Rattle.ynl_tool.specs.Jobs.{AnswersJob, AuditsFrom, AuditsJob, ExplainsFrom, ExplainsJob, LivesFrom, LivesJob, RunsFrom, RunsJob, SavesFrom, SavesJob, TellsJob}
use Rattle.ynl_commands.specs.Input.{between}
use Rattle.ynl_commands.proofs.Runs.{stops_at_once}
use Rattle.ynl_commands.specs.Audit.{audit_way, journal_way}
use Rattle.ynl_commands.specs.Evidence.{evidence_answer, evidence_way, placed_answer}
use Rattle.ynl_commands.specs.Readings.{Way, Reading}
use Rattle.ynl_commands.specs.Run.{Outcome}
use Rattle.ynl_commands.specs.Script.{script_way}
use Rattle.ynl_commands.proofs.Readings.{nothing_read}

module _ (old wold : Option (List ℕ)) where
  idle : IsIdle (between old old) (between wold wold)
  idle = record { unread = Consumes-nil old; unwritten = Appends-nil wold }

  idle_by : (c : Config) (t : Name) (p : Label) (sole : Bool) → TellsJob (between old old) (between wold wold) true c t p sole (Err NoMemory)
  idle_by c t p true = inl (record { read = nothing_read script_way old NoMemory; unwritten = Appends-nil wold })
  idle_by c t p false = (refl, idle)

  idle_answer : {S F : Type 0} (w : Way S F) (answer : Reading S F → Outcome) (sole : Bool) → AnswersJob w answer (between old old) (between wold wold) sole (Err NoMemory)
  idle_answer w answer true = inl (record { read = nothing_read w old NoMemory; unwritten = Appends-nil wold })
  idle_answer w answer false = (refl, idle)

  -- a job for which there is no memory, with what it needs
  refused : {X F : Type 0} (refusal : F → JobRefusal) (job : X → Ending → Type 0) → ((x : X) → job x (Err NoMemory))
      → (read : Result X F) → DoesWith (between old old) (between wold wold) refusal job read (Err NoMemory)
  refused refusal job idles (Ok x) = idles x
  refused refusal job idles (Err fault) = (refl, idle)

  -- a job that does nothing where memory is refused, without what it needs
  without : {X F : Type 0} (refusal : F → JobRefusal) (job : X → Ending → Type 0) → ((x : X) → job x (Err NoMemory))
      → (read : Result X F) (ended : Ending) → EndsWithout refusal read ended → DoesWith (between old old) (between wold wold) refusal job read ended
  without refusal job idles (Ok x) ended is = subst (DoesWith (between old old) (between wold wold) refusal job (Ok x)) (sym is) (idles x)
  without refusal job idles (Err fault) ended (inl is) = subst (DoesWith (between old old) (between wold wold) refusal job (Err fault)) (sym is) (refl, idle)
  without refusal job idles (Err fault) ended (inr is) = subst (DoesWith (between old old) (between wold wold) refusal job (Err fault)) (sym is) (refl, idle)

  -- a run for which there is no memory
  idle_run : (c : Config) (s : Standing) → RunsFrom (between old old) (between wold wold) c s (Err NoMemory)
  idle_run c s = stops_at_once old wold c s

  -- an audit for which there is no memory
  idle_audit : (c : Config) (s : Standing) → AuditsFrom (between old old) (between wold wold) c s (Err NoMemory)
  idle_audit c s = inl (record { read = nothing_read (audit_way c s) old NoMemory; unwritten = Appends-nil wold })

  -- saving a state, for which there is no memory
  idle_save : (c : Config) (s : Standing) → SavesFrom (between old old) (between wold wold) c s (Err NoMemory)
  idle_save c s = inl (record { read = nothing_read script_way old NoMemory; unwritten = Appends-nil wold })

  -- explaining, for which there is no memory
  idle_explain : (c : Config) (q : Question) (s : Standing) → ExplainsFrom (between old old) (between wold wold) c q s (Err NoMemory)
  idle_explain c q s = inl (record { read = nothing_read script_way old NoMemory; unwritten = Appends-nil wold })

  -- a session for which there is no memory
  idle_session : (rounds : ℕ) (c : Config) (s : Standing) → LivesFrom rounds (between old old) (between wold wold) c s (Err NoMemory)
  idle_session rounds c s = inl (record { read = nothing_read script_way old NoMemory; unwritten = Appends-nil wold })

  -- a run without a state
  pub run_without : (c : Config) (from : Option (List ℕ)) (ended : Ending) → EndsWithoutState c from ended
      → RunsJob (between old old) (between wold wold) c from ended
  run_without c from = without (λ bad. State bad) (RunsFrom (between old old) (between wold wold) c) (idle_run c) (begins c from)

  -- an audit without a state
  pub audit_without : (c : Config) (from : Option (List ℕ)) (ended : Ending) → EndsWithoutState c from ended
      → AuditsJob (between old old) (between wold wold) c from ended
  audit_without c from = without (λ bad. State bad) (AuditsFrom (between old old) (between wold wold) c) (idle_audit c) (begins c from)

  -- saving without a state
  pub save_without : (c : Config) (from : Option (List ℕ)) (ended : Ending) → EndsWithoutState c from ended
      → SavesJob (between old old) (between wold wold) c from ended
  save_without c from = without (λ bad. State bad) (SavesFrom (between old old) (between wold wold) c) (idle_save c) (begins c from)

  -- explaining without a state
  pub explain_without : (c : Config) (from : Option (List ℕ)) (q : Question) (ended : Ending) → EndsWithoutState c from ended
      → ExplainsJob (between old old) (between wold wold) c from q ended
  explain_without c from q = without (λ bad. State bad) (ExplainsFrom (between old old) (between wold wold) c q) (idle_explain c q) (begins c from)

  -- a session without a state
  pub live_without : (rounds : ℕ) (c : Config) (from : Option (List ℕ)) (ended : Ending) → EndsWithoutState c from ended
      → LivesJob rounds from (between old old) (between wold wold) c ended
  live_without rounds c from = without (λ bad. State bad) (LivesFrom rounds (between old old) (between wold wold) c) (idle_session rounds c) (begins c from)

  -- nothing was read or written for want of memory
  IdlesAt : Doing → Type 0
  IdlesAt job = (c : Config) → job (between old old) (between wold wold) c (Err NoMemory)

  -- a job that needs one thread, for which there is no memory
  idle_job : (kind : SequentialKind) (from : Option (List ℕ)) → IdlesAt (DoesSequentialJob true kind from)
  unfolding IdlesAt
  idle_job Run from = λ c. refused (λ bad. State bad) (RunsFrom (between old old) (between wold wold) c) (idle_run c) (begins c from)
  idle_job (Tenant t p) from = λ c. idle_by c t p (is_sole c t p)
  idle_job Audit from = λ c. refused (λ bad. State bad) (AuditsFrom (between old old) (between wold wold) c) (idle_audit c) (begins c from)
  idle_job (Evidence t p) from = λ c. idle_answer journal_way (evidence_answer (tenancy c t p)) (is_sole c t p)
  idle_job (AuditEvidence t p) from = λ c. idle_answer (evidence_way (tenancy c t p)) placed_answer (is_sole c t p)
  idle_job Save from = λ c. refused (λ bad. State bad) (SavesFrom (between old old) (between wold wold) c) (idle_save c) (begins c from)
  idle_job (Explain q) from = λ c. refused (λ bad. State bad) (ExplainsFrom (between old old) (between wold wold) c q) (idle_explain c q) (begins c from)

  -- a live scheduler for which there is no memory
  idle_live : (rounds : ℕ) (from : Option (List ℕ)) → IdlesAt (LivesJob rounds from)
  unfolding IdlesAt
  idle_live rounds from = λ c. refused (λ bad. State bad) (LivesFrom rounds (between old old) (between wold wold) c) (idle_session rounds c) (begins c from)

  -- a job without a configuration
  text_without : (job : Doing) → IdlesAt job → (text : List ℕ) (ended : Ending) → EndsWithoutConfig text ended
      → DoesText (between old old) (between wold wold) job text ended
  unfolding IdlesAt
  text_without job idles text = without (λ fault. NoConfig fault) (job (between old old) (between wold wold)) idles (config_of text)

  -- a job that needs one thread, without a configuration
  pub idle_without : (kind : SequentialKind) (from : Option (List ℕ)) (text : List ℕ) (ended : Ending) → EndsWithoutConfig text ended
      → DoesText (between old old) (between wold wold) (DoesSequentialJob true kind from) text ended
  idle_without kind from = text_without (DoesSequentialJob true kind from) (idle_job kind from)

  -- the same of a live scheduler
  pub idle_live_without : (rounds : ℕ) (from : Option (List ℕ)) (text : List ℕ) (ended : Ending) → EndsWithoutConfig text ended
      → DoesText (between old old) (between wold wold) (LivesJob rounds from) text ended
  idle_live_without rounds from = text_without (LivesJob rounds from) (idle_live rounds from)
