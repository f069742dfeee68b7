-- What was read of a text of a saved state.
use Rattle.std.specs.Prelude.{◌≡◌, ◌≤◌, ℕ, List, Result, Ok, Err}
use Rattle.ynl_model.specs.Queues.{Config}
use Rattle.ynl_core.specs.World.{World}
use Rattle.ynl_saved.specs.Asks.{AllWithin}
use Rattle.ynl_saved.proofs.Restored.{IsRestored}
use Rattle.ynl_snapshots.specs.restoring.Telling.{Telling, Tells}
use Rattle.ynl_saved.specs.Restoring.{Restored}
use Rattle.ynl_saved_text.specs.Texts.{Progress, state_read}
use Rattle.ynl_saved_text.specs.declared.faults.BadState.{BadState}
use Rattle.ynl_saved_text.specs.declared.read.LastLine.{LastLine}

-- so far was read, in this configuration: what the lines told, which kind the last one is, and how many there were; no ask counts more than an ask may
pub record IsAt (c : Config) (told : Telling) (held : LastLine) (count : ℕ) (p : Progress) : Type 0 where
  pub config : told.cluster.config ≡ c
  pub tells : Tells told p.restored
  pub before : held.before ≡ p.before
  pub counted : count ≡ p.count
  pub fewer : told.lines ≤ count
  pub within : AllWithin (p.restored).state.leaves

-- reading comes to this progress, or to a fault
abbrev pub ComesTo : Config → Telling → LastLine → ℕ → Result (Unit {0}) BadState → Result Progress BadState → Type 0
ComesTo c told held count (Ok done) read = (p : Progress) × (read ≡ Ok p) × IsAt c told held count p
ComesTo c told held count (Err bad) read = read ≡ Err bad

-- a text tells what was restored, where no ask counts more than an ask may, or has a fault
abbrev pub Restores : Config → List ℕ → Result Telling BadState → Type 0
Restores c text (Ok told) = (r : Restored) × (state_read c text ≡ Ok r) × (told.cluster.config ≡ c) × Tells told r × AllWithin (r.state).leaves
Restores c text (Err bad) = state_read c text ≡ Err bad

-- a text tells the state of a cluster, which is that of its lines and where no ask counts more than an ask may, or has a fault
abbrev pub Resumes : Config → List ℕ → Result World BadState → Type 0
Resumes c text (Ok core) = (r : Restored) × (state_read c text ≡ Ok r) × IsRestored c r × (core ≡ record { config = c; state = r.state }) × AllWithin (r.state).leaves
Resumes c text (Err bad) = state_read c text ≡ Err bad
