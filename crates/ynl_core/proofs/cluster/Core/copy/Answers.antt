-- The lines of the state make a second cluster of it, and none of them is refused but for want of memory.
use Rattle.std.proofs.Common.{◌≡◌, Result, Ok, Err, subst, sym, ◌∙◌}
use Rattle.std.specs.Prelude.{IfOk}
use Rattle.ynl_saved.specs.Handing.{FailsAmong, TakesAll}
use Rattle.ynl_saved.specs.Restoring.{Restored}
use Rattle.ynl_saved.specs.Saving.{lines_before_end}
use Rattle.ynl_snapshots.specs.saving.Saved.{Saved}
use Rattle.ynl_snapshots.specs.restoring.Telling.{Telling, Tells}
use Rattle.ynl_core.specs.Copying.{Follows}
use Rattle.ynl_core.specs.Reached.{WorksAndIsTold}
use Rattle.ynl_core.specs.World.{World}
use Rattle.ynl_core.specs.declared.copying.CopyFault.TheVariants.{Unsound}
use Rattle.ynl_core.specs.declared.memory.NoMemory.{NoMemory}
use Rattle.ynl_core.proofs.Copied.{copied, never-unsound}
use Rattle.ynl_core.proofs.cluster.Core.copy.Goals.{In-Ok}
use Rattle.ynl_core.proofs.cluster.Core.copy.Goals as goal

module _ (c : In-Ok) where
  -- what the lines told is what the cluster is
  all : (r : Restored) × Tells c.tell.new.sink r × (record { config = c.tell.new.sink.cluster.config; state = r.state } ≡ c.args.self.now)
  all =
      copied c.args.self.now c.requires (subst (λ (w : World). WorksAndIsTold w.config w.state) c.self.view_is c.self.invariant.working)
      c.in_ok-copying.copying c.tell.new.sink c.in_ok-config.config c.in_ok-copying.ensures.config (c.in_ok-config.ensures ∙ c.config.ensures) c.in_ok-copying.ensures.told
      (subst (λ (s : Saved). TakesAll Follows c.in_ok-copying.copying (lines_before_end s.config s.state) c.tell.new.sink) c.saving.ensures c.in-Ok.ensures)

pub resume-requires : goal.resume-requires
resume-requires c = let told = all (goal.at.resume-requires c).In-Ok in subst (λ (t : Telling). (r : Restored) × Tells t r) (sym c.into_told.ensures) (told.0, told.1)

pub unreachable-requires : goal.unreachable-requires
unreachable-requires c =
    never-unsound c.args.self.now c.requires (subst (λ (w : World). WorksAndIsTold w.config w.state) c.self.view_is c.self.invariant.working)
    c.in_ok-copying.copying c.tell.new.sink c.in_ok-config.config c.in_ok-copying.ensures.config (c.in_ok-config.ensures ∙ c.config.ensures) c.in_ok-copying.ensures.told
    (subst (λ (s : Saved). FailsAmong Follows c.in_ok-copying.copying (lines_before_end s.config s.state) c.tell.new.sink Unsound) c.saving.ensures
    (subst (FailsAmong Follows c.in_ok-copying.copying (lines_before_end c.saving.result.config c.saving.result.state) c.tell.new.sink)
    c.in-Err-Unsound.field-0-is c.in-Err-Unsound.ensures))

pub returns-in-Ok : goal.returns-in-Ok
returns-in-Ok c = go c.resume.result c.resume.ensures
  where
    go : (made : Result World NoMemory)
        → IfOk made (λ core. (r : Restored) → Tells c.into_told.result r → core ≡ record { config = c.into_told.result.cluster.config; state = r.state })
        → IfOk made (λ core. core ≡ c.args.self.now)
    go (Ok core) h =
        let told = all (goal.at.returns-in-Ok c).In-Ok in
        subst (λ (t : Telling). Tells t told.0 → core ≡ record { config = t.cluster.config; state = (told.0).state }) c.into_told.ensures (h told.0) told.1 ∙ told.2
    go (Err e) h = tt
