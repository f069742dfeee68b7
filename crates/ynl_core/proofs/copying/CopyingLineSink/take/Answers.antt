-- A line is taken where it goes with what the lines before it told, whatever that is.
use Rattle.std.proofs.Common.{◌≡◌, false, subst, ◌∙◌, arith}
use Rattle.ynl_saved.specs.Restoring.{Restored, is_sound_line}
use Rattle.ynl_snapshots.specs.restoring.Telling.{Telling, Tells}
use Rattle.ynl_core.proofs.copying.CopyingLineSink.take.Goals as goal

pub take-requires : goal.take-requires
take-requires c =
    let whole = c.self.invariant c.if-not-self.false in
    let counted = whole.1 in
    record { told = whole.0; few = omega (arith, counted, c.self.ranges, c.if-self.false) }

pub returns-then-not-taken : goal.returns-then-not-taken
returns-then-not-taken c =
    subst (λ (t : Telling). (r : Restored) → Tells t r → is_sound_line t.cluster.config r c.args.line.now ≡ false) c.self.view_is
    (λ r h. let takes = c.in_ok-taken.ensures r h in takes.sound ∙ c.if-not-taken.true)
