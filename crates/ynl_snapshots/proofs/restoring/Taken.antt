-- How lines are taken and refused.
use Rattle.std.proofs.Common.{◌≡◌, ◌<◌, ℕ, false, true, nat_le, refl, sym, arith, true≢false}
use Rattle.std.proofs.lemmas.Bool.Decides.{nat_tests}
use Rattle.ynl_cluster.specs.Cluster.{ClusterView, state_in}
use Rattle.ynl_saved.specs.declared.lines.StateLine.{StateLine}
use Rattle.ynl_saved.specs.Restoring.{Restored, is_sound_line, with_line}
use Rattle.ynl_snapshots.specs.restoring.Taking.{Takes}

-- a number that is too large fails its test
pub nat-beyond : (n most : ℕ) → most < n → nat_le n most ≡ false
nat-beyond n most h = grind (arith, nat_tests, h)

-- a line that is not sound changes nothing
pub refused : (w : ClusterView) (r : Restored) (line : StateLine) → is_sound_line w.config r line ≡ false → Takes w r line w false
refused w r line unsound = record { sound = unsound; config = refl; told = λ e. absurd (true≢false (sym e)); same = λ e. refl }

-- one that is changes the state as the line says
pub taken : (old new : ClusterView) (r : Restored) (line : StateLine) → is_sound_line old.config r line ≡ true → new.config ≡ old.config → state_in new ≡ with_line line (state_in old) → Takes old r line new true
taken old new r line sound config told = record { sound = sound; config = config; told = λ e. told; same = λ e. absurd (true≢false e) }
