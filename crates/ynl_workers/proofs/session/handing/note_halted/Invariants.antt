use Rattle.std.proofs.Common.{◌≡◌, ◌≢◌, ◌≤◌, ◌<◌, ℕ, Bool, All, vec_len}
use Rattle.std.specs.Prelude.{slice_index_or, ◌||◌}
use Rattle.ynl_workers.specs.declared.working.End.TheVariants.{Halted}
use Rattle.ynl_workers.specs.declared.working.WorkerEnd.{WorkerEnd}
use Rattle.ynl_workers.specs.session.Handed.{is_halted}
use Rattle.ynl_workers.proofs.session.handing.note_halted.Given as goal

-- up to here the halted ones are noted, and from here on all is as before
abbrev pub invariant-loop-k : goal.invariant-loop-k
invariant-loop-k l =
    (vec_len l.halted ≡ vec_len l.fn.halted)
    × ((j : ℕ) (worker : WorkerEnd) (is : Bool) → j < l.k → slice_index_or l.halted.items j is ≡ (slice_index_or l.fn.halted.items j is || is_halted (slice_index_or l.ends j worker).end))
    × ((j : ℕ) (is : Bool) → l.k ≤ j → slice_index_or l.halted.items j is ≡ slice_index_or l.fn.halted.items j is)
    × (All (λ worker. worker.end ≢ Halted) l.ends → l.halted.items ≡ l.fn.halted.items)
