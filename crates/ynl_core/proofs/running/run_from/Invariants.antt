use Rattle.std.proofs.Common.{◌+◌, ◌-◌, ◌≤◌, length, take, vec_len, vec_capacity}
use Rattle.ynl_core.specs.Runs.{AreSure, IsRunFrom}
use Rattle.ynl_core.proofs.running.run_from.Given as goal

abbrev pub invariant-loop-event : goal.invariant-loop-event
invariant-loop-event l = record {
  so_far : IsRunFrom l.fn.core (take l.event-index l.events) l.answers.items l.core;
  sure : AreSure l.fn.core (take l.event-index l.events) l.answers.items;
  capacity : vec_len l.answers + (length l.events - l.event-index) ≤ vec_capacity l.answers;
}
