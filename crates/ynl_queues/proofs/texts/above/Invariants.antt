use Rattle.std.proofs.Common.{◌≡◌, ◌≤◌, length, take}
use Rattle.ynl_queues.specs.Written.{above}
use Rattle.ynl_queues.proofs.texts.above.Given as goal

abbrev pub invariant-loop-end : goal.invariant-loop-end
invariant-loop-end l = record {
  within : l.end ≤ length l.text;
  same : above (take l.end l.text) ≡ above l.text;
}

abbrev pub decreases-loop-end : goal.decreases-loop-end
decreases-loop-end l = l.end
