use Rattle.std.proofs.Common.{◌≡◌, drop}
use Rattle.serde_json.specs.View.{items_view}
use Rattle.ynl_lines.specs.ReadingReplies.{each, pending_at}
use Rattle.ynl_lines.proofs.Lists.{after}
use Rattle.ynl_lines.proofs.read_containers.each_pending.Given as goal

abbrev pub invariant-loop-value : goal.invariant-loop-value
invariant-loop-value l = after l.list.items (each pending_at (items_view (drop l.value-index l.values))) ≡ each pending_at (items_view l.values)
