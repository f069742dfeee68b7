use Rattle.std.proofs.Common.{◌≡◌, drop}
use Rattle.serde_json.specs.View.{items_view}
use Rattle.ynl_lines.specs.ReadingReplies.{each, placed_at}
use Rattle.ynl_lines.proofs.Lists.{after}
use Rattle.ynl_lines.proofs.read_containers.each_placed.Given as goal

abbrev pub invariant-loop-value : goal.invariant-loop-value
invariant-loop-value l = after l.list.items (each placed_at (items_view (drop l.value-index l.values))) ≡ each placed_at (items_view l.values)
