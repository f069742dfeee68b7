use Rattle.std.proofs.Common.{◌≡◌, ◌++◌, take}
use Rattle.std.specs.List.{flat_map}
use Rattle.ynl_check.specs.Tree as spec
use Rattle.ynl_check.proofs.tree.put_shares.Given as goal

abbrev pub invariant-loop-above : goal.invariant-loop-above
invariant-loop-above l =
    l.longer.items ≡ l.initial.longer.items ++ flat_map (λ above. spec.line_if_usable l.style l.config l.queue.row.now l.queue.path.now l.queue.state.now l.queue.is_leaf above.label) (take l.above-index l.portions)
