use Rattle.std.proofs.Common.{◌++◌, List, ap, sym, ◌∙◌, arith}
use Rattle.std.specs.Borrow.{Bor}
use Rattle.std.proofs.lemmas.List.{take_all}
use Rattle.std.specs.List.{flat_map}
use Rattle.ynl_model.specs.Queues.{QueueRow}
use Rattle.ynl_check.specs.Tree as spec
use Rattle.ynl_check.proofs.Lists.{flat_map-map}
use Rattle.ynl_check.proofs.tree.put_queues.Goals as goal

pub returns : goal.returns
returns c =
    let lines = spec.queue_lines c.args.style c.args.config.now in
    c.loop-row.invariant.lines
    ∙ ap (λ (rows : List (Bor QueueRow)). c.args.text.items ++ flat_map (λ (row : Bor QueueRow). lines row.now) rows) (take_all c.loop-row.row-index c.args.rows.now (omega arith))
    ∙ sym (ap (λ t. c.args.text.items ++ t) (flat_map-map lines (λ (row : Bor QueueRow). row.now) c.args.rows.now))
