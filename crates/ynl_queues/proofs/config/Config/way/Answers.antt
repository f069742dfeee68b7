use Rattle.std.proofs.Common.{◌<◌, length, sym, ap, subst, ◌∙◌}
use Rattle.std.specs.Prelude.{is_some}
use mathlib.Core.Bool.{true≢false}
use Rattle.ynl_model.specs.Queues.{Config}
use Rattle.ynl_queues.proofs.Trees.{blank_row, has_steps}
use Rattle.ynl_queues.proofs.config.Config.way.Goals as goal

pub unreachable-requires : goal.unreachable-requires
unreachable-requires c =
    let config : Config = c.self.inside.draft in
    let inside : c.args.place < length config.queues = subst (λ (c' : Config). c.args.place < length c'.queues) (sym c.self.view_is) c.requires in
    let some = c.steps_at.ensures.sure blank_row inside (has_steps config c.self.invariant c.args.place blank_row inside) in
    true≢false (sym some ∙ ap (λ (o : _). is_some o) c.in-None.is)
