use Rattle.std.proofs.Common.{◌≡◌, [], take, fold}
use Rattle.std.specs.Prelude.{option_copied}
use Rattle.ynl_resource.specs.Names.{way_to}
use Rattle.ynl_model.specs.Queues.{given, setting, AllLabels, Inherited}
use Rattle.ynl_queues.specs.Reach.{reached}
use Rattle.ynl_queues.proofs.draft.Draft.reach.Given as goal

abbrev pub invariant-loop-depth : goal.invariant-loop-depth
invariant-loop-depth l =
    reached l.self.labels (option_copied l.reach) ≡ fold (λ above step. given above l.self (setting (λ row. row.access) Inherited l.self step)) (given [] l.self AllLabels) (take l.depth (way_to l.queue))
