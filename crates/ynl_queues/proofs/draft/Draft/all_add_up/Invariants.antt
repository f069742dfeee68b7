use Rattle.std.proofs.Common.{◌≡◌, take, true}
use Rattle.std.specs.Prelude.{◌||◌}
use Rattle.std.specs.List.{list_all}
use Rattle.ynl_model.specs.Queues.{is_leaf}
use Rattle.ynl_model.specs.Accepted.{adds_up}
use Rattle.ynl_queues.proofs.draft.Draft.all_add_up.Given as goal

abbrev pub invariant-loop-row : goal.invariant-loop-row
invariant-loop-row l = list_all (λ row. is_leaf l.self row.path || adds_up l.self row.path) (take l.row-index l.row-items) ≡ true
