use Rattle.std.proofs.Common.{Bool, sym, ◌∙◌, rules, tests}
use Rattle.std.proofs.lemmas.Iterator.{YieldsList-from_slice}
use Rattle.std.proofs.lemmas.Iterator.Search.{all_from_yields_List}
use Rattle.ynl_sights.specs.Sights.{stays_within}
use Rattle.ynl_sights.specs.Rows.{reach_of_queue}
use Rattle.ynl_sights.specs.declared.rows.QueueSight.{QueueSight}
use Rattle.ynl_sights.proofs.Decide.{all-map}
use Rattle.ynl_sights.proofs.planning.stay_within.Goals as goal

pub returns : goal.returns
returns c =
    let size = c.args.size.now in
    let queues = c.args.queues.now in
    let test : QueueSight → Bool = λ queue. stays_within size (reach_of_queue queue) in
    all_from_yields_List test _ _ c.all.result c.all.ensures.ran (YieldsList-from_slice queues cc) (λ x b q k. search (rules, tests))
    ∙ sym (all-map reach_of_queue (stays_within size) queues)
