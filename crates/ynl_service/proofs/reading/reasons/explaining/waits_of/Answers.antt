use Rattle.std.proofs.Common.{◌++◌, List, ap, ◌∙◌}
use Rattle.std.specs.Prelude.{flat_map}
use Rattle.ynl_resource.specs.declared.labels.Label.{Label}
use Rattle.ynl_model.specs.Cluster.{State}
use Rattle.ynl_model.specs.Nodes.{partition_labels}
use Rattle.ynl_model.specs.Queues.{Config}
use Rattle.ynl_waits.specs.declared.waits.Wait.{Wait}
use Rattle.ynl_service.specs.reading.reasons.Facts.{asks_waiting, masters_waiting}
use Rattle.ynl_service.specs.declared.reading.reasons.facts.Found.{Found}
use Rattle.ynl_service.proofs.reading.reasons.Mapped.{all-told}
use Rattle.ynl_service.proofs.reading.reasons.explaining.waits_of.Goals as goal

pub add_master-requires-clause-known : goal.add_master-requires-clause-known
add_master-requires-clause-known g c = c.new-known.ensures (g.F.Facts.config c.args.facts.now) (g.F.Facts.state c.args.facts.now)

pub returns : goal.returns
returns g c live find is =
    let config : Config = g.F.Facts.config c.args.facts.now in
    let s : State = g.F.Facts.state c.args.facts.now in
    let found : Found = c.args.found.now in
    let asks : List Label → List Wait = flat_map (asks_waiting config s found.applicant live) in
    let master = c.in_ok-add_master.ensures.waits ∙ ap (λ (xs : List Wait). xs ++ masters_waiting config s found) c.new-waits.ensures.items in
    c.in_ok-add_labels.ensures.waits live find ∙ ap (λ (xs : List Wait). xs ++ asks c.deref-2.result.now) master
    ∙ ap (λ (labels : List Label). masters_waiting config s found ++ asks labels) (c.deref-2.ensures.value ∙ c.in_ok-labels.ensures)
    ∙ ap (λ (f : Found). masters_waiting config s f ++ flat_map (asks_waiting config s f.applicant live) (partition_labels config.labels)) is
    ∙ all-told config s live
