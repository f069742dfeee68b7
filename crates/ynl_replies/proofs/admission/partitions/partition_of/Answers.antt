use Rattle.ynl_replies.proofs.admission.LabelsKnown.{labels-read}
use Rattle.ynl_replies.proofs.admission.partitions.partition_of.Goals as goal

pub returns-clause-known : goal.returns-clause-known
returns-clause-known c =
    labels-read c.args.cluster.now c.inventory.ensures.configured c.args.label.now c.inventory.result.now c.inventory.ensures.value c.partition_with.result
    c.partition_with.ensures.there c.partition_with.ensures.own c.partition_with.ensures.none
