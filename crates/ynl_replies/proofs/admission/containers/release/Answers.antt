use Rattle.ynl_replies.proofs.admission.ContainersNamed.{release-asked}
use Rattle.ynl_replies.proofs.admission.containers.release.Goals as goal

pub returns-in-Ask-clause-ends : goal.returns-in-Ask-clause-ends
returns-in-Ask-clause-ends c =
    release-asked c.args.cluster.now c.args.tenant.now c.args.id.now c.in-Some.held c.in-Some.ensures.some c.container.result (rw c.inventory.ensures.value at c.container.ensures) c.in-Ask.partition
    c.in-Ask.priority c.in-Ask.is
