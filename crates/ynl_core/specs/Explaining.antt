-- What a cluster explains: laws of each request.
use Rattle.ynl_resource.specs.declared.names.Name.{Name}
use Rattle.ynl_model.specs.Queues.{Config}
use Rattle.ynl_model.specs.Cluster.{State}
use Rattle.ynl_waits.specs.Laws.{OfEach}
use Rattle.ynl_waits.specs.declared.waits.Explained.{Explained}
use Rattle.ynl_waits.specs.declared.waits.Wait.{Wait}
use Rattle.ynl_core.specs.World.{World}

-- a law holds of each request of a tenant's application that is explained
abbrev pub OfRequests : (Config → State → Name → Name → Wait → Type 0) → World → Name → Name → Explained → Type 0
OfRequests law core tenant app = OfEach (law core.config core.state tenant app)
