-- What is read of a cluster.
use Rattle.std.specs.Prelude.{◌≡◌, ◌⊎◌, List, [], ◌∷◌, map, filter, Some, if◌then◌else◌}
use Rattle.std.specs.List.{Contains}
use Rattle.ynl_resource.specs.declared.names.Name.{Name}
use Rattle.ynl_resource.specs.declared.labels.Label.{Label}
use Rattle.ynl_model.specs.declared.proposals.What.{What}
use Rattle.ynl_model.specs.declared.proposals.What.TheVariants.{Master}
use Rattle.ynl_model.specs.Queues.{Config}
use Rattle.ynl_model.specs.Check.{comes_as_guest}
use Rattle.ynl_model.specs.Applications.{Application, find_app}
use Rattle.ynl_model.specs.Events.{pending_on}
use Rattle.ynl_model.specs.declared.replies.Pending.{Pending}
use Rattle.ynl_model.specs.Cluster.{State}
use Rattle.ynl_waits.specs.Grounds.{IsSpot, ground, has_nodes}
use Rattle.ynl_waits.specs.declared.grounds.Spot.{Spot}
use Rattle.ynl_waits.specs.declared.grounds.Ground.{Ground}
use Rattle.ynl_waits.specs.declared.waits.Applicant.{Applicant}
use Rattle.ynl_waits.specs.declared.waits.Request.{Request}
use Rattle.ynl_waits.specs.declared.waits.Wait.{Wait}
use Rattle.ynl_waits.specs.Waits.{applicant, ask_request, wait}
use Rattle.ynl_service.specs.declared.reading.reasons.facts.Found.{Found}

-- a live application, with what is wanted for its master
abbrev pub found_of : State → Application → Found
found_of s app = record { applicant = applicant s app; home = app.home; master = app.master }

-- of some labels the partitions with a node where a request may go as a guest
abbrev pub guests_among : Config → State → What → List Label → List Ground
guests_among c s what labels = filter has_nodes (map (ground c s) (filter (λ label. comes_as_guest c label what) labels))

-- the request for its master
abbrev pub master_of : Found → Request
master_of found = record { what = Master; label = found.home; size = found.master; count = 1 }

-- that with its reasons, where the application waits
abbrev pub masters_waiting : Config → State → Found → List Wait
masters_waiting c s found = if found.applicant.runs then [] else wait c s found.applicant (master_of found) ∷ []

-- an ask under a label, with its reasons
abbrev pub ask_wait : Config → State → Applicant → Label → Pending → Wait
ask_wait c s app label ask = wait c s app (ask_request label ask)

-- all that an application asks for under a label, with their reasons
abbrev pub asks_waiting : Config → State → Applicant → Application → Label → List Wait
asks_waiting c s app live label = map (ask_wait c s app label) (pending_on label live)

-- an application that is live has its home on a partition, or asks there
pub record IsAsking (s : State) (app : Applicant) (label : Label) : Type 0 where
  pub tenant : Name
  pub name : Name
  pub live : Application
  pub found : find_app s.leaves tenant name ≡ Some live
  pub is : app ≡ applicant s live
  pub asks : (live.home ≡ label) ⊎ Contains (map (λ ask. ask.label) live.asks) label

-- a node of the cluster, with what is free on it
pub record IsSpotOf (s : State) (spot : Spot) : Type 0 where
  pub free : IsSpot s spot
  pub node : Contains s.nodes spot.node

-- a tenant and a name have this live application
pub record IsApplicant (s : State) (tenant name : Name) (app : Applicant) : Type 0 where
  pub live : Application
  pub found : find_app s.leaves tenant name ≡ Some live
  pub is : app ≡ applicant s live

-- the same, with what is wanted for its master
pub record IsFound (s : State) (tenant name : Name) (found : Found) : Type 0 where
  pub live : Application
  pub named : find_app s.leaves tenant name ≡ Some live
  pub is : found ≡ found_of s live
