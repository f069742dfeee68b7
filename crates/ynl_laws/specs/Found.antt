-- How the live applications of a state are found.
use Rattle.std.specs.Prelude.{◌≡◌, Some}
use Rattle.ynl_resource.specs.Names.{tenant_of}
use Rattle.ynl_model.specs.Applications.{Application, find_app}
use Rattle.ynl_model.specs.Cluster.{State}

-- an application is what its tenant and name find
abbrev pub FindsItself : State → Application → Type 0
FindsItself s app = find_app s.leaves (tenant_of app.leaf) app.name ≡ Some app
