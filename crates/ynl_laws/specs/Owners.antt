-- Whose a container is.
use Rattle.std.specs.Prelude.{List, Option}
use Rattle.std.specs.Option.{option_map}
use Rattle.ynl_resource.specs.declared.names.Name.{Name}
use Rattle.ynl_model.specs.Applications.{LeafApps, find_app}

-- the user of the live application of a tenant and a name
abbrev pub owner : List LeafApps → Name → Name → Option Name
owner leaves tenant name = option_map (λ app. app.user) (find_app leaves tenant name)
