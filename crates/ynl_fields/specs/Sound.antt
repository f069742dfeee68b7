-- What holds of every name, label and path that is written.
use Rattle.std.specs.Prelude.{◌≡◌, ◌≤◌, true, length}
use Rattle.std.specs.List.{list_all}
use Rattle.ynl_resource.specs.NameText.{is_name}
use Rattle.ynl_resource.specs.declared.names.Name.{Name}
use Rattle.ynl_resource.specs.declared.labels.Label.{Label}
use Rattle.ynl_resource.specs.declared.labels.Label.TheVariants.{Unlabelled, Named}
use Rattle.ynl_resource.specs.declared.paths.Path.{Path}

abbrev pub IsName : Name → Type 0
IsName name = is_name name ≡ true

abbrev pub IsLabel : Label → Type 0
IsLabel Unlabelled = Unit {0}
IsLabel (Named name) = IsName name

abbrev pub IsPath : Path → Type 0
IsPath path = (length path ≤ 7) × (list_all is_name path ≡ true)
