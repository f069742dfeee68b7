-- How the names of users and their numbers go together.
use Rattle.std.specs.Prelude.{◌≡◌, ℕ, ◌<◌, ◌^◌, length, slice_get, None, Some}
use Rattle.std.specs.BTreeMap.{get}
use Rattle.ynl_resource.specs.declared.names.Name.{Name}
use Rattle.ynl_resource.specs.Names.{name_order}
use Rattle.ynl_tables.specs.declared.users.users.Users.TheInside.{Inside}
use Rattle.ynl_tables.specs.users.Users.{AreApart, IsNew}

-- the names are told apart, each is found, and the numbers fit
pub record IsKept (a : Inside) : Type 0 where
  pub apart : AreApart a.names.items
  pub own : (name : Name) (n : ℕ) → get name_order a.numbers name ≡ Some n → slice_get a.names.items n ≡ Some name
  pub none : (name : Name) → get name_order a.numbers name ≡ None → IsNew name a.names.items
  pub fits : length a.names.items < 2 ^ 32
