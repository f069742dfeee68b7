-- How the rows of nodes and their names go together.
use Rattle.std.specs.Prelude.{◌≡◌, ◌<◌, true, IsTrue}
use Rattle.ynl_resource.specs.declared.names.Name.{Name}
use Rattle.ynl_resource.specs.NameText.{is_name}
use Rattle.ynl_slots.specs.Slots.{HasDistinctNumbers}
use Rattle.ynl_tables.specs.declared.nodes.nodes.Nodes.TheInside.{Inside}
use Rattle.ynl_tables.specs.nodes.Nodes.{HasDistinctNames, NodesView, number_of}
use Rattle.ynl_tables.specs.nodes.Numbers.{number_in}

-- what a contract sees
abbrev pub nodes_of : Inside → NodesView
nodes_of a = record { entries = a.rows.entries; ready = a.ready }

-- the nodes have numbers and names of their own, and are found by their names; and there is room where one may join again
pub record IsKept (a : Inside) : Type 0 where
  pub distinct : HasDistinctNumbers a.rows.entries
  pub names : HasDistinctNames a.rows.entries
  pub found : (name : Name) → IsTrue (is_name name) → number_in a.numbers name ≡ number_of name a.rows.entries
  pub room : a.ready ≡ true → 0 < a.rows.room
