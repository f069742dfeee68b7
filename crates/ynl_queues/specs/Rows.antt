-- What the rows of a configuration mean.
use Rattle.ynl_queues.specs.declared.rows.Access.{Access as Kept}
use Rattle.ynl_queues.specs.declared.rows.Access.TheVariants as kept
use Rattle.ynl_model.specs.Queues.{Access, Inherited, AllLabels, Listed}

-- the labels that a queue may use: those of its parent, all, or those listed
abbrev pub access_of : Kept → Access
access_of kept.Inherited = Inherited
access_of kept.AllLabels = AllLabels
access_of (kept.Listed names) = Listed names.items
