-- The labels that rows make, or their first fault.
use Rattle.std.specs.Prelude.{ℕ, List, Option, Some, None, Result, Ok, Err}
use Rattle.ynl_resource.specs.Refusals.{first_that_holds}
use Rattle.ynl_model.specs.Nodes.{Labels}
use Rattle.ynl_model.specs.declared.labels.LabelRow.{LabelRow}
use Rattle.ynl_model.specs.Accepted.{label_faults}
use Rattle.ynl_model.specs.declared.faults.LabelFault.{LabelFault}

-- what is given where no fault holds, and the fault where one does
abbrev pub unless_fault : {X F : Type 0} → Option F → X → Result X F
unless_fault None x = Ok x
unless_fault (Some fault) x = Err fault

-- the labels of these rows, where DEFAULT's clock goes this far, or the first fault that holds
unfoldable pub labels_of : List LabelRow → ℕ → Result Labels LabelFault
labels_of rows default_limit =
    let labels : Labels = record { rows = rows; default_limit = default_limit } in
    unless_fault (first_that_holds (label_faults labels)) labels
