use Rattle.std.proofs.Common.{◌≡◌, ◌<◌, ℕ, false}
use Rattle.ynl_resource.specs.Names.{same_label}
use Rattle.ynl_inventory.specs.Meaning.{label_at}
use Rattle.ynl_replies.proofs.admission.partitions.partition_with.Given as goal

-- no partition before has the label
abbrev pub invariant-loop-number : goal.invariant-loop-number
invariant-loop-number l = (p : ℕ) → p < l.number → same_label (label_at l.inventory.rows.partitions p) l.label ≡ false
