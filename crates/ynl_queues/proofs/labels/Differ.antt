-- Labels without a fault have names that differ.
use Rattle.std.proofs.Common.{◌≡◌, Bool, true, false, not, List, ◌∷◌, [], map, length, None, refl}
use Rattle.std.specs.Prelude.{◌&&◌, nat_lt}
use Rattle.std.specs.List.{list_all}
use Rattle.ynl_resource.specs.Names.{same_name}
use Rattle.ynl_resource.specs.Ranges.{most_labels, most_clock}
use Rattle.ynl_resource.specs.Refusals.{first_that_holds}
use Rattle.ynl_model.specs.Nodes.{Labels}
use Rattle.ynl_model.specs.declared.faults.LabelFault.TheVariants.{TooManyLabels, DuplicateLabel, BadLimit}
use Rattle.ynl_model.specs.Accepted.{all_differ, is_from_to, label_faults}

second : (x y z : Bool) → first_that_holds ((TooManyLabels, x) ∷ (DuplicateLabel, not y) ∷ (BadLimit, z) ∷ []) ≡ None → y ≡ true
second true y z h = absurd cc
second false false z h = absurd cc
second false true z h = refl

pub names_differ : (labels : Labels) → first_that_holds (label_faults labels) ≡ None → all_differ same_name (map (λ row. row.name) labels.rows) ≡ true
unfolding label_faults
names_differ labels h =
    second (nat_lt most_labels (length labels.rows)) (all_differ same_name (map (λ row. row.name) labels.rows))
    (not (is_from_to 1 most_clock labels.default_limit && list_all (λ row. is_from_to 1 most_clock row.limit) labels.rows)) h
