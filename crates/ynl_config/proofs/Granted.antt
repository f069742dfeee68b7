-- What was looked up once of each queue decides the first fault as a look-up for each label does.
use Rattle.std.proofs.Common.{◌≡◌, ℕ, List, Option, Some, ap, ◌∙◌}
use Rattle.std.specs.Prelude.{find, not, ◌&&◌, ◌||◌, ◌==◌, option_map}
use Rattle.ynl_resource.specs.declared.labels.Label.{Label}
use Rattle.ynl_resource.specs.declared.paths.Path.{Path}
use Rattle.ynl_resource.specs.Names.{is_default}
use Rattle.ynl_resource.specs.Ranges.{whole}
use Rattle.ynl_model.specs.Nodes.{Labels, partition_labels}
use Rattle.ynl_model.specs.Queues.{Config}
use Rattle.ynl_model.specs.Accepted.{sum_below}
use Rattle.ynl_queues.specs.declared.grants.Grant.{Grant}
use Rattle.ynl_queues.specs.Grants.{total_at}
use Rattle.ynl_queues.proofs.Totals.{StandBelow, total_below}
use Rattle.ynl_resource.specs.Texts.{label_text, path_text}
use Rattle.ynl_config.specs.Places.{Shown, nowhere, told_text}
use Rattle.ynl_config.specs.GrantTests as test
use Rattle.ynl_config.specs.RowPlaces as spec

module _ (c : Config) (queue : Path) (labels : Labels) (grants below : List Grant) (same : labels ≡ c.labels) (all : grants ≡ below) (stand : StandBelow c queue below) where
  total_alike : (label : Label) → total_at labels grants label ≡ sum_below c queue label
  total_alike label = (λ i. total_at (same i) (all i) label) ∙ total_below c queue below stand label

  -- the place of the first partition on which what stands just below a queue comes to something else
  pub odd_place : (odd : Option Label) → odd ≡ find (λ label. not (test.comes_out labels grants label)) (partition_labels labels)
      → option_map (spec.at_sum c queue) odd ≡ spec.wrong_sum c queue
  unfolding spec.wrong_sum
  odd_place odd found =
      ap (option_map (spec.at_sum c queue)) (
      found
      ∙ (λ i. find (λ label. not (total_alike label i == whole || (not (is_default label) && total_alike label i == 0))) (partition_labels (same i)))
      )

  -- the place of a sum is that of what stands just below the queue
  pub sum_alike : (label : Label) (text : Option Shown) (name : List ℕ) (sum : ℕ) → text ≡ told_text (path_text queue) → name ≡ label_text label → sum ≡ total_at labels grants label
      → record nowhere { queue = text; label = told_text name; sum = Some sum } ≡ spec.at_sum c queue label
  sum_alike label text name sum written named total = λ i. record nowhere { queue = written i; label = told_text (named i); sum = Some ((total ∙ total_alike label) i) }
