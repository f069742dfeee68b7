-- DEFAULT is exclusive, so a partition takes guests where its label is not.
use Rattle.std.proofs.Common.{◌≡◌, not, ◌&&◌, refl, ap, ◌∙◌}
use Rattle.ynl_resource.specs.Names.{is_default}
use Rattle.ynl_resource.specs.declared.labels.Label.{Label}
use Rattle.ynl_resource.specs.declared.labels.Label.TheVariants.{Unlabelled, Named}
use Rattle.ynl_model.specs.Nodes.{Labels, is_exclusive}
use Rattle.ynl_inventory.proofs.start.partition_of.Goals as goal

guests-are : (labels : Labels) (label : Label) → not (is_exclusive labels label) ≡ (not (is_default label) && not (is_exclusive labels label))
guests-are labels Unlabelled = refl
guests-are labels (Named name) = refl

pub returns : goal.returns
returns c = λ i. record {
  label = c.args.label;
  guests = (ap not c.exclusive-guests.ensures ∙ guests-are c.args.labels.now c.args.label) i;
  limit = c.limit-limit.ensures i;
  clock = 0;
  containers = c.new.ensures i;
}
