-- How many nodes a label has, in a map from labels.
use Rattle.std.specs.Prelude.{ℕ}
use Rattle.std.specs.BTreeMap.{BTreeMap, get}
use Rattle.std.specs.Option.{IsSome, unwrap_or}
use Rattle.std.specs.declared.cmp.Ordering.{Ordering}
use Rattle.ynl_resource.specs.contracts.labels.LabelOrd.TheImpl as label_ord
use Rattle.ynl_resource.specs.declared.labels.Label.{Label}

-- the order of labels
abbrev pub label_order : Label → Label → Ordering
label_order = (label_ord.ghosts).cmp

-- the count of a label; none where it has no row
abbrev pub count_at : BTreeMap Label ℕ → Label → ℕ
count_at counts label = unwrap_or (get label_order counts label) 0

-- the label has a row
abbrev pub HasRow : BTreeMap Label ℕ → Label → Type 0
HasRow counts label = IsSome (get label_order counts label)
