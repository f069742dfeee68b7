-- Places as they are found, with texts that are lent.
use Rattle.std.specs.Prelude.{pos, Option, Some, None, option_and_then, unwrap_or, option_map}
use Rattle.std.specs.Borrow.{Bor}
use Rattle.ynl_resource.specs.Texts.{path_text}
use Rattle.ynl_resource.specs.declared.labels.Label.{Label}
use Rattle.ynl_resource.specs.declared.labels.Label.TheVariants.{Unlabelled, Named}
use Rattle.ynl_config.specs.declared.lent.LentValue.{LentValue}
use Rattle.ynl_config.specs.declared.lent.LentValue.TheVariants as lent
use Rattle.ynl_config.specs.declared.lent.LentPlace.{LentPlace}
use Rattle.ynl_config.specs.declared.tree_places.Partition.{Partition}
use Rattle.ynl_config.specs.declared.tree_places.Partition.TheVariants.{Default, Labelled}
use Rattle.ynl_config.specs.Places.{Shown, of_integer, told_text, Place, nowhere}

-- what is told of a value that is lent
abbrev pub shown_of : LentValue → Option Shown
shown_of (lent.Text s) = told_text s.now
shown_of (lent.Path p) = told_text (path_text p.now)
shown_of (lent.Integer z) = Some (of_integer z)
shown_of (lent.Count n) = Some (of_integer (pos n))

-- what is told of one that may be absent
abbrev pub shown : Option LentValue → Option Shown
shown value = option_and_then shown_of value

-- a place whose texts are lent
abbrev pub lent_of : LentPlace → Place
lent_of p = record {
  table = p.table;
  row = p.row;
  queue = shown p.queue;
  label = shown p.label;
  key = shown p.key;
  value = shown p.value;
  line = None;
  capacity = p.capacity;
  maximum = p.maximum;
  sum = p.sum;
}

-- the place that was found, or the one of which nothing is told
abbrev pub found_of : Option LentPlace → Place
found_of found = unwrap_or (option_map lent_of found) nowhere

-- what stands behind a reference that may be absent
abbrev pub seen : {A : Type 0} → Option (Bor A) → Option A
seen = option_map (λ r. r.now)

-- the label of a partition
abbrev pub label_of : Partition → Label
label_of Default = Unlabelled
label_of (Labelled name) = Named name.now
