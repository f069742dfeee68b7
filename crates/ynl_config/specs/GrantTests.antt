-- The tests of places, over what was looked up once of each queue.
use Rattle.std.specs.Prelude.{Bool, List, not, ◌&&◌, ◌||◌, ◌==◌, nat_le}
use Rattle.ynl_resource.specs.declared.names.Name.{Name}
use Rattle.ynl_resource.specs.declared.labels.Label.{Label}
use Rattle.ynl_resource.specs.declared.labels.Label.TheVariants.{Named}
use Rattle.ynl_resource.specs.Names.{is_default}
use Rattle.ynl_resource.specs.Ranges.{whole}
use Rattle.ynl_model.specs.Nodes.{Labels}
use Rattle.ynl_queues.specs.declared.grants.Grant.{Grant}
use Rattle.ynl_queues.specs.Grants.{reaches, capacity_at, maximum_at, total_at}

-- whether a queue may not use a label
abbrev pub is_kept_from : Labels → Grant → Name → Bool
is_kept_from labels queue name = not (reaches labels queue (Named name))

-- whether a queue may use a label that the one above it may not
abbrev pub goes_beyond : Labels → Grant → Grant → Name → Bool
goes_beyond labels queue above name = reaches labels queue (Named name) && is_kept_from labels above name

-- whether a queue's maximum is below its capacity on a partition
abbrev pub is_low : Labels → Grant → Label → Bool
is_low labels queue label = not (nat_le (capacity_at labels queue label) (maximum_at labels queue label))

-- whether queues have the whole of a partition together, or nothing of a label
abbrev pub comes_out : Labels → List Grant → Label → Bool
comes_out labels queues label = total_at labels queues label == whole || (not (is_default label) && total_at labels queues label == 0)
