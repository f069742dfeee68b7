use Rattle.ynl_config.specs.Known.{is_known}
use Rattle.ynl_config.proofs.Known.{any_is}
use Rattle.ynl_config.proofs.keys.is_known.Goals as goal

pub returns-in-Top : goal.returns-in-Top
unfolding is_known
returns-in-Top c = rw c.in-Top.is (rw any_is at c.is_among.ensures)

pub returns-in-Label : goal.returns-in-Label
unfolding is_known
returns-in-Label c = rw c.in-Label.is (rw any_is at c.is_among-in-Label.ensures)

pub returns-in-Queue : goal.returns-in-Queue
unfolding is_known
returns-in-Queue c = rw c.in-Queue.is (rw any_is at c.is_among-in-Queue.ensures)

pub returns-in-LabelCapacity : goal.returns-in-LabelCapacity
unfolding is_known
returns-in-LabelCapacity c = rw c.in-LabelCapacity.is (rw any_is at c.is_among-in-LabelCapacity.ensures)
