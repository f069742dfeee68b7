-- The first request by one pass over the list, which holds the soonest so far.
use Rattle.std.specs.Prelude.{List, fold, Option, Some, None, if◌then◌else◌}
use Rattle.std.specs.Ordering.{is_gt}
use Rattle.std.specs.Cmp.{IsTotalOrder}
use Rattle.ynl_model.specs.Service.{Item, Key, key_order}

-- of the request that is held and one more, the one that is before the other; where they tie the held one stays
abbrev pub sooner : (Item → Key) → Option Item → Item → Option Item
sooner key_of None item = Some item
sooner key_of (Some best) item = if is_gt (key_order (key_of best) (key_of item)) then Some item else Some best

-- what a pass over the whole list holds in the end
abbrev pub least_of : (Item → Key) → List Item → Option Item
least_of key_of items = fold (sooner key_of) None items

-- of two requests one is before the other or they tie, and what ties compares alike with every other
abbrev pub IsServiceOrdered : Type 0
IsServiceOrdered = IsTotalOrder key_order
