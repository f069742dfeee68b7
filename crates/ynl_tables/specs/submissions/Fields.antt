-- What the hash table of the submissions means.
use Rattle.std.specs.Prelude.{◌<◌, ◌-◌, ◌^◌, length, min}
use Rattle.indexmap.specs.IndexMap.{spare}
use Rattle.ynl_tables.specs.declared.submissions.submissions.Submissions.TheInside.{Inside}
use Rattle.ynl_tables.specs.submissions.Submissions.{Listing}

-- what a contract sees
abbrev pub listing_of : Inside → Listing
listing_of a = record { entries = a.by_name.entries; room = min (spare a.by_name) (2 ^ 32 - 1 - length a.by_name.entries) }

-- each turn fits
abbrev pub HasTurns : Inside → Type 0
HasTurns a = length a.by_name.entries < 2 ^ 32
