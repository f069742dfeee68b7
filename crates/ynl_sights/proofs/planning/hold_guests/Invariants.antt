use Rattle.std.proofs.Common.{filter, take}
use Rattle.std.specs.Prelude.{flat_map}
use Rattle.ynl_resource.specs.declared.labels.Label.TheVariants.{Unlabelled}
use Rattle.ynl_sights.specs.Sights.{has_room}
use Rattle.ynl_sights.specs.Rows.{asks_at, bids_of}
use Rattle.ynl_sights.specs.Planning.{HoldsFirst}
use Rattle.ynl_sights.proofs.planning.hold_guests.Given as goal

abbrev pub invariant-loop-leaf : goal.invariant-loop-leaf
invariant-loop-leaf l = HoldsFirst l.initial.held (filter (has_room l.free) (bids_of (flat_map (asks_at Unlabelled l.guests) (take l.leaf-index l.all)))) l.held
