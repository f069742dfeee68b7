-- A place is made, or none is needed.
use Rattle.std.proofs.Common.{refl}
use Rattle.ynl_inventory.proofs.ChainPlaces.{no-more}
use Rattle.ynl_inventory.proofs.places.reserve_guest.Goals as goal

pub returns-then-not-guests-clause-more : goal.returns-then-not-guests-clause-more
returns-then-not-guests-clause-more c = no-more c.args.app c.args.apps.now c.args.apps.now refl
