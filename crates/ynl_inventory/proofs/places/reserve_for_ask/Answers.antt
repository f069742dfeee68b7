-- No place is needed but for guests.
use Rattle.std.proofs.Common.{refl}
use Rattle.ynl_inventory.proofs.ChainPlaces.{no-more}
use Rattle.ynl_inventory.proofs.places.reserve_for_ask.Goals as goal

pub returns-then-ask-eq0-clause-more : goal.returns-then-ask-eq0-clause-more
returns-then-ask-eq0-clause-more c = no-more c.args.app c.args.apps.now c.args.apps.now refl
