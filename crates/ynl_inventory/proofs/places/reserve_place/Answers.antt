-- A place is made, or is refused.
use Rattle.ynl_inventory.proofs.ChainPlaces.{no-more, one-more}
use Rattle.ynl_inventory.proofs.places.reserve_place.Goals as goal

pub returns-in_err-reserve_chain-clause-more : goal.returns-in_err-reserve_chain-clause-more
returns-in_err-reserve_chain-clause-more c = no-more c.args.app c.args.apps.now c.reserve_chain.new.self c.in_err-reserve_chain.ensures.err

pub returns-clause-more : goal.returns-clause-more
returns-clause-more c = one-more c.args.app c.args.p c.args.apps.now c.reserve_chain.new.self c.in_ok-reserve_chain.ensures.ok
