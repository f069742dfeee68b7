use Rattle.ynl_search.proofs.GuestFirst.{guest-is-asked}
use Rattle.ynl_search.proofs.laws.first_guest_is_asked_for.Goals as goal

pub returns : goal.returns
returns c = guest-is-asked
