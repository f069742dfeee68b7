use Rattle.ynl_search.proofs.GuestFirst.{guest-means}
use Rattle.ynl_search.proofs.laws.first_guest_is_the_models.Goals as goal

pub returns : goal.returns
returns c = guest-means
