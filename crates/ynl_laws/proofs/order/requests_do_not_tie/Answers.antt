use Rattle.ynl_laws.proofs.Service.Untied.{do_requests_not_tie, do_guests_not_tie}
use Rattle.ynl_laws.proofs.order.requests_do_not_tie.Goals as goal

pub returns-clause-requests : goal.returns-clause-requests
returns-clause-requests c = do_requests_not_tie

pub returns-clause-guests : goal.returns-clause-guests
returns-clause-guests c = do_guests_not_tie
