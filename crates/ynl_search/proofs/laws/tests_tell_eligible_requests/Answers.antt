use Rattle.ynl_search.proofs.Tests.{tests-tell}
use Rattle.ynl_search.proofs.laws.tests_tell_eligible_requests.Goals as goal

pub returns : goal.returns
returns c = tests-tell
