use Rattle.std.proofs.Common.{subst}
use Rattle.ynl_tables.specs.submissions.Submissions.{Listing, HasDistinctNames}
use Rattle.ynl_tables.proofs.submissions.Turns.{distinct_names}
use Rattle.ynl_tables.proofs.submissions.submissions.Submissions.len.Goals as goal

pub returns-clause-distinct : goal.returns-clause-distinct
returns-clause-distinct c = subst (λ (t : Listing). HasDistinctNames t.entries) c.self.view_is (distinct_names c.self.inside.by_name.entries c.len.ensures.unique)
