use Rattle.std.proofs.Common.{◌≡◌, option_map, slice_get, Some, sym, subst, ◌∙◌}
use Rattle.ynl_resource.specs.declared.names.Name.{Name}
use Rattle.ynl_tables.specs.declared.submissions.submissions.Submission.{Submission}
use Rattle.ynl_tables.specs.submissions.Submissions.{Listing}
use Rattle.ynl_tables.proofs.submissions.Turns.{turn_owns}
use Rattle.ynl_tables.proofs.submissions.submissions.Submissions.find.Goals as goal

pub returns-clause-own : goal.returns-clause-own
returns-clause-own c =
    subst (λ (t : Listing). option_map (λ (e : Name × Submission). e.0) (slice_get t.entries c.in_ok-turn.turn) ≡ Some c.args.name.now) c.self.view_is
    (turn_owns c.self.inside.by_name.entries c.args.name.now (Some c.in_ok-turn.turn) (sym c.in_ok-turn.was ∙ c.get_index_of.ensures.index))
