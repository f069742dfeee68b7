use Rattle.std.proofs.Common.{◌≡◌, ◌++◌, ◌∷◌, [], Some, None, sym, ap, subst, ◌∙◌}
use Rattle.indexmap.proofs.CallerLemmas.{insert_entry-new}
use Rattle.ynl_resource.specs.Names.{same_name}
use Rattle.ynl_tables.specs.declared.submissions.submissions.Submission.{Submission}
use Rattle.ynl_tables.specs.submissions.Submissions.{Listing, turn_of}
use Rattle.ynl_tables.proofs.submissions.Turns.{unused_get}
use Rattle.ynl_tables.proofs.submissions.submissions.Submissions.submit.Goals as goal

pub returns-clause-entries : goal.returns-clause-entries
returns-clause-entries c =
    let submission : Submission = record { leaf = c.args.leaf; app = Some c.args.app } in
    let unused : turn_of c.args.name.now c.self.inside.by_name.entries ≡ None = subst (λ (t : Listing). turn_of c.args.name.now t.entries ≡ None) (sym c.self.view_is) c.requires.unused in
    c.in-Ok.ensures.entries
    ∙ insert_entry-new same_name c.self.inside.by_name c.args.name.now submission (unused_get c.self.inside.by_name.entries c.args.name.now unused)
    ∙ ap (λ (t : Listing). t.entries ++ (c.args.name.now, submission) ∷ []) c.self.view_is
