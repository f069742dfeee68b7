use Rattle.ynl_queues.proofs.draft.Draft.kept_at.Goals as goal

pub returns-clause-kept : goal.returns-clause-kept
returns-clause-kept c = c.row.ensures.kept c.args.self.now.queues c.index.ensures.rows
