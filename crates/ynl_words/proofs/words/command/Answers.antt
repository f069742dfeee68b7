use Rattle.ynl_words.proofs.words.command.Goals as goal

pub returns : goal.returns
returns c =
    let events = c.with-command-2.ensures _ _ (c.with-command.ensures _ _ c.bare_command.ensures c.run.ensures) c.tenant.ensures in
    let journals = c.with-command-4.ensures _ _ (c.with-command-3.ensures _ _ events c.audit_command.ensures) c.evidence_command.ensures in
    let states = c.with-command-6.ensures _ _ (c.with-command-5.ensures _ _ journals c.explain_command.ensures) c.save_command.ensures in
    c.with.ensures _ _ (c.with-command-7.ensures _ _ states c.check_command.ensures) c.live_command.ensures
