use Rattle.ynl_words.proofs.audit_words.audit_command.Goals as goal

pub returns : goal.returns
returns c = c.with_options_and_files.ensures _ _ _ c.audit_tenant_option.ensures.rule c.audit_label_option.ensures.rule c.bare.ensures
