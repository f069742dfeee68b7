use Rattle.ynl_words.proofs.explain_words.explain_command.Goals as goal

pub returns : goal.returns
returns c =
    c.with_options_and_files.ensures _ _ _ c.app_option.ensures.rule c.plain_option.ensures.rule (c.with_option-named.ensures _ _ c.tenant_option.ensures.rule c.bare.ensures)
