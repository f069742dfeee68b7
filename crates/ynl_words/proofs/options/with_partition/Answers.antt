use Rattle.ynl_words.proofs.options.with_partition.Goals as goal

pub returns : goal.returns
returns c = λ a h.
    c.with_option.ensures _ _ c.config_option.ensures.rule
    (c.with_option-command-2.ensures _ _ c.label_option.ensures.rule (c.with_option-command.ensures a _ c.tenant_option.ensures.rule h))
