use Rattle.ynl_words.proofs.options.with_files.Goals as goal

pub returns : goal.returns
returns c = λ a h. c.with_option.ensures _ _ c.from_option.ensures.rule (c.with_option-command.ensures a _ c.config_option.ensures.rule h)
