use Rattle.ynl_words.proofs.check_words.check_command.Goals as goal

pub returns : goal.returns
returns c = c.with_option.ensures _ _ c.config_option.ensures.rule (c.with_option-command.ensures _ _ c.plain_option.ensures.rule c.bare-command.ensures)
