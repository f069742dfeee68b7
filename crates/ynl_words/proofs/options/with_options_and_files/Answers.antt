use Rattle.ynl_words.proofs.options.with_options_and_files.Goals as goal

pub returns : goal.returns
returns c = λ a r s first second h. c.with_files.ensures _ (c.with_option-command.ensures _ s second (c.with_option.ensures a r first h))
