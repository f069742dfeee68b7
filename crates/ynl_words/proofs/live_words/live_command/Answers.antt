use Rattle.ynl_words.proofs.live_words.live_command.Goals as goal

pub returns : goal.returns
returns c = c.with_options_and_files.ensures _ _ _ c.workers_option.ensures.rule c.rounds_option.ensures.rule c.bare.ensures
