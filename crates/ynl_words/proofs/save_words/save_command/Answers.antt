use Rattle.ynl_words.proofs.save_words.save_command.Goals as goal

pub returns : goal.returns
returns c = c.with_files.ensures _ c.bare.ensures
