use Rattle.ynl_words.proofs.words.run.Goals as goal

pub returns : goal.returns
returns c = c.with_files.ensures _ c.bare.ensures
