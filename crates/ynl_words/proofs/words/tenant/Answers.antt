use Rattle.ynl_words.proofs.words.tenant.Goals as goal

pub returns : goal.returns
returns c = c.with_partition.ensures _ c.bare.ensures
