use Rattle.ynl_words.proofs.audit_words.evidence_command.Goals as goal

pub returns : goal.returns
returns c = c.with_partition.ensures _ c.bare.ensures
