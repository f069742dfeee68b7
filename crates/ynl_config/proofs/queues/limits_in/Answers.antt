use Rattle.ynl_config.proofs.queues.limits_in.Goals as goal

pub returns : goal.returns
returns c = cc
