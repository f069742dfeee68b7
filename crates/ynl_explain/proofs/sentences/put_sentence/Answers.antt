use Rattle.ynl_explain.proofs.sentences.put_sentence.Goals as goal

pub returns-in-UserLimit : goal.returns-in-UserLimit
returns-in-UserLimit c = rw c.in-UserLimit.is c.put_user_limit.ensures
