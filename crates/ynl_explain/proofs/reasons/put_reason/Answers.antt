use Rattle.ynl_explain.proofs.reasons.put_reason.Goals as goal

pub returns-in-Application-clause-tokens : goal.returns-in-Application-clause-tokens
returns-in-Application-clause-tokens c = rw c.in-Application.is c.put_word.ensures.tokens

pub returns-in-Maximum-clause-tokens : goal.returns-in-Maximum-clause-tokens
returns-in-Maximum-clause-tokens c = rw c.in-Maximum.is c.put_maximum.ensures.tokens

pub returns-in-UserLimit-clause-tokens : goal.returns-in-UserLimit-clause-tokens
returns-in-UserLimit-clause-tokens c = rw c.in-UserLimit.is c.put_user_limit.ensures.tokens
