use Rattle.ynl_explain.proofs.telling.put_front.Goals as goal

pub returns-in-Master-clause-tokens : goal.returns-in-Master-clause-tokens
returns-in-Master-clause-tokens c = rw c.in-Master.is c.put_members.ensures.tokens

pub returns-in-Ask-clause-tokens : goal.returns-in-Ask-clause-tokens
returns-in-Ask-clause-tokens c = rw c.in-Ask.is c.put_members-in-Ask.ensures.tokens
