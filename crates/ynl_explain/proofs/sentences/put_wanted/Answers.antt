use Rattle.ynl_explain.proofs.sentences.put_wanted.Goals as goal

pub returns-in-Master : goal.returns-in-Master
returns-in-Master c = rw c.in-Master.is c.put_pieces.ensures

pub returns-in-Ask : goal.returns-in-Ask
returns-in-Ask c = rw c.in-Ask.is c.put_pieces-in-Ask.ensures
