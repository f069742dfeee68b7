use Rattle.ynl_view.proofs.nodes.Entries.{comes_last, goes_again}
use Rattle.ynl_view.proofs.nodes.nodes.put.Goals as goal

pub returns-in-Ok-clause-things : goal.returns-in-Ok-clause-things
returns-in-Ok-clause-things g c = comes_last c.args.number c.args.thing c.args.things.now.entries c.insert.new.self.entries c.requires c.in_ok-insert.ensures.entries

pub returns-in-Err-clause-things_err : goal.returns-in-Err-clause-things_err
returns-in-Err-clause-things_err g c =
    goes_again c.args.number c.args.thing c.args.things.now.entries c.insert.new.self.entries c.remove-thing.new.self.entries c.requires c.in_ok-insert.ensures.entries c.remove-thing.ensures.entries
