use Rattle.std.proofs.Common.{sym, ◌∙◌}
use Rattle.ynl_view.proofs.nodes.Leads.{found_at, found_nowhere}
use Rattle.ynl_view.proofs.nodes.nodes.Nodes.find.Goals as goal

pub returns-in-Some : goal.returns-in-Some
returns-in-Some c = c.get-in-Some.ensures.value ∙ found_at c.self.inside c.self.invariant c.args.self.now c.self.view_is c.args.name.now c.in-Some.number.now (sym c.in-Some.ensures.value)

pub returns-in-None : goal.returns-in-None
returns-in-None c = found_nowhere c.self.inside c.self.invariant c.args.self.now c.self.view_is c.args.name.now (sym c.in-None.ensures.value)
