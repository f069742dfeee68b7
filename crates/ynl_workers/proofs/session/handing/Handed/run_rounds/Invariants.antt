use Rattle.ynl_workers.specs.session.Handed.{AddsRounds}
use Rattle.ynl_workers.proofs.session.handing.Handed.run_rounds.Given as goal

abbrev pub invariant-loop : goal.invariant-loop
invariant-loop g l = AddsRounds (g.G.Gate.is_free l.gate) l.nodes l.counter l.fn.self.lists.items l.self.lists.items
