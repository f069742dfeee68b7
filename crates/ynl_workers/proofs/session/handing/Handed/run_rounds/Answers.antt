use Rattle.ynl_workers.proofs.session.Rounds.{AddsRounds-more}
use Rattle.ynl_workers.proofs.session.handing.Handed.run_rounds.Goals as goal

pub loop-preserved : goal.loop-preserved
loop-preserved g c =
    AddsRounds-more (g.G.Gate.is_free c.args.gate.now) c.args.nodes.now c.loop.counter c.args.self.now.lists.items c.loop.self.lists.items c.run_round.new.self.lists.items c.loop.invariant c.in_ok-run_round.ensures
