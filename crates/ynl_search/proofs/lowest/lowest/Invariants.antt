use Rattle.std.proofs.Common.{◌≡◌, ◌&&◌, nat_eq, take}
use Rattle.ynl_search.specs.Lowest.{lowest}
use Rattle.ynl_search.proofs.lowest.lowest.Given as goal

abbrev pub invariant-loop-ask : goal.invariant-loop-ask
invariant-loop-ask g l = l.best ≡ lowest (λ ask. nat_eq ask.partition l.p && g.T.SizeTest.passes l.test ask.size) (take l.ask-index l.asks)
