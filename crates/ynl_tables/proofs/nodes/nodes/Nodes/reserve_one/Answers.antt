use Rattle.std.proofs.Common.{true, refl, arith}
use Rattle.ynl_tables.proofs.nodes.Changes.{same_kept}
use Rattle.ynl_tables.proofs.nodes.nodes.Nodes.reserve_one.Goals as goal

pub invariant_of-self : goal.invariant_of-self
invariant_of-self c =
    same_kept c.self.inside c.self.invariant c.reserve_one.new.self c.self.inside.numbers c.self.inside.ready
    (λ ready. let before = c.self.invariant.room ready in omega (arith, before, c.in_err-reserve_one.ensures.room)) c.in_err-reserve_one.ensures.entries (λ q. refl)

pub invariant_of-self-2 : goal.invariant_of-self-2
invariant_of-self-2 c =
    same_kept c.self.inside c.self.invariant c.reserve_one.new.self c.self.inside.numbers true (λ ready. c.in_ok-reserve_one.ensures.ok) c.in_ok-reserve_one.ensures.entries (λ q. refl)
