use Rattle.std.proofs.Common.{sym, ap, ◌∙◌, ◌&&◌}
use Rattle.ynl_resource.specs.Names.{same_path}
use Rattle.ynl_resource.proofs.PathEnds.{ends}
use Rattle.ynl_resource.proofs.paths.same_path.Goals as goal

pub returns-then-eq : goal.returns-then-eq
returns-then-eq c = let s = c.in-Some-Some in c.eq-then-eq.ensures ∙ sym (ends c.args.path.now c.args.other.now s.above.now s.over.now s.name.now s.end.now s.ensures.cases.0 s.ensures'.cases.0 ∙ ap (λ b. b && same_path s.above.now s.over.now) (sym c.eq.ensures ∙ c.if-eq.true))

pub returns-else-eq : goal.returns-else-eq
returns-else-eq c = let s = c.in-Some-Some in c.if-eq.false ∙ sym (ends c.args.path.now c.args.other.now s.above.now s.over.now s.name.now s.end.now s.ensures.cases.0 s.ensures'.cases.0 ∙ ap (λ b. b && same_path s.above.now s.over.now) (sym c.eq.ensures ∙ c.if-eq.false))
