use Rattle.std.proofs.Common.{IfSome, option_map, Some, nat_eq, subst, ◌≡◌, ◌∙◌}
use Rattle.std.specs.Map.{lookup}
use Rattle.ynl_tables.specs.declared.containers.container.Container.{Container}
use Rattle.ynl_tables.specs.containers.Table.{Table}
use Rattle.ynl_tables.proofs.containers.Clocks.{found_owns}
use Rattle.ynl_tables.proofs.containers.Placing.{containers_of}
use Rattle.ynl_tables.proofs.containers.Rows.{distinct_of_rows}
use Rattle.ynl_tables.proofs.containers.containers.Containers.find.Goals as goal

pub returns-clause-own : goal.returns-clause-own
returns-clause-own c =
    subst (λ (t : Table). IfSome c.copied.result (λ n. option_map (λ (x : Container). x.clock) (lookup (nat_eq n) t.entries) ≡ Some c.args.clock)) c.self.view_is
    (found_owns (containers_of c.self.inside.rows.entries) c.args.clock c.copied.result (distinct_of_rows (λ row. row.container) c.self.inside.rows.entries c.self.invariant.distinct)
    (c.copied.ensures ∙ c.get.ensures.value ∙ c.self.invariant.found c.args.clock))
