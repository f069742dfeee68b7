-- A line without root, which is its first.
use Rattle.std.proofs.Common.{◌∷◌, subst}
use Rattle.ynl_resource.specs.Names.{root}
use Rattle.ynl_laws.specs.Ways.{IsWay}
use Rattle.ynl_inventory.specs.layout.Paths.{is_above, IsLine}
use Rattle.ynl_cluster.proofs.Lines.{line-begins}
use Rattle.ynl_cluster.proofs.ways.way_to.Goals as goal

pub returns-clause-line : goal.returns-clause-line
returns-clause-line c =
    subst (IsLine c.args.layout.now c.args.queue) (line-begins c.args.layout.now c.requires.tree c.args.queue c.line-line.result.now c.line-line.ensures.line) c.line-line.ensures.line

pub returns-clause-way : goal.returns-clause-way
returns-clause-way c =
    subst (IsWay (root ∷ c.args.layout.now) (is_above c.args.layout.now c.args.queue)) (line-begins c.args.layout.now c.requires.tree c.args.queue c.line-line.result.now c.line-line.ensures.line) c.line-line.ensures.way
