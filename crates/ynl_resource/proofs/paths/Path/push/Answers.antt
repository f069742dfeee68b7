use Rattle.std.proofs.Common.{arith}
use Rattle.ynl_resource.proofs.PathTexts.{place_more}
use Rattle.ynl_resource.proofs.paths.Path.push.Goals as goal

pub invariant_of-self : goal.invariant_of-self
invariant_of-self c = place_more c.self.inside.names c.self.inside.len c.args.name.now (omega (arith, c.if-len-ge7.false)) c.self.invariant
