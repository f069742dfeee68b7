use Rattle.std.proofs.Common.{arith}
use Rattle.ynl_resource.proofs.IdTexts.{clock_parts, parsed, nonempty}
use Rattle.ynl_resource.proofs.ids.read_clock.Goals as goal

pub returns-in_default-3 : goal.returns-in_default-3
returns-in_default-3 c = λ clock.
    let ds = c.args.digits.now in
    let parts = clock_parts ds clock in
    let refused = rw c.in_default.is at (parsed ds c.parse.result c.parse.ensures.value.0 parts.0) in
    refused (nonempty ds parts.1, omega (arith, parts.2))
