use Rattle.std.proofs.Common.{◌≡◌, arith}
use Rattle.ynl_resource.proofs.Heads.{digits_at, code_read}
use Rattle.ynl_resource.proofs.names.Name.code.Goals as goal

pub returns-clause-value : goal.returns-clause-value
returns-clause-value c =
    let place = c.self.inside.bytes in
    let is = c.from_be_bytes.ensures in
    let all : c.from_be_bytes.result ≡ digits_at 16 0 place = omega (arith, is) in
    code_read place c.args.self.now c.self.inside.len c.from_be_bytes.result c.self.invariant.padded c.self.view_is (omega (arith, c.if-self-gt16.false)) all
