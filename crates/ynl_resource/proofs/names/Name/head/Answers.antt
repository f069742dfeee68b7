use Rattle.std.proofs.Common.{ap, ◌∙◌, arith}
use Rattle.ynl_resource.specs.Heads.{head_of}
use Rattle.ynl_resource.proofs.Heads.{digits_read}
use Rattle.ynl_resource.proofs.names.Name.head.Goals as goal

pub returns-clause-value : goal.returns-clause-value
returns-clause-value c =
    let read = digits_read 8 c.self.inside.bytes c.self.inside.len c.self.invariant.padded in
    let is = c.from_be_bytes.ensures in
    omega (arith, is, read) ∙ ap (head_of 8) c.self.view_is
