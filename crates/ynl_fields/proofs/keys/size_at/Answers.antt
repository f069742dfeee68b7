use Rattle.std.proofs.Common.{◌≡◌, ◌∙◌, rules}
use Rattle.ynl_fields.specs.Reading.{or_fault}
use Rattle.ynl_fields.proofs.Sizes.{size_from_new}
use Rattle.ynl_fields.proofs.keys.size_at.Goals as goal

pub returns-clause-size : goal.returns-clause-size
returns-clause-size g c =
    let said : c.ok_or.result ≡ or_fault c.args.fault c.new.result = search rules in
    said ∙ size_from_new c.args.fault c.args.memory c.args.vcores c.new.result c.new.ensures
