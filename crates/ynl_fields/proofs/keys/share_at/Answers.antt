use Rattle.std.proofs.Common.{◌≡◌, ◌∙◌, rules}
use Rattle.ynl_resource.specs.Ranges.{whole}
use Rattle.ynl_fields.specs.Reading.{or_fault}
use Rattle.ynl_fields.proofs.Sizes.{within_from_new}
use Rattle.ynl_fields.proofs.keys.share_at.Goals as goal

pub returns-clause-share : goal.returns-clause-share
returns-clause-share g c =
    let said : c.ok_or.result ≡ or_fault c.args.fault c.new.result = search rules in
    said ∙ within_from_new c.args.fault whole c.args.number c.new.result c.new.ensures
