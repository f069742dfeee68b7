use Rattle.ynl_lines.proofs.Added.{audit_added}
use Rattle.ynl_fields.proofs.Pieces.{from_nothing}
use Rattle.ynl_lines.proofs.write.write_audit.Goals as goal

pub returns : goal.returns
returns c = record { text = audit_added c.args.entries _ _ (from_nothing _ _ _ c.new-text.ensures.items c.in_ok-add_number.ensures.added) c.in_ok-add.ensures.added }
