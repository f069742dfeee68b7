use Rattle.std.proofs.Common.{◌∙◌}
use Rattle.ynl_lines.proofs.Added.{fault_added}
use Rattle.ynl_fields.proofs.Pieces.{from_nothing}
use Rattle.ynl_lines.proofs.write.write_fault.Goals as goal

pub returns : goal.returns
returns c = record {
  text =
      fault_added c.args.fault c.args.line c.as_bytes.result.now _ _ _ (c.as_bytes.ensures.value ∙ c.word.ensures) (from_nothing _ _ _ c.new-text.ensures.items c.in_ok-add_text.ensures.added)
      c.in_ok-add_number.ensures.added c.in_ok-add.ensures.added;
}
