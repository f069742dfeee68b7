use Rattle.ynl_fields.proofs.Rows.{first_is}
use Rattle.ynl_lines.proofs.read.kind_of.Goals as goal

pub returns : goal.returns
returns c = rw first_is at c.find_word.ensures
