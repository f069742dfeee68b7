use Rattle.std.proofs.Common.{codes}
use Rattle.std.proofs.lemmas.Result.{on_ok_weaker}
use Rattle.json.specs.Print.{escape_byte}
use Rattle.serde_json.specs.Written.{compact_text}
use Rattle.ynl_lines.specs.Writing.{proposal_data}
use Rattle.ynl_fields.proofs.Pieces.{both}
use Rattle.ynl_lines.proofs.write_events.add_commit.Goals as goal

pub returns-clause-added : goal.returns-clause-added
unfolding escape_byte
returns-clause-added c =
    on_ok_weaker c.add-2.result
    (λ e. both c.args.text.now.items c.add.new.text.items _ (codes "{\"event\":\"commit\",\"proposal\":") _ c.in_ok-add.ensures.added
    (both c.add.new.text.items c.add_proposal.new.text.items _ (compact_text (proposal_data c.args.proposal.now)) (codes "}") c.in_ok-add_proposal.ensures.added e))
    c.add-2.ensures.added
