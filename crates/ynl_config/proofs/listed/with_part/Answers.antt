use Rattle.std.proofs.Common.{sym, ap, ◌∙◌}
use Rattle.ynl_config.specs.Access.{trimmed, with_part}
use Rattle.ynl_config.specs.Readings.{name_of}
use Rattle.ynl_config.specs.Earliest.{both}
use Rattle.ynl_config.proofs.Joined.{both_lost}
use Rattle.ynl_config.proofs.listed.with_part.Goals as goal

pub returns-in-Err-clause-names : goal.returns-in-Err-clause-names
unfolding with_part
returns-in-Err-clause-names c =
    both_lost c.args.names (name_of (trimmed c.args.part.now)) _ c.in-Err.fault
    (ap (both c.args.names) (sym (c.name_of-name.ensures ∙ ap name_of c.trimmed.ensures)) ∙ sym c.in-Err.ensures)
