use Rattle.std.proofs.Common.{ap, ◌∙◌}
use Rattle.ynl_view.specs.evidence.Flaws.{flaw_of}
use Rattle.ynl_view.proofs.evidence.Passing.{evidence_passes}
use Rattle.ynl_view.proofs.evidence.gathering.evidence.Goals as goal

pub returns : goal.returns
returns c = record {
  found = c.in_ok-gather.ensures;
  passes = λ accepted agrees.
      ap (flaw_of c.args.config.now c.args.tenant.now c.args.label.now) c.in_ok-gather.ensures
      ∙ evidence_passes c.args.config.now c.args.entries.now c.args.tenant.now c.args.label.now agrees accepted c.requires;
}
