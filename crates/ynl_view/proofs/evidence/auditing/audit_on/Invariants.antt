use Rattle.std.proofs.Common.{◌≡◌, take, drop}
use Rattle.ynl_view.specs.evidence.Flaws.{flaw_from, flaw_of}
use Rattle.ynl_view.specs.evidence.Trials.{IsTrialOf}
use Rattle.ynl_view.proofs.evidence.auditing.audit_on.Given as goal

-- the audit has come to the end of the entries so far, which have no flaw
abbrev pub invariant-loop-i : goal.invariant-loop-i
invariant-loop-i l = record {
  trial : IsTrialOf l.config l.tenant (take l.i l.placed) l.trial;
  flaw : flaw_of l.config l.tenant l.label l.placed ≡ flaw_from l.config l.tenant l.label (take l.i l.placed) (drop l.i l.placed);
}
