use Rattle.std.proofs.Common.{◌≡◌, ◌++◌, [], drop}
use Rattle.ynl_view.specs.evidence.Evidence.{evidence_from}
use Rattle.ynl_view.proofs.evidence.gathering.gather.Given as goal

-- what was gathered, with the evidence of the entries that are left, is the evidence of all
abbrev pub invariant-loop-i : goal.invariant-loop-i
invariant-loop-i l = l.found.items ++ evidence_from l.tenant l.label l.config l.i l.track (drop l.i l.entries) ≡ evidence_from l.tenant l.label l.config 0 [] l.entries
