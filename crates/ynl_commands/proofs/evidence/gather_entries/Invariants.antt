use Rattle.ynl_commands.specs.declared.evidence.Gathering.{Gathering}
use Rattle.ynl_commands.specs.Audit.{journal_way}
use Rattle.ynl_commands.specs.Evidence.{IsGathering}
use Rattle.ynl_commands.specs.Input.{between}
use Rattle.ynl_commands.proofs.Answerings.{HasCome}
use Rattle.ynl_commands.proofs.evidence.gather_entries.Given as goal

-- the lines that were read gave entries, of which the evidence was gathered
abbrev pub invariant-lines : goal.invariant-lines
invariant-lines g l = HasCome journal_way (IsGathering l.whose) (λ (x : Gathering). x.entries) (between (g.R.Read.remaining l.initial.reader) (g.R.Read.remaining l.reader)) l.input l.gathering

abbrev pub decreases-lines : goal.decreases-lines
decreases-lines g l = l.input.budget
