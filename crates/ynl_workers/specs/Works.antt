-- What a worker did, by how it ended.
use Rattle.std.specs.Prelude.{◌≡◌, ◌+◌, ◌≤◌, ◌<◌, List, [], ◌∷◌, ◌++◌, length, All, Some, ◌⊎◌}
use Rattle.ynl_resource.specs.declared.names.Name.{Name}
use Rattle.ynl_model.specs.declared.proposals.Proposal.{Proposal}
use Rattle.ynl_live.specs.declared.calling.CallFault.{CallFault}
use Rattle.ynl_live.specs.declared.calling.CallFault.TheVariants as Call
use Rattle.ynl_live.specs.declared.receipts.Receipt.{Receipt}
use Rattle.ynl_live.specs.Receipts.{Rises}
use Rattle.ynl_live.specs.Seats.{Standing}
use Rattle.ynl_workers.specs.declared.working.End.{End}
use Rattle.ynl_workers.specs.declared.working.End.TheVariants.{Whole, Halted, NoMemory, Behind}
use Rattle.ynl_workers.specs.Turns.{IsAsked, IsTurn, IsWhole, IsHalted, IsCut}

-- The receipts of a worker over these nodes that came to this end: a turn on each node; where the gate halted it, which a free gate does
-- not, all up to a proposal that was not committed; where a call was not answered, all before that call.
abbrev pub IsWork : Type 0 → List Name → List Receipt → End → Type 0
IsWork free nodes receipts Whole = IsWhole nodes receipts
IsWork free nodes receipts Halted = (free → ⊥) × IsHalted nodes receipts
IsWork free nodes receipts NoMemory = IsCut nodes receipts
IsWork free nodes receipts (Behind entered) = IsCut nodes receipts

-- how a worker ends whose call was not answered
abbrev pub end_of : CallFault → End
end_of Call.NoMemory = NoMemory
end_of (Call.Behind entered) = Behind entered

-- Receipts of calls on a seat that stood here before them, and there after them: they are as many as the calls, and their places rise, from
-- the first front on and below the last.
pub record AreCallsOn (before after : Standing) (receipts : List Receipt) : Type 0 where
  pub calls : after.calls ≡ before.calls + length receipts
  pub front : before.front ≤ after.front
  pub rises : Rises receipts
  pub between : All (λ receipt. (before.front ≤ receipt.place) × (receipt.place < after.front)) receipts

-- a propose that was answered a proposal, alone
abbrev pub IsAskedAlone : Name → List Receipt → Type 0
IsAskedAlone node receipts = (asked : Receipt) × (found : Proposal) × IsAsked node (Some found) asked × (receipts ≡ asked ∷ [])

-- the receipts of one turn that came to this end
abbrev pub IsTurnTo : Type 0 → Name → List Receipt → End → Type 0
IsTurnTo free node receipts Whole = IsTurn node receipts
IsTurnTo free node receipts Halted = (free → ⊥) × IsAskedAlone node receipts
IsTurnTo free node receipts NoMemory = (receipts ≡ []) ⊎ IsAskedAlone node receipts
IsTurnTo free node receipts (Behind entered) = (receipts ≡ []) ⊎ IsAskedAlone node receipts

-- what one turn adds to the receipts, and how it moves the seat
pub record Adds (free : Type 0) (node : Name) (old new : List Receipt) (before after : Standing) (end : End) : Type 0 where
  pub added : List Receipt
  pub all : new ≡ old ++ added
  pub calls : AreCallsOn before after added
  pub short : length added ≤ 2
  pub turn : IsTurnTo free node added end
