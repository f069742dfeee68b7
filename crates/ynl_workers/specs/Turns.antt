-- What a worker's receipts say of its turns.
use Rattle.std.specs.Prelude.{◌≡◌, ℕ, ◌<◌, List, [], ◌∷◌, ◌++◌, length, take, slice_get, Option, None, Some, MatchOption, ◌⊎◌}
use Rattle.ynl_resource.specs.declared.names.Name.{Name}
use Rattle.ynl_model.specs.declared.events.Event.TheVariants.{Propose, Commit}
use Rattle.ynl_model.specs.declared.proposals.Proposal.{Proposal}
use Rattle.ynl_model.specs.declared.replies.Reply.{Reply}
use Rattle.ynl_model.specs.declared.replies.Reply.TheVariants.{Proposed}
use Rattle.ynl_live.specs.declared.receipts.Receipt.{Receipt}

-- the proposal that a reply answers, if it answers one
abbrev pub proposal_in : Reply → Option Proposal
proposal_in (Proposed found) = found
proposal_in _ = None

-- a propose on this node that was answered this proposal, or none
pub record IsAsked (node : Name) (found : Option Proposal) (receipt : Receipt) : Type 0 where
  pub event : receipt.event ≡ Propose node
  pub reply : proposal_in receipt.reply ≡ found

-- a propose on the node, and, where that was answered a proposal, its commit
abbrev pub IsTurn : Name → List Receipt → Type 0
IsTurn node receipts =
    (asked : Receipt) × (found : Option Proposal) × IsAsked node found asked
    × MatchOption found (receipts ≡ asked ∷ []) (λ proposal. (done : Receipt) × (done.event ≡ Commit proposal) × (receipts ≡ asked ∷ done ∷ []))

-- one turn on each node, in the order of the nodes
abbrev pub IsWhole : List Name → List Receipt → Type 0
IsWhole [] receipts = receipts ≡ []
IsWhole (node ∷ nodes) receipts = (turn : List Receipt) × (others : List Receipt) × (receipts ≡ turn ++ others) × IsTurn node turn × IsWhole nodes others

-- the turns on the first nodes, and a propose on the next one that was answered a proposal
pub record IsHalted (nodes : List Name) (receipts : List Receipt) : Type 0 where
  pub turns : ℕ
  pub done : List Receipt
  pub last : Receipt
  pub node : Name
  pub found : Proposal
  pub whole : IsWhole (take turns nodes) done
  pub next : slice_get nodes turns ≡ Some node
  pub asked : IsAsked node (Some found) last
  pub all : receipts ≡ done ++ last ∷ []

-- the turns on all nodes, cut at some call: those on the first nodes but not on all, or these and a propose that was answered a proposal
abbrev pub IsCut : List Name → List Receipt → Type 0
IsCut nodes receipts = ((turns : ℕ) × (turns < length nodes) × IsWhole (take turns nodes) receipts) ⊎ IsHalted nodes receipts
